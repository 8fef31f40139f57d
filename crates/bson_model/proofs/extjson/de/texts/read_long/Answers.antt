use Rattle.std.proofs.Common.{◌∙◌, ap, subst, sym, Some, FitsSigned}
use Rattle.std.specs.Int.{w64}
use Rattle.std.proofs.lemmas.Int.{to_z-of_z}
use Rattle.bson_model.proofs.JsonTextsLemmas.{long_some, long_none}
use Rattle.bson_model.proofs.extjson.de.texts.read_long.Goals as goal

pub returns-in-Ok : goal.returns-in-Ok
returns-in-Ok c =
    let parsed = c.in-Ok.ensures.value.0 in
    ap Some (to_z-of_z w64 c.in-Ok.n (subst (FitsSigned w64) (sym parsed.1) parsed.0.1)) ∙ long_some c.args.text.now c.in-Ok.n parsed

pub returns-in-Err : goal.returns-in-Err
returns-in-Err c = long_none c.args.text.now c.in-Err.ensures.value.0
