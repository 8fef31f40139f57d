use Rattle.std.proofs.Common.{◌∙◌, ap, subst, sym, Some, FitsSigned}
use Rattle.std.specs.Int.{w32}
use Rattle.std.proofs.lemmas.Int.{to_z-of_z}
use Rattle.bson_model.proofs.JsonTextsLemmas.{int_some, int_none}
use Rattle.bson_model.proofs.extjson.de.texts.read_int.Goals as goal

pub returns-in-Ok : goal.returns-in-Ok
returns-in-Ok c =
    let parsed = c.in-Ok.ensures.value.0 in
    ap Some (to_z-of_z w32 c.in-Ok.n (subst (FitsSigned w32) (sym parsed.1) parsed.0.1)) ∙ int_some c.args.text.now c.in-Ok.n parsed

pub returns-in-Err : goal.returns-in-Err
returns-in-Err c = int_none c.args.text.now c.in-Err.ensures.value.0
