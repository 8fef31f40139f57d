use Rattle.std.proofs.Common.{◌∙◌, ap, sym, subst}
use Rattle.serde_json.specs.View.{view as data_of}
use Rattle.bson_model.specs.JsonKeys.{reserved_of}
use Rattle.bson_model.specs.JsonRead.{GivesReading, read_wrapped}
use Rattle.bson_model.specs.View.{view}
use Rattle.bson_model.proofs.JsonReadLemmas.{alone_read}
use Rattle.bson_model.proofs.extjson.de.read_alone.Goals as goal

pub returns-in-Some : goal.returns-in-Some
returns-in-Some c =
    let whole = alone_read c.args.members.entries c.next.new.self c.in-Some.key c.in-Some.value c.requires (sym c.into_iter.ensures.into_iter_gives.0 ∙ c.in-Some.ensures.steps) in
    subst (GivesReading view c.read_wrapped.result) (sym (whole ∙ ap (λ k. read_wrapped (reserved_of k) (data_of c.in-Some.value)) (sym c.deref.ensures))) c.read_wrapped.ensures
