use Rattle.std.proofs.Common.{◌∙◌, Some, ap, rules, sym}
use Rattle.json.specs.Value.{value_view}
use Rattle.bson_base.specs.Value.{scalar, timestamp}
use Rattle.bson_model.specs.JsonKeys.{of_timestamp}
use Rattle.bson_model.specs.JsonWrappers.{reserved_key}
use Rattle.bson_model.specs.declared.bson.Bson.{the_lemmas}
use Rattle.store_documents.proofs.WrapperLemmas.{typed_if, typed_told}
use Rattle.store_documents.proofs.scalars.wrapped.Goals as goal

pub returns-in-Some-timestamp : goal.returns-in-Some-timestamp
returns-in-Some-timestamp c = λ _.
    let reserved = sym c.in-Some-Timestamp.ensures ∙ ap (λ w. Some (reserved_key w)) c.in-Some-Timestamp.field-0-is in
    typed_told c.args.key.now of_timestamp (value_view c.args.value.now) (scalar (timestamp c.in-Some-timestamp.moment.time c.in-Some-timestamp.moment.increment)) _ reserved c.in-Some-timestamp.ensures (search (rules, the_lemmas))

pub returns-in-Some : goal.returns-in-Some
returns-in-Some c = typed_if c.args.key.now (reserved_key c.in-Some.wrapper) (value_view c.args.value.now) c.read_alike.result (sym c.in-Some.ensures) c.read_alike.ensures
