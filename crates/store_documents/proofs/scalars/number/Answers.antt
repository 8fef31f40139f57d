use Rattle.std.proofs.Common.{◌≡◌, ◌∙◌, Some, ap, rules}
use Rattle.serde_json.specs.Data.{number}
use Rattle.serde_json.specs.Find.{as_i64}
use Rattle.serde_json.specs.View.{number_view, view}
use Rattle.serde_json.specs.declared.value.Value.{the_lemmas}
use Rattle.bson_model.specs.JsonRead.{integer}
use Rattle.bson_model.specs.View.{view as value_of}
use Rattle.store_documents.proofs.WrapperLemmas.{number_told}
use Rattle.store_documents.proofs.scalars.number.Goals as goal

pub returns-in-Some : goal.returns-in-Some
returns-in-Some c =
    let seen : view c.in-Ok-Number.field-0 ≡ number (number_view c.in-Ok-Number.number) = rw c.in-Ok-Number.field-0-is (search (rules, the_lemmas)) in
    let fits : Some c.in-Some.number ≡ as_i64 (number_view c.in-Ok-Number.number) = search rules in
    let same : integer c.in-Some.number ≡ value_of c.integer.result = search rules in
    number_told c.args.text.now (number_view c.in-Ok-Number.number) c.in-Some.number (value_of c.integer.result) (c.in-Ok-Number.ensures.ok ∙ ap Some seen) fits same
