use Rattle.std.proofs.Common.{◌≡◌, ◌∙◌, ap, rules}
use Rattle.fast_float.specs.Text.{scan}
use Rattle.json.specs.Json as json
use Rattle.json.specs.Value.{value_view}
use Rattle.json.specs.declared.value.Value.{the_lemmas as tree_lemmas}
use Rattle.store_documents.proofs.WrapperLemmas.{unsigned_if}
use Rattle.store_documents.proofs.scalars.unsigned.Goals as goal

pub returns : goal.returns
returns c =
    let is : value_view c.args.value.now ≡ json.number c.in-Number.text.now = rw c.in-Number.is (search (rules, tree_lemmas)) in
    let known = c.in_ok-to_u64.ensures in
    unsigned_if (value_view c.args.value.now) c.in-Number.text.now c.scan.result c.in_ok-to_u64.field-0 c.narrow.result is (c.scan.ensures.parts ∙ ap scan c.as_bytes.ensures.value) known.0 known.1 c.narrow.ensures
