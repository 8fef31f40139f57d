use Rattle.std.proofs.Common.{◌≡◌, IfOk, rules, subst}
use Rattle.json.specs.Json as json
use Rattle.json.specs.Value.{value_view, members_view}
use Rattle.json.specs.declared.value.Value.{the_lemmas}
use Rattle.bson_model.specs.View.{pairs_of}
use Rattle.store_documents.specs.Reads.{ReadsPairs}
use Rattle.store_documents.proofs.MemberLemmas.{document_if}
use Rattle.store_documents.proofs.reading.document_of.Goals as goal

pub returns : goal.returns
returns c =
    let ms = c.as_slice.result.now in
    let rs = c.in_ok-pairs.pairs.items in
    let seen : value_view c.args.value.now ≡ json.object (members_view ms) = rw (c.in-Object.is, c.as_slice.ensures.value) (search (rules, the_lemmas)) in
    document_if c.read_pairs.result (value_view c.args.value.now) (members_view ms) rs seen c.in_ok-pairs.ensures
    (subst (λ xs. IfOk c.read_pairs.result (λ d. ReadsPairs xs (pairs_of d))) c.as_slice-2.ensures.value c.read_pairs.ensures)
