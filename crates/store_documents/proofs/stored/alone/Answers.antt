use Rattle.std.proofs.Common.{refl, ap, ◌∙◌, ◌++◌, ◌∷◌, [], ◌+◌, length, List, ℕ}
use Rattle.bson_base.specs.Tags.{tag_byte}
use Rattle.store_documents.proofs.StoredLemmas.{around}
use Rattle.store_documents.proofs.stored.alone.Goals as goal

pub returns : goal.returns
returns c =
    let p = c.args.id.now.payload.now in
    let b0 = c.extend_from_slice.new.self.items in
    let b1 = c.push.new.self.items in
    around (tag_byte c.args.id.now.tag) (length p + 10) p b0 b1 c.extend_from_slice-2.new.self.items c.push-2.new.self.items c.extend_from_slice-3.new.self.items c.push-3.new.self.items refl
    (c.in_ok-extend_from_slice.ensures.items ∙ ap (λ (x : List ℕ). x ++ c.to_le_bytes.result) c.in_ok-bytes.ensures.items ∙ c.to_le_bytes.ensures)
    (c.in_ok-push.ensures.items ∙ ap (λ (t : ℕ). b0 ++ t ∷ []) c.tag.ensures)
    (c.in_ok-extend_from_slice-2.ensures.items ∙ ap (λ (x : List ℕ). b1 ++ x) c.as_bytes.ensures.value)
    c.in_ok-push-2.ensures.items c.in_ok-extend_from_slice-3.ensures.items c.in_ok-push-3.ensures.items
