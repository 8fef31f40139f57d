use Rattle.std.proofs.Common.{rules, string_bytes, codes, w64}
use Rattle.std.proofs.lemmas.Int.{to_z-of_z}
use Rattle.fallowtime_messages.proofs.OutcomeLemmas.{batch_told}
use Rattle.fallowtime_messages.proofs.batches.tell_batch.Goals as goal

pub returns-then-is_first : goal.returns-then-is_first
returns-then-is_first c =
    rw c.if-is_first.true (batch_told c.first_batch.result c.args.told.now.bodies.items c.in_ok-documents.documents.items (codes "firstBatch") c.args.space.now (string_bytes c.in_ok-name.name) c.args.told.now.id _ (to_z-of_z w64 c.args.told.now.id (search rules))
    (rw c.as_slice.ensures.value at c.in_ok-documents.ensures) c.in_ok-name.ensures.ok c.first_batch.ensures)

pub returns-else-is_first : goal.returns-else-is_first
returns-else-is_first c =
    rw c.if-is_first.false (batch_told c.next_batch.result c.args.told.now.bodies.items c.in_ok-documents.documents.items (codes "nextBatch") c.args.space.now (string_bytes c.in_ok-name.name) c.args.told.now.id _ (to_z-of_z w64 c.args.told.now.id (search rules))
    (rw c.as_slice.ensures.value at c.in_ok-documents.ensures) c.in_ok-name.ensures.ok c.next_batch.ensures)
