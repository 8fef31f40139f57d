use Rattle.std.proofs.Common.{length}
use Rattle.store_model.specs.Reading.{ReadsStream}
use Rattle.store_documents.proofs.JudgeLemmas.{SoFar}
use Rattle.store_documents.proofs.stream.judge_stream.Given as goal

abbrev pub invariant-loop-rest : goal.invariant-loop-rest
invariant-loop-rest l = SoFar (ReadsStream l.bytes) (ReadsStream l.rest) l.rows.items (length l.rows.items)

abbrev pub decreases-loop-rest : goal.decreases-loop-rest
decreases-loop-rest l = length l.rest
