use Rattle.store_documents.proofs.PlaceLemmas.{Left}
use Rattle.store_documents.proofs.key_order.place_of.Given as goal

abbrev pub invariant-loop-at : goal.invariant-loop-at
invariant-loop-at g l = Left l.key l.at l.pairs

abbrev pub decreases-loop-at : goal.decreases-loop-at
decreases-loop-at g l = l.at
