use Rattle.std.proofs.Common.{◌+◌, ◌*◌, length}
use Rattle.store_documents.specs.Trees.{AreTold}
use Rattle.store_documents.proofs.trees.+told.Given as goal

abbrev pub decreases-are_told : goal.decreases-are_told
decreases-are_told l = 3 * l.inner + 2

abbrev pub decreases-holds_told : goal.decreases-holds_told
decreases-holds_told l = 3 * l.inner

abbrev pub decreases-is_told : goal.decreases-is_told
decreases-is_told l = 3 * l.inner + 1

abbrev pub invariant-are_told-loop-rest : goal.invariant-are_told-loop-rest
invariant-are_told-loop-rest l = AreTold l.keys l.rest → AreTold l.keys l.elements

abbrev pub decreases-are_told-loop-rest : goal.decreases-are_told-loop-rest
decreases-are_told-loop-rest l = length l.rest
