use Rattle.std.proofs.Common.{◌≡◌, length}
use Rattle.std.specs.Vec.Iter.{into_iter_items, into_iter_len}
use Rattle.store_model.specs.Reading.{Documents}
use Rattle.store_pipeline.specs.Bodies.{AreBodies}
use Rattle.store_pipeline.proofs.MatchLemmas.{KeptSoFar}
use Rattle.store_pipeline.proofs.matching.keep.Given as goal

abbrev pub invariant-loop-body : goal.invariant-loop-body
invariant-loop-body l =
    ((ds : Documents) → AreBodies l.fn.bodies.items ds → KeptSoFar l.question ds l.left.items (into_iter_items l.body-iterator))
    × (length (into_iter_items l.body-iterator) ≡ into_iter_len l.body-iterator)
    × (goal.iterator-loop-body).can_next l.body-iterator
    × (goal.iterator-loop-body).is_finite l.body-iterator
