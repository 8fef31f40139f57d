use Rattle.std.proofs.Common.{◌≤◌, ◌-◌, length}
use Rattle.store_pipeline.proofs.SearchLemmas.{Searched}
use Rattle.store_pipeline.proofs.sorted.places.place_for.Given as goal
use Rattle.store_pipeline.specs.Bodies.{keys_of}

abbrev pub invariant-loop-low : goal.invariant-loop-low
invariant-loop-low l = (l.low ≤ l.high) × (l.high ≤ length l.bodies) × Searched (keys_of l.keys) l.bodies l.body l.low l.high

abbrev pub decreases-loop-low : goal.decreases-loop-low
decreases-loop-low l = l.high - l.low
