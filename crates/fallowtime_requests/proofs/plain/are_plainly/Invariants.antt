use Rattle.std.proofs.Common.{◌≡◌, drop}
use Rattle.store_pipeline.specs.Bodies.{keys_of}
use Rattle.fallowtime_requests.specs.Plain.{are_plainly}
use Rattle.fallowtime_requests.proofs.plain.are_plainly.Given as goal

abbrev pub invariant-loop-key : goal.invariant-loop-key
invariant-loop-key l = are_plainly (keys_of l.keys) ≡ are_plainly (keys_of (drop l.key-index l.keys))
