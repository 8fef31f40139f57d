use Rattle.std.proofs.Common.{◌≡◌, ℕ, List, take}
use Rattle.std.specs.List.{flat_map}
use Rattle.bson_store.specs.Export.{bytes_of_each}
use Rattle.fallowtime_commands.proofs.session.bodies.joined.Given as goal

abbrev pub invariant-loop-body : goal.invariant-loop-body
invariant-loop-body l = l.stream.items ≡ flat_map (λ (b : List ℕ). b) (bytes_of_each (take l.body-index l.bodies))
