use Rattle.std.proofs.Common.{◌≡◌, drop}
use Rattle.json.specs.Value.{members_view}
use Rattle.fallowtime_requests.specs.Arranging.{are_bounds}
use Rattle.fallowtime_requests.proofs.limiting.are_bounds.Given as goal

abbrev pub invariant-loop-name : goal.invariant-loop-name
invariant-loop-name l = are_bounds (members_view l.members) ≡ are_bounds (members_view (drop l.name-index l.members))
