use Rattle.std.proofs.Common.{◌≡◌, drop}
use Rattle.json.specs.Value.{members_view}
use Rattle.fallowtime_requests.specs.Staging.{are_unwind_keys}
use Rattle.fallowtime_requests.proofs.unwinding.are_unwind_keys.Given as goal

abbrev pub invariant-loop-name : goal.invariant-loop-name
invariant-loop-name l = are_unwind_keys (members_view l.members) ≡ are_unwind_keys (members_view (drop l.name-index l.members))
