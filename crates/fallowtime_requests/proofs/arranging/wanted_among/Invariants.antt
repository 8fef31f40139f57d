use Rattle.std.proofs.Common.{◌↔◌, drop}
use Rattle.json.specs.Value.{members_view}
use Rattle.fallowtime_requests.specs.Arranging.{Plan, PutsOptions, plan_of, whole}
use Rattle.fallowtime_requests.proofs.arranging.wanted_among.Given as goal

abbrev pub invariant-loop-name : goal.invariant-loop-name
invariant-loop-name l = (q : Plan) → PutsOptions l.changes whole (members_view l.members) q ↔ PutsOptions l.changes (plan_of l.wanted) (members_view (drop l.name-index l.members)) q
