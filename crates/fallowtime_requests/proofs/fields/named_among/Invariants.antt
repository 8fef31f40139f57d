use Rattle.std.proofs.Common.{◌≡◌, drop}
use Rattle.json.specs.Value.{members_view}
use Rattle.fallowtime_requests.specs.Fields.{marked_behind, marked_of, none_marked}
use Rattle.fallowtime_requests.proofs.fields.named_among.Given as goal

abbrev pub invariant-loop-name : goal.invariant-loop-name
invariant-loop-name l = marked_behind none_marked (members_view l.members) ≡ marked_behind (marked_of l.named) (members_view (drop l.name-index l.members))
