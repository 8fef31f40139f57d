use Rattle.std.proofs.Common.{◌≡◌, [], drop}
use Rattle.json.specs.Value.{members_view}
use Rattle.store_pipeline.specs.Bodies.{keys_of}
use Rattle.fallowtime_requests.specs.Orders.{keys_behind}
use Rattle.fallowtime_requests.proofs.arranging.keys_among.Given as goal

abbrev pub invariant-loop-name : goal.invariant-loop-name
invariant-loop-name l = keys_behind [] (members_view l.members) ≡ keys_behind (keys_of l.keys.items) (members_view (drop l.name-index l.members))
