use Rattle.std.proofs.Common.{map, string_bytes}
use Rattle.bson_model.specs.View.{items_of, view}
use Rattle.fallowtime_messages.specs.Answers as told
use Rattle.fallowtime_messages.proofs.OutcomeLemmas.{found_as}
use Rattle.fallowtime_messages.proofs.telling.tell_group.Goals as goal

pub returns : goal.returns
returns c =
    found_as c.found.result (string_bytes c.in_ok-name.name) (string_bytes c.args.space.now) (items_of (map view c.in_ok-items.items.items)) (told.group (view c.args.id.now) c.args.number) c.in_ok-name.ensures c.in_ok-items.ensures c.found.ensures
