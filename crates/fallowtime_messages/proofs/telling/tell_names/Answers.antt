use Rattle.std.proofs.Common.{ap, map, string_bytes}
use Rattle.std.specs.Option.{option_map}
use Rattle.bson_model.specs.View.{items_of, view}
use Rattle.fallowtime_messages.specs.Answers as told
use Rattle.fallowtime_messages.proofs.OutcomeLemmas.{found_as}
use Rattle.fallowtime_messages.proofs.telling.tell_names.Goals as goal

pub returns-in_ok-items-in-Named : goal.returns-in_ok-items-in-Named
returns-in_ok-items-in-Named c =
    rw c.in-Named.is (found_as c.found.result (string_bytes c.in_ok-name-in-Named.name) (string_bytes c.in-Named.space) (items_of (map view c.in_ok-items-in-Named.items.items)) (items_of (told.wanted (option_map string_bytes c.in-Named.only) (map string_bytes c.args.names.now.items)))
    c.in_ok-name-in-Named.ensures (ap items_of (rw c.as_slice.ensures.value at c.in_ok-items-in-Named.ensures)) c.found.ensures)
