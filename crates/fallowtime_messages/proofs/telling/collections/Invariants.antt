use Rattle.std.proofs.Common.{◌≡◌, map, string_bytes, take}
use Rattle.std.specs.Option.{option_map}
use Rattle.bson_model.specs.View.{view}
use Rattle.fallowtime_messages.specs.Answers as told
use Rattle.fallowtime_messages.proofs.telling.collections.Given as goal

abbrev pub invariant-loop-name : goal.invariant-loop-name
invariant-loop-name l = map view l.items.items ≡ told.wanted (option_map string_bytes l.only) (map string_bytes (take l.name-index l.names))
