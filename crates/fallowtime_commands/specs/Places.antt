-- The place at which a line is no question, as the answer reports it.
use Rattle.std.specs.Prelude.{ℕ, ◌+◌, ◌-◌, ◌^◌, min, List, ◌++◌, codes, decimal}
use Rattle.fallowtime_requests.specs.Reports.{at_text}
use Rattle.fallowtime_commands.specs.declared.session.places.Place.{Place}
use Rattle.fallowtime_commands.specs.declared.session.places.Place.TheVariants as place

-- a byte, counted from 1
abbrev pub byte_place : ℕ → List ℕ
byte_place n = codes "byte " ++ decimal (min (n + 1) (2 ^ 64 - 1))

abbrev pub place_text : Place → List ℕ
place_text (place.Byte n) = byte_place n
place_text place.RepeatedKey = codes "repeated key"
place_text (place.Request u) = at_text u
place_text place.TooLong = codes "64 MiB"
