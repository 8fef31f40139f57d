-- Ids that are made, documents with one, and the time that goes with them.
use Rattle.std.specs.Prelude.{ℕ, ◌+◌, ◌-◌, ◌/◌, ◌%◌, ◌^◌, min, ℤ, pos, List, ◌++◌, if◌then◌else◌}
use Rattle.std.specs.Int.{w32, w64, to_be_bytes}
use Rattle.bson_base.specs.Value.{Value, Members, member, has_key, scalar, object_id}
use Rattle.bson_model.specs.Keyed.{Key}
use Rattle.store_model.specs.State.{id_key}
use Rattle.cli_convert.specs.declared.made.IdMaker.{IdMaker}

-- milliseconds since 1970, and the number of the next id
abbrev pub maker_at : ℕ → ℕ → IdMaker
maker_at millis n = record { millis = millis; next = n }

-- the seconds of an id that is made at this time
abbrev pub seconds_of : ℕ → ℕ
seconds_of millis = millis / 1000 % 2 ^ 32

-- the bytes of the next id
abbrev pub made_bytes : IdMaker → List ℕ
made_bytes maker = to_be_bytes w32 (seconds_of maker.millis) ++ to_be_bytes w64 maker.next

-- the maker after one id
abbrev pub next_maker : IdMaker → IdMaker
next_maker maker = maker_at maker.millis ((maker.next + 1) % 2 ^ 64)

-- the maker of the same ids at another time
abbrev pub at_time : ℕ → IdMaker → IdMaker
at_time millis maker = maker_at millis maker.next

-- the time of the maker as a date, which is the last one if there is none for it
abbrev pub date_of : IdMaker → ℤ
date_of maker = pos (min maker.millis (2 ^ 63 - 1))

-- the next id under `_id`
abbrev pub id_member : IdMaker → Key × Value
id_member maker = (id_key, scalar (object_id (made_bytes maker)))

-- the document with its own `_id`, or with the next one in front
abbrev pub identified : IdMaker → Members → Members
identified maker d = if has_key id_key d then d else member (id_member maker).0 (id_member maker).1 d

-- the maker after a document
abbrev pub maker_after : IdMaker → Members → IdMaker
maker_after maker d = if has_key id_key d then maker else next_maker maker
