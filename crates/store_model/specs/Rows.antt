-- Documents, bytes and paths of worked rows.
use Rattle.std.specs.Prelude.{ℕ, pos, List, [], ◌∷◌, ◌++◌, codes}
use Rattle.bson_base.specs.Value.{Value, string, int32, scalar, array, no_items, item, Members, no_members, member}
use Rattle.bson_bytes.specs.Encode.{encode}
use Rattle.store_model.specs.Filter.{Path}
use Rattle.store_model.specs.State.{id_key}

abbrev pub int_one : Value
int_one = scalar (int32 (pos 1))

abbrev pub a_text : Value
a_text = scalar (string (codes "a"))

-- {_id: 1, v: ["a"]}
abbrev pub with_array : Members
with_array = member id_key int_one (member (codes "v") (array (item a_text no_items)) no_members)

-- {_id: 1, a: value}
abbrev pub with_a : Value → Members
with_a v = member id_key int_one (member (codes "a") v no_members)

-- {_id: 1}
abbrev pub with_id : Members
with_id = member id_key int_one no_members

-- {_id: 2}
abbrev pub with_two : Members
with_two = member id_key (scalar (int32 (pos 2))) no_members

abbrev pub to_v : Path
to_v = codes "v" ∷ []

-- {_id: 1} as bytes, and a length that no document has
abbrev pub broken_stream : List ℕ
broken_stream = encode with_id ++ 4 ∷ 0 ∷ 0 ∷ 0 ∷ []
