-- The keys that mark a typed value in Extended JSON (MongoDB Extended JSON v2, "Conversion table").
use Rattle.std.specs.Prelude.{ℕ, Bool, false, ◌||◌, if◌then◌else◌, List, [], ◌∷◌, codes, Option, Some, None, is_some}
use Rattle.std.specs.Str.{bytes_eq}
use Rattle.serde_json.specs.Data.{Data, object, Members, no_members, member}

pub data Reserved : Type 0 where
  of_id : Reserved
  of_symbol : Reserved
  of_regex : Reserved
  of_int : Reserved
  of_long : Reserved
  of_double : Reserved
  of_decimal : Reserved
  of_binary : Reserved
  of_uuid : Reserved
  of_code : Reserved
  of_timestamp : Reserved
  of_date : Reserved
  of_min : Reserved
  of_max : Reserved
  of_pointer : Reserved
  of_undefined : Reserved

abbrev pub key_of : Reserved → List ℕ
key_of of_id = codes "$oid"
key_of of_symbol = codes "$symbol"
key_of of_regex = codes "$regularExpression"
key_of of_int = codes "$numberInt"
key_of of_long = codes "$numberLong"
key_of of_double = codes "$numberDouble"
key_of of_decimal = codes "$numberDecimal"
key_of of_binary = codes "$binary"
key_of of_uuid = codes "$uuid"
key_of of_code = codes "$code"
key_of of_timestamp = codes "$timestamp"
key_of of_date = codes "$date"
key_of of_min = codes "$minKey"
key_of of_max = codes "$maxKey"
key_of of_pointer = codes "$dbPointer"
key_of of_undefined = codes "$undefined"

-- the key of the scope beside `$code`; alone it marks nothing
abbrev pub scope_key : List ℕ
scope_key = codes "$scope"

abbrev pub all_reserved : List Reserved
all_reserved = of_id ∷ of_symbol ∷ of_regex ∷ of_int ∷ of_long ∷ of_double ∷ of_decimal ∷ of_binary ∷ of_uuid ∷ of_code ∷ of_timestamp ∷ of_date ∷ of_min ∷ of_max ∷ of_pointer ∷ of_undefined ∷ []

abbrev pub first_of : List Reserved → List ℕ → Option Reserved
first_of [] k = None
first_of (r ∷ rs) k = if bytes_eq k (key_of r) then Some r else first_of rs k

-- the reserved key that a text is
unfoldable pub reserved_of : List ℕ → Option Reserved
reserved_of k = first_of all_reserved k

abbrev pub is_reserved : List ℕ → Bool
is_reserved k = is_some (reserved_of k)

-- whether an object has a reserved key
abbrev pub any_reserved : Members → Bool
any_reserved no_members = false
any_reserved (member k j js) = is_reserved k || any_reserved js

-- an object with one member
abbrev pub object_of_one : List ℕ → Data → Data
object_of_one k j = object (member k j no_members)

-- an object with two members, in this order
abbrev pub object_of_two : List ℕ → Data → List ℕ → Data → Data
object_of_two k i l j = object (member k i (member l j no_members))
