-- The bytes of a document, and how many they are (bsonspec.org 1.1).
use Rattle.std.specs.Prelude.{ℕ, suc, ◌+◌, List, [], ◌∷◌, ◌++◌, length, Bool, true, false, if◌then◌else◌, decimal as digits}
use Rattle.std.specs.Int.{to_le_bytes, w32, w64, cast_unsigned}
use Rattle.bson_base.specs.declared.spec.BinarySubtype.{BinarySubtype}
use Rattle.bson_base.specs.declared.spec.BinarySubtype.TheVariants as subtypes
use Rattle.bson_base.specs.Tags.{tag_byte, subtype_byte}
use Rattle.bson_base.specs.Value.{Scalar, double, string, binary, undefined, object_id, boolean, date_time, null, regex, db_pointer, code, symbol, int32, timestamp, int64, decimal, max_key, min_key, value_kind, Value, scalar, array, document, scoped_code, Items, no_items, item, Members, no_members, member}

-- the four and the eight lowest bytes of n, the lowest first
unfoldable pub le32 : ℕ → List ℕ
le32 n = to_le_bytes w32 n

unfoldable pub le64 : ℕ → List ℕ
le64 n = to_le_bytes w64 n

-- a length that counts the final 00, the text, and 00 (bsonspec.org 1.1, "string")
unfoldable pub text_bytes : List ℕ → List ℕ
text_bytes t = le32 (length t + 1) ++ (t ++ 0 ∷ [])

-- bytes that end in a 00, as a key or a pattern (bsonspec.org 1.1, "cstring")
unfoldable pub cstring_of : List ℕ → List ℕ
cstring_of t = t ++ 0 ∷ []

abbrev pub is_old : BinarySubtype → Bool
is_old subtypes.BinaryOld = true
is_old _ = false

-- what follows the subtype: the old binary has its length a second time (bsonspec.org 1.1,
-- "subtype")
unfoldable pub inner : BinarySubtype → List ℕ → List ℕ
inner s bs = if is_old s then le32 (length bs) ++ bs else bs

abbrev pub truth : Bool → ℕ
truth b = if b then 1 else 0

-- the payload of a scalar (bsonspec.org 1.1, "element")
abbrev pub scalar_bytes : Scalar → List ℕ
scalar_bytes (double n) = le64 n
scalar_bytes (string t) = text_bytes t
scalar_bytes (binary s bs) = le32 (length (inner s bs)) ++ subtype_byte s ∷ inner s bs
scalar_bytes undefined = []
scalar_bytes (object_id bs) = bs
scalar_bytes (boolean b) = truth b ∷ []
scalar_bytes (date_time z) = le64 (cast_unsigned w64 z)
scalar_bytes null = []
scalar_bytes (regex p o) = cstring_of p ++ cstring_of o
scalar_bytes (db_pointer t bs) = text_bytes t ++ bs
scalar_bytes (code t) = text_bytes t
scalar_bytes (symbol t) = text_bytes t
scalar_bytes (int32 z) = le32 (cast_unsigned w32 z)
scalar_bytes (timestamp t i) = le32 i ++ le32 t
scalar_bytes (int64 z) = le64 (cast_unsigned w64 z)
scalar_bytes (decimal bs) = bs
scalar_bytes max_key = []
scalar_bytes min_key = []

-- elements, with a length in front that counts all of the bytes, and a 00 after them (bsonspec.org
-- 1.1, "document")
unfoldable pub frame_of : List ℕ → List ℕ
frame_of elements = le32 (length elements + 5) ++ (elements ++ 0 ∷ [])

-- a length that counts itself, the code, the scope (bsonspec.org 1.1, "code_w_s")
unfoldable pub scope_frame_of : List ℕ → List ℕ → List ℕ
scope_frame_of t scope = le32 (length (text_bytes t ++ scope) + 4) ++ (text_bytes t ++ scope)

abbrev mutual
  -- the payload of a value
  pub value_bytes : Value → List ℕ
  value_bytes (scalar s) = scalar_bytes s
  value_bytes (array vs) = frame_of (items_bytes 0 vs)
  value_bytes (document ms) = frame_of (members_bytes ms)
  value_bytes (scoped_code t ms) = scope_frame_of t (frame_of (members_bytes ms))

  -- the elements of an array from the place i on: the keys are the places in decimal
  pub items_bytes : ℕ → Items → List ℕ
  items_bytes i no_items = []
  items_bytes i (item v vs) = tag_byte (value_kind v) ∷ (cstring_of (digits i) ++ (value_bytes v ++ items_bytes (suc i) vs))

  pub members_bytes : Members → List ℕ
  members_bytes no_members = []
  members_bytes (member k v ms) = tag_byte (value_kind v) ∷ (cstring_of k ++ (value_bytes v ++ members_bytes ms))

-- the bytes of a document
abbrev pub encode : Members → List ℕ
encode d = frame_of (members_bytes d)

-- ---- how many bytes

abbrev pub scalar_size : Scalar → ℕ
scalar_size (double n) = 8
scalar_size (string t) = length t + 5
scalar_size (binary s bs) = length bs + (if is_old s then 9 else 5)
scalar_size undefined = 0
scalar_size (object_id bs) = length bs
scalar_size (boolean b) = 1
scalar_size (date_time z) = 8
scalar_size null = 0
scalar_size (regex p o) = length p + length o + 2
scalar_size (db_pointer t bs) = length t + length bs + 5
scalar_size (code t) = length t + 5
scalar_size (symbol t) = length t + 5
scalar_size (int32 z) = 4
scalar_size (timestamp t i) = 8
scalar_size (int64 z) = 8
scalar_size (decimal bs) = length bs
scalar_size max_key = 0
scalar_size min_key = 0

abbrev mutual
  pub value_size : Value → ℕ
  value_size (scalar s) = scalar_size s
  value_size (array vs) = items_size 0 vs + 5
  value_size (document ms) = members_size ms + 5
  value_size (scoped_code t ms) = members_size ms + length t + 14

  pub items_size : ℕ → Items → ℕ
  items_size i no_items = 0
  items_size i (item v vs) = length (digits i) + value_size v + items_size (suc i) vs + 2

  pub members_size : Members → ℕ
  members_size no_members = 0
  members_size (member k v ms) = length k + value_size v + members_size ms + 2

-- how many bytes a document takes
abbrev pub size : Members → ℕ
size d = members_size d + 5
