-- What bytes mean as a tree. Bytes spell a tree of all their frames; meaning settles that tree: a repeated key has its
-- last value, at the place where the key came first, and the options of a regular expression ascend.
use Rattle.std.specs.Prelude.{◌≡◌, ℕ, ◌+◌, ◌==◌, List, [], ◌∷◌, ◌++◌, drop, slice_index, unwrap_or, if◌then◌else◌}
use Rattle.std.specs.Int.{w32, w64, from_le_bytes, cast_signed}
use Rattle.bson_base.specs.declared.spec.ElementType.TheVariants as kinds
use Rattle.bson_base.specs.declared.spec.BinarySubtype.TheVariants as subtypes
use Rattle.bson_base.specs.Options.{sorted_text}
use Rattle.bson_base.specs.Tags.{subtype_of, subtype_byte}
use Rattle.bson_base.specs.Value.{Scalar, double, string, binary, undefined, object_id, boolean, date_time, null, regex, db_pointer, code, symbol, int32, timestamp, int64, decimal, max_key, min_key, scalar_kind, value_kind, Value, scalar, array, document, scoped_code, Items, no_items, item, Members, no_members, member, look_up, without}
use Rattle.bson_bytes.specs.Encode.{truth}
use Rattle.bson_frame.specs.Frame.{number, Element, IsFirstFrame}
use Rattle.bson_frame.specs.Payload.{text_in, code_in, scope_in, IsEnvelope, IsFaultless}

-- ---- a tree of all frames

-- a payload of the scalar's kind holds the scalar
abbrev pub HoldsScalar : List ℕ → Scalar → Type 0
HoldsScalar payload (double n) = n ≡ from_le_bytes w64 payload
HoldsScalar payload (string t) = t ≡ text_in payload
HoldsScalar payload (binary s bs) = (s ≡ subtype_of (slice_index payload 4)) × (bs ≡ drop (if slice_index payload 4 == subtype_byte subtypes.BinaryOld then 9 else 5) payload)
HoldsScalar payload undefined = Unit {0}
HoldsScalar payload (object_id bs) = bs ≡ payload
HoldsScalar payload (boolean b) = slice_index payload 0 ≡ truth b
HoldsScalar payload (date_time z) = z ≡ cast_signed w64 (from_le_bytes w64 payload)
HoldsScalar payload null = Unit {0}
HoldsScalar payload (regex p o) = payload ≡ p ++ 0 ∷ (o ++ 0 ∷ [])
HoldsScalar payload (db_pointer t bs) = (t ≡ text_in payload) × (bs ≡ drop (number payload + 4) payload)
HoldsScalar payload (code t) = t ≡ text_in payload
HoldsScalar payload (symbol t) = t ≡ text_in payload
HoldsScalar payload (int32 z) = z ≡ cast_signed w32 (from_le_bytes w32 payload)
HoldsScalar payload (timestamp t i) = (i ≡ from_le_bytes w32 payload) × (t ≡ from_le_bytes w32 (drop 4 payload))
HoldsScalar payload (int64 z) = z ≡ cast_signed w64 (from_le_bytes w64 payload)
HoldsScalar payload (decimal bs) = bs ≡ payload
HoldsScalar payload max_key = Unit {0}
HoldsScalar payload min_key = Unit {0}

-- Bytes spell these parts, frame by frame down to exactly the byte 00, and no level has a fault.
abbrev mutual
  pub SpellsValue : List ℕ → Value → Type 0
  SpellsValue payload (scalar s) = IsFaultless (scalar_kind s) payload × HoldsScalar payload s
  SpellsValue payload (array vs) = SpellsItems (drop 4 payload) vs
  SpellsValue payload (document ms) = SpellsMembers (drop 4 payload) ms
  SpellsValue payload (scoped_code t ms) = IsFaultless kinds.JavaScriptCodeWithScope payload × (t ≡ text_in (code_in payload)) × SpellsMembers (drop 4 (scope_in payload)) ms

  pub SpellsItems : List ℕ → Items → Type 0
  SpellsItems bytes no_items = bytes ≡ 0 ∷ []
  SpellsItems bytes (item v vs) = (e : Element) × (rest : List ℕ) × IsFirstFrame bytes e rest × (value_kind v ≡ e.tag) × SpellsValue e.payload v × SpellsItems rest vs

  pub SpellsMembers : List ℕ → Members → Type 0
  SpellsMembers bytes no_members = bytes ≡ 0 ∷ []
  SpellsMembers bytes (member k v ms) = (e : Element) × (rest : List ℕ) × IsFirstFrame bytes e rest × (k ≡ e.key) × (value_kind v ≡ e.tag) × SpellsValue e.payload v × SpellsMembers rest ms

-- ---- settled

-- the options of a regular expression ascend by character
abbrev pub settle_scalar : Scalar → Scalar
settle_scalar (regex p o) = regex p (sorted_text o)
settle_scalar s = s

-- Each key once, at the place where it came first, with the value that came last; the same at every depth.
abbrev mutual
  pub settle_value : Value → Value
  settle_value (scalar s) = scalar (settle_scalar s)
  settle_value (array vs) = array (settle_items vs)
  settle_value (document ms) = document (settle ms)
  settle_value (scoped_code t ms) = scoped_code t (settle ms)

  pub settle_items : Items → Items
  settle_items no_items = no_items
  settle_items (item v vs) = item (settle_value v) (settle_items vs)

  pub settle : Members → Members
  settle no_members = no_members
  settle (member k v ms) = member k (unwrap_or (look_up k (settle ms)) (settle_value v)) (without k (settle ms))

-- the bytes of a document mean the tree
abbrev pub Means : List ℕ → Members → Type 0
Means bytes d = (ms : Members) × IsEnvelope bytes × SpellsMembers (drop 4 bytes) ms × (d ≡ settle ms)

-- the bytes after the length spell no tree: some level has a fault
abbrev pub IsFaulty : List ℕ → Type 0
IsFaulty bytes = (ms : Members) → SpellsMembers (drop 4 bytes) ms → ⊥
