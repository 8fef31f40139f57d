-- What a BSON value is. A document is a list of members, an array a list of items. A text is its bytes in UTF-8, a double
-- a pattern of 64 bits. The kinds with no value inside are scalars.
use Rattle.std.specs.Prelude.{◌≡◌, ℕ, ℤ, suc, max, List, Bool, Option, Some, None, is_some, if◌then◌else◌}
use Rattle.std.specs.Str.{bytes_eq}
use Rattle.bson_base.specs.declared.spec.ElementType.{ElementType}
use Rattle.bson_base.specs.declared.spec.ElementType.TheVariants as kinds
use Rattle.bson_base.specs.declared.spec.BinarySubtype.{BinarySubtype}

pub data Scalar : Type 0 where
  double : ℕ → Scalar
  string : List ℕ → Scalar
  -- subtype, bytes
  binary : BinarySubtype → List ℕ → Scalar
  undefined : Scalar
  -- its 12 bytes
  object_id : List ℕ → Scalar
  boolean : Bool → Scalar
  -- milliseconds
  date_time : ℤ → Scalar
  null : Scalar
  -- pattern, options
  regex : List ℕ → List ℕ → Scalar
  -- namespace, the 12 bytes of an object id
  db_pointer : List ℕ → List ℕ → Scalar
  code : List ℕ → Scalar
  symbol : List ℕ → Scalar
  int32 : ℤ → Scalar
  -- time, increment
  timestamp : ℕ → ℕ → Scalar
  int64 : ℤ → Scalar
  -- its 16 bytes, the lowest first
  decimal : List ℕ → Scalar
  max_key : Scalar
  min_key : Scalar

mutual
  pub data Value : Type 0 where
    scalar : Scalar → Value
    array : Items → Value
    document : Members → Value
    scoped_code : List ℕ → Members → Value

  pub data Items : Type 0 where
    no_items : Items
    item : Value → Items → Items

  pub data Members : Type 0 where
    no_members : Members
    member : List ℕ → Value → Members → Members

abbrev pub scalar_kind : Scalar → ElementType
scalar_kind (double n) = kinds.Double
scalar_kind (string t) = kinds.String
scalar_kind (binary s bs) = kinds.Binary
scalar_kind undefined = kinds.Undefined
scalar_kind (object_id bs) = kinds.ObjectId
scalar_kind (boolean b) = kinds.Boolean
scalar_kind (date_time z) = kinds.DateTime
scalar_kind null = kinds.Null
scalar_kind (regex p o) = kinds.RegularExpression
scalar_kind (db_pointer t bs) = kinds.DbPointer
scalar_kind (code t) = kinds.JavaScriptCode
scalar_kind (symbol t) = kinds.Symbol
scalar_kind (int32 z) = kinds.Int32
scalar_kind (timestamp t i) = kinds.Timestamp
scalar_kind (int64 z) = kinds.Int64
scalar_kind (decimal bs) = kinds.Decimal128
scalar_kind max_key = kinds.MaxKey
scalar_kind min_key = kinds.MinKey

abbrev pub value_kind : Value → ElementType
value_kind (scalar s) = scalar_kind s
value_kind (array vs) = kinds.Array
value_kind (document ms) = kinds.EmbeddedDocument
value_kind (scoped_code t ms) = kinds.JavaScriptCodeWithScope

-- the value under a key
abbrev pub look_up : List ℕ → Members → Option Value
look_up k no_members = None
look_up k (member l v ms) = if bytes_eq k l then Some v else look_up k ms

-- whether a key is there
abbrev pub has_key : List ℕ → Members → Bool
has_key k ms = is_some (look_up k ms)

-- without the members of the key
abbrev pub without : List ℕ → Members → Members
without k no_members = no_members
without k (member l v ms) = if bytes_eq k l then without k ms else member l v (without k ms)

-- with the value in the key's place, or with the member added at the end
abbrev pub put : List ℕ → Value → Members → Members
put k v no_members = member k v no_members
put k v (member l w ms) = if bytes_eq k l then member l v ms else member l w (put k v ms)

-- how deep documents, arrays and scopes nest
abbrev mutual
  pub levels : Value → ℕ
  levels (scalar s) = 0
  levels (array vs) = suc (items_levels vs)
  levels (document ms) = suc (members_levels ms)
  levels (scoped_code t ms) = suc (members_levels ms)

  pub items_levels : Items → ℕ
  items_levels no_items = 0
  items_levels (item v vs) = max (levels v) (items_levels vs)

  pub members_levels : Members → ℕ
  members_levels no_members = 0
  members_levels (member k v ms) = max (levels v) (members_levels ms)

-- each key occurs once, in every document and scope
abbrev mutual
  pub HasDistinctKeys : Value → Type 0
  HasDistinctKeys (scalar s) = Unit {0}
  HasDistinctKeys (array vs) = ItemsHaveDistinctKeys vs
  HasDistinctKeys (document ms) = MembersHaveDistinctKeys ms
  HasDistinctKeys (scoped_code t ms) = MembersHaveDistinctKeys ms

  pub ItemsHaveDistinctKeys : Items → Type 0
  ItemsHaveDistinctKeys no_items = Unit {0}
  ItemsHaveDistinctKeys (item v vs) = HasDistinctKeys v × ItemsHaveDistinctKeys vs

  pub MembersHaveDistinctKeys : Members → Type 0
  MembersHaveDistinctKeys no_members = Unit {0}
  MembersHaveDistinctKeys (member k v ms) = (look_up k ms ≡ None) × HasDistinctKeys v × MembersHaveDistinctKeys ms

-- K holds of each key, and S of each scalar; the code above a scope counts as the scalar that it would be alone
abbrev mutual
  pub EachPart : (List ℕ → Type 0) → (Scalar → Type 0) → Value → Type 0
  EachPart K S (scalar s) = S s
  EachPart K S (array vs) = EachItem K S vs
  EachPart K S (document ms) = EachMember K S ms
  EachPart K S (scoped_code t ms) = S (code t) × EachMember K S ms

  pub EachItem : (List ℕ → Type 0) → (Scalar → Type 0) → Items → Type 0
  EachItem K S no_items = Unit {0}
  EachItem K S (item v vs) = EachPart K S v × EachItem K S vs

  pub EachMember : (List ℕ → Type 0) → (Scalar → Type 0) → Members → Type 0
  EachMember K S no_members = Unit {0}
  EachMember K S (member k v ms) = K k × EachPart K S v × EachMember K S ms
