-- Normal forms, keys in order, keys of documents and the same meaning, for both ways to take the two zeros of a double:
-- apart, or as one.
use Rattle.std.specs.Prelude.{◌≡◌, ℕ, List, if◌then◌else◌, IsSomeAnd, Option, Some, None}
use Rattle.std.specs.Ordering.{nat_cmp, match_ordering}
use Rattle.std.specs.Cmp.Lexicographic.{slice_cmp}
use Rattle.bson_base.specs.Decimal.{number_of, sixteen_bytes, pack, unpack}
use Rattle.bson_base.specs.Doubles.{is_nan, is_negative, is_zero}
use Rattle.bson_base.specs.Options.{sorted_text}
use Rattle.bson_base.specs.Tags.{subtype_of, subtype_byte}
use Rattle.bson_base.specs.Value.{Scalar, double, binary, regex, decimal, Value, scalar, array, document, scoped_code, Items, no_items, item, Members, no_members, member, look_up}
use Rattle.bson_bytes.specs.Encode.{encode}
use Rattle.bson_model.specs.Equal.{SameKeys}
use Rattle.bson_meaning.specs.declared.scalars.Zeros.{Zeros}
use Rattle.bson_meaning.specs.declared.scalars.Zeros.TheVariants.{Apart, Joined}

-- ---- scalars

-- the quiet NaN of a sign (IEEE 754-2008, 6.2.1)
abbrev pub quiet : ℕ → ℕ
quiet n = if is_negative n then 0xFFF8_0000_0000_0000 else 0x7FF8_0000_0000_0000

-- a NaN becomes the quiet one of its sign; if the zeros are one, a zero becomes the positive one
unfoldable pub normal_double : Zeros → ℕ → ℕ
normal_double Apart n = if is_nan n then quiet n else n
normal_double Joined n = if is_nan n then quiet n else if is_zero n then 0 else n

-- the first form of what 16 bytes mean; every NaN becomes the same one
unfoldable pub normal_decimal : List ℕ → List ℕ
normal_decimal bytes = sixteen_bytes (pack (unpack (number_of bytes)))

-- ---- keys in order

-- ascending members, with v under k
abbrev pub place : List ℕ → Value → Members → Members
place k v no_members = member k v no_members
place k v (member l w ms) = match_ordering (slice_cmp nat_cmp k l) (member k v (member l w ms)) (member k v ms) (member l w (place k v ms))

-- the keys ascending by bytes, in every document and scope
abbrev mutual
  pub asc : Value → Value
  asc (scalar s) = scalar s
  asc (array vs) = array (asc_items vs)
  asc (document ms) = document (asc_members ms)
  asc (scoped_code t ms) = scoped_code t (asc_members ms)

  pub asc_items : Items → Items
  asc_items no_items = no_items
  asc_items (item v vs) = item (asc v) (asc_items vs)

  pub asc_members : Members → Members
  asc_members no_members = no_members
  asc_members (member k v ms) = place k (asc v) (asc_members ms)

-- ---- for either way to take the zeros

module _ (zeros : Zeros) where
  -- options are in order, and a subtype is what its byte stands for
  abbrev pub normal_scalar : Scalar → Scalar
  normal_scalar (double n) = double (normal_double zeros n)
  normal_scalar (regex p o) = regex p (sorted_text o)
  normal_scalar (binary s bs) = binary (subtype_of (subtype_byte s)) bs
  normal_scalar (decimal bs) = decimal (normal_decimal bs)
  normal_scalar s = s

  abbrev mutual
    pub norm : Value → Value
    norm (scalar s) = scalar (normal_scalar s)
    norm (array vs) = array (norm_items vs)
    norm (document ms) = document (norm_members ms)
    norm (scoped_code t ms) = scoped_code t (norm_members ms)

    pub norm_items : Items → Items
    norm_items no_items = no_items
    norm_items (item v vs) = item (norm v) (norm_items vs)

    pub norm_members : Members → Members
    norm_members no_members = no_members
    norm_members (member k v ms) = member k (norm v) (norm_members ms)

  -- ---- the normal form in order

  -- the normal form, with the keys of every document and scope in ascending order
  abbrev pub norm_in_order : Value → Value
  norm_in_order v = asc (norm v)

  abbrev pub norm_items_in_order : Items → Items
  norm_items_in_order vs = asc_items (norm_items vs)

  abbrev pub norm_members_in_order : Members → Members
  norm_members_in_order ms = asc_members (norm_members ms)

  -- the key of a document: the bytes of its normal form with the keys in order
  abbrev pub key : Members → List ℕ
  key d = encode (norm_members_in_order d)

  -- ---- the same meaning

  -- documents as maps at every depth, and scalars by their normal forms
  abbrev mutual
    pub Same : Value → Value → Type 0
    Same (scalar s) (scalar t) = normal_scalar s ≡ normal_scalar t
    Same (array vs) (array ws) = SameItems vs ws
    Same (document ms) (document ns) = SameKeys ms ns × SameUnder ms ns
    Same (scoped_code t ms) (scoped_code u ns) = (t ≡ u) × SameKeys ms ns × SameUnder ms ns
    Same _ _ = ⊥

    -- place by place
    pub SameItems : Items → Items → Type 0
    SameItems no_items no_items = Unit {0}
    SameItems (item v vs) (item w ws) = Same v w × SameItems vs ws
    SameItems _ _ = ⊥

    -- each member has a value of the same meaning under its key
    pub SameUnder : Members → Members → Type 0
    SameUnder no_members ns = Unit {0}
    SameUnder (member k v ms) ns = IsSomeAnd (look_up k ns) (Same v) × SameUnder ms ns

  -- both are there and mean the same, or neither is there
  abbrev pub SameOption : Option Value → Option Value → Type 0
  SameOption None None = Unit {0}
  SameOption (Some v) (Some w) = Same v w
  SameOption _ _ = ⊥
