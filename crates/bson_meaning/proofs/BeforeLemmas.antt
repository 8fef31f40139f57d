-- What keys and meanings from before are now.
use Rattle.std.proofs.Common.{◌≡◌, ℕ, ◌+◌, ◌^◌, ◌<◌, ◌≤◌, List, [], ◌++◌, length, Bool, true, false, if◌then◌else◌, refl, ap, ◌∙◌, sym, arith}
use Rattle.std.specs.Prelude.{IsUtf8}
use Rattle.bson_base.specs.Doubles.{is_nan, is_negative, is_zero}
use Rattle.bson_base.specs.Kinds.{IsClean, IsPlain, IsRangedScalar, IsSound}
use Rattle.bson_base.specs.Tags.{subtype_byte, subtype_of}
use Rattle.bson_base.specs.Value.{Scalar, double, binary, regex, decimal, Value, scalar, array, document, scoped_code, Items, no_items, item, Members, no_members, member, EachPart, EachItem, EachMember}
use Rattle.bson_bytes.specs.Encode.{encode, size}
use Rattle.bson_bytes.proofs.LengthLemmas.{encode_length}
use Rattle.bson_bytes.proofs.MeaningLemmas.{subtype_back}
use Rattle.bson_meaning.specs.declared.scalars.Zeros.{Zeros}
use Rattle.bson_meaning.specs.declared.scalars.Zeros.TheVariants.{Apart, Joined}
use Rattle.bson_meaning.specs.Forms.{normal_double, normal_scalar, norm, norm_items, norm_members, norm_members_in_order, place, asc, asc_items, asc_members}
use Rattle.bson_meaning.specs.Before as before
use Rattle.bson_meaning.specs.Meaning as now
use Rattle.bson_meaning.proofs.DecimalLemmas.{normal_decimal_twice}
use Rattle.bson_meaning.proofs.NormalScalarLemmas.{sorted_text_twice}
use Rattle.bson_meaning.proofs.NormalLemmas.{norm_twice}
use Rattle.bson_meaning.proofs.NormalOrderLemmas.{in_order_same, same_in_order}
use Rattle.bson_meaning.proofs.KeyLemmas.{in_order_clean, in_order_sound, key_size}
use Rattle.bson_bytes.proofs.ApartLemmas.{bytes_tell}
use Rattle.std.specs.declared.cmp.Ordering.TheVariants.{Less, Equal, Greater}
use Rattle.std.specs.Ordering.{nat_cmp, match_ordering}
use Rattle.std.specs.Cmp.Lexicographic.{slice_cmp}

abbrev quieted : Bool → ℕ
quieted c = if c then 0xFFF8_0000_0000_0000 else 0x7FF8_0000_0000_0000

abbrev joined_form : ℕ → ℕ
joined_form m = if is_nan m then quieted (is_negative m) else if is_zero m then 0 else m

quiet_joined : (c : Bool) → joined_form (quieted c) ≡ quieted c
quiet_joined true = refl
quiet_joined false = refl

-- the form from before has the form that the value has now
double_joins : (n : ℕ) → normal_double Joined (normal_double Apart n) ≡ normal_double Joined n
unfolding normal_double
double_joins n = by (is_nan n) refl
  where
    by : (b : Bool) → is_nan n ≡ b → joined_form (if b then quieted (is_negative n) else n) ≡ (if b then quieted (is_negative n) else if is_zero n then 0 else n)
    by true e = quiet_joined (is_negative n)
    by false e = ap (λ b. if b then quieted (is_negative n) else if is_zero n then 0 else n) e

scalar_joins : (s : Scalar) → IsRangedScalar s → normal_scalar Joined (normal_scalar Apart s) ≡ normal_scalar Joined s
scalar_joins (double n) h = ap double (double_joins n)
scalar_joins (regex p o) h = ap (regex p) (sorted_text_twice o h.1)
scalar_joins (binary s bs) h = ap (λ b. binary (subtype_of b) bs) (subtype_back (subtype_byte s))
scalar_joins (decimal bs) h = ap decimal (normal_decimal_twice bs)
scalar_joins _ h = refl

mutual
  pub joins : (K : List ℕ → Type 0) (v : Value) → EachPart K IsRangedScalar v → norm Joined (norm Apart v) ≡ norm Joined v
  joins K (scalar s) h = ap scalar (scalar_joins s h)
  joins K (array vs) h = ap array (items_join K vs h)
  joins K (document ms) h = ap document (members_join K ms h)
  joins K (scoped_code t ms) h = ap (scoped_code t) (members_join K ms h.1)

  items_join : (K : List ℕ → Type 0) (vs : Items) → EachItem K IsRangedScalar vs → norm_items Joined (norm_items Apart vs) ≡ norm_items Joined vs
  items_join K no_items h = refl
  items_join K (item v vs) h = ap (λ x. item x (norm_items Joined (norm_items Apart vs))) (joins K v h.0) ∙ ap (item (norm Joined v)) (items_join K vs h.1)

  pub members_join : (K : List ℕ → Type 0) (ms : Members) → EachMember K IsRangedScalar ms → norm_members Joined (norm_members Apart ms) ≡ norm_members Joined ms
  members_join K no_members h = refl
  members_join K (member k v ms) h = ap (λ x. member k x (norm_members Joined (norm_members Apart ms))) (joins K v h.1) ∙ ap (member k (norm Joined v)) (members_join K ms h.2)

-- ---- the form of a value whose keys are in order

norm_place : (z : Zeros) (k : List ℕ) (v : Value) (ms : Members) → norm_members z (place k v ms) ≡ place k (norm z v) (norm_members z ms)
norm_place z k v no_members = refl
norm_place z k v (member l w ms) =
    elim (slice_cmp nat_cmp k l) as (λ o. norm_members z (match_ordering o (member k v (member l w ms)) (member k v ms) (member l w (place k v ms)))
    ≡ match_ordering o (member k (norm z v) (member l (norm z w) (norm_members z ms))) (member k (norm z v) (norm_members z ms)) (member l (norm z w) (place k (norm z v) (norm_members z ms)))) [
      | Less ↦ refl
      | Equal ↦ refl
      | Greater ↦ ap (member l (norm z w)) (norm_place z k v ms)
    ]

mutual
  norm_asc : (z : Zeros) (v : Value) → norm z (asc v) ≡ asc (norm z v)
  norm_asc z (scalar s) = refl
  norm_asc z (array vs) = ap array (norm_asc_items z vs)
  norm_asc z (document ms) = ap document (norm_asc_members z ms)
  norm_asc z (scoped_code t ms) = ap (scoped_code t) (norm_asc_members z ms)

  norm_asc_items : (z : Zeros) (vs : Items) → norm_items z (asc_items vs) ≡ asc_items (norm_items z vs)
  norm_asc_items z no_items = refl
  norm_asc_items z (item v vs) = ap (λ x. item x (norm_items z (asc_items vs))) (norm_asc z v) ∙ ap (item (asc (norm z v))) (norm_asc_items z vs)

  norm_asc_members : (z : Zeros) (ms : Members) → norm_members z (asc_members ms) ≡ asc_members (norm_members z ms)
  norm_asc_members z no_members = refl
  norm_asc_members z (member k v ms) =
      norm_place z k (asc v) (asc_members ms) ∙ ap (λ x. place k x (norm_members z (asc_members ms))) (norm_asc z v) ∙ ap (place k (asc (norm z v))) (norm_asc_members z ms)

-- ---- what meant the same means the same

taken : (v : Value) → IsSound v → norm Joined (asc (norm Apart v)) ≡ asc (norm Joined v)
taken v s = norm_asc Joined (norm Apart v) ∙ ap asc (joins IsUtf8 v s.ranged)

pub same_now : (v w : Value) → IsSound v → IsSound w → before.Same v w → now.Same v w
same_now v w s t h = same_in_order Joined v w s.distinct (sym (taken v s) ∙ ap (norm Joined) (in_order_same Apart v w h) ∙ taken w t)

-- if a key from before is a current key, both are of one meaning
pub key_now : (d e : Members) → IsPlain (document d) → IsSound (document d) → IsPlain (document e) → IsSound (document e)
    → length (before.key d) ≤ 2147483647 → length (now.key e) ≤ 2147483647 → before.key d ≡ now.key e → now.key d ≡ now.key e
key_now d e p s q t m n k =
    let a : size (norm_members_in_order Apart d) < 2 ^ 31 = omega (arith, encode_length (norm_members_in_order Apart d)) in
    let b : size (norm_members_in_order Joined e) < 2 ^ 31 = omega (arith, encode_length (norm_members_in_order Joined e)) in
    let same : norm_members_in_order Apart d ≡ norm_members_in_order Joined e = (bytes_tell (norm_members_in_order Apart d) (norm_members_in_order Joined e) [] [] (in_order_clean Apart d p s) (in_order_sound Apart d s)
    (in_order_clean Joined e q t) (in_order_sound Joined e t) a b (ap (λ (x : List ℕ). x ++ []) k)).0 in
    let left : norm Joined (document (norm_members_in_order Apart d)) ≡ document (norm_members_in_order Joined d) = taken (document d) s in
    let right : norm Joined (document (norm_members_in_order Joined e)) ≡ document (norm_members_in_order Joined e) = norm_asc Joined (norm Joined (document e)) ∙ ap asc (norm_twice Joined IsUtf8 (document e) t.ranged) in
    let all : document (norm_members_in_order Joined d) ≡ document (norm_members_in_order Joined e) = sym left ∙ ap (λ (ms : Members). norm Joined (document ms)) same ∙ right in
    let members : norm_members_in_order Joined d ≡ norm_members_in_order Joined e = cc in
    ap encode members

-- a key from before has as many bytes as the document
pub size_before : (d : Members) → IsClean (document d) → IsSound (document d) → size (before.norm_members_in_order d) ≡ size d
size_before = key_size Apart
