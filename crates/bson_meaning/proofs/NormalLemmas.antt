-- What the normal form of a tree, and the order of its keys, keep.
use Rattle.std.proofs.Common.{min, nat_lt, IsTrue, ◌↔◌, ◌^◌, ◌-◌, ◌≡◌, ℕ, suc, ◌+◌, ◌<◌, List, length, true, cond, Option, Some, None, refl, ap, ◌∙◌, sym, subst, arith}
use Rattle.std.specs.Prelude.{bytes_eq, option_map}
use Rattle.std.specs.declared.cmp.Ordering.{Ordering}
use Rattle.std.specs.declared.cmp.Ordering.TheVariants.{Less, Equal, Greater}
use Rattle.std.specs.Ordering.{nat_cmp, match_ordering}
use Rattle.std.specs.Cmp.Lexicographic.{slice_cmp}
use Rattle.bson_bytes.specs.Encode.{is_old, scalar_size, value_size, items_size, members_size}
use Rattle.bson_base.specs.Kinds.{IsPlainScalar, IsCleanScalar, IsRangedScalar}
use Rattle.bson_base.specs.Tags.{subtype_byte, subtype_of}
use Rattle.bson_meaning.specs.Forms.{normal_scalar, norm, norm_items, norm_members, place, asc, asc_items, asc_members}
use Rattle.bson_meaning.specs.declared.scalars.Zeros.{Zeros}
use Rattle.bson_base.specs.Value.{Scalar, double, string, binary, regex, code, decimal, Value, scalar, array, document, scoped_code, Items, no_items, item, Members, no_members, member, look_up, EachPart, EachItem, EachMember, HasDistinctKeys, ItemsHaveDistinctKeys, MembersHaveDistinctKeys}
use Rattle.bson_meaning.proofs.NormalScalarLemmas.{normal_double_twice, normal_double_fits, sorted_text_twice, sorted_text_length}
use Rattle.bson_meaning.proofs.DecimalLemmas.{normal_decimal_length, normal_decimal_bytes, normal_decimal_twice}
use Rattle.bson_meaning.proofs.OrderLemmas.{tied, look_up-asc, look_up-norm}
use Rattle.bson_bytes.proofs.MeaningLemmas.{subtype_back}
use Rattle.bson_bytes.proofs.OptionsLemmas.{text_sorted, no_zero_sorted}
use Rattle.bson_base.proofs.MemberLemmas.{same_key, not_first}
use Rattle.bson_base.proofs.OptionsLemmas.{sorted_text-in_order}

module _ (zeros : Zeros) where
  -- ---- scalars

  pub normal_scalar_twice : (s : Scalar) → IsRangedScalar s → normal_scalar zeros (normal_scalar zeros s) ≡ normal_scalar zeros s
  normal_scalar_twice (double n) h = ap double (normal_double_twice zeros n)
  normal_scalar_twice (regex p o) h = ap (regex p) (sorted_text_twice o h.1)
  normal_scalar_twice (binary s bs) h = ap (λ b. binary (subtype_of b) bs) (subtype_back (subtype_byte s))
  normal_scalar_twice (decimal bs) h = ap decimal (normal_decimal_twice bs)
  normal_scalar_twice _ h = refl

  pub normal_scalar_ranged : (s : Scalar) → IsRangedScalar s → IsRangedScalar (normal_scalar zeros s)
  normal_scalar_ranged (double n) h = normal_double_fits zeros n h
  normal_scalar_ranged (regex p o) h = (h.0, text_sorted o h.1)
  normal_scalar_ranged (binary s bs) h = (subst (λ b. b < 256) (sym (subtype_back (subtype_byte s))) h.0, h.1)
  normal_scalar_ranged (decimal bs) h = (normal_decimal_length bs, normal_decimal_bytes bs)
  normal_scalar_ranged (string t) h = h
  normal_scalar_ranged _ h = h

  pub normal_scalar_plain : (s : Scalar) → IsRangedScalar s → IsPlainScalar s → IsPlainScalar (normal_scalar zeros s)
  normal_scalar_plain (regex p o) h k = (k.0, no_zero_sorted o h.1 k.1)
  normal_scalar_plain _ h k = tt

  pub normal_scalar_clean : (s : Scalar) → IsRangedScalar s → IsCleanScalar (normal_scalar zeros s)
  normal_scalar_clean (regex p o) h = sorted_text-in_order o h.1
  normal_scalar_clean (binary s bs) h = ap subtype_of (subtype_back (subtype_byte s))
  normal_scalar_clean _ h = tt

  pub normal_scalar_size : (s : Scalar) → IsRangedScalar s → IsCleanScalar s → scalar_size (normal_scalar zeros s) ≡ scalar_size s
  normal_scalar_size (regex p o) h k = ap (λ n. length p + n + 2) (sorted_text_length o h.1)
  normal_scalar_size (binary s bs) h k = ap (λ t. length bs + cond (is_old t) 9 5) k
  normal_scalar_size (decimal bs) h k = normal_decimal_length bs ∙ sym h.0
  normal_scalar_size _ h k = refl

  -- ---- what holds of each part

  mutual
    -- f takes what holds of a scalar to what holds of its normal form
    pub norm_each : (K L : List ℕ → Type 0) (S T : Scalar → Type 0) → ((k : List ℕ) → K k → L k) → ((s : Scalar) → S s → T (normal_scalar zeros s)) → (v : Value) → EachPart K S v → EachPart L T (norm zeros v)
    norm_each K L S T g f (scalar s) h = f s h
    norm_each K L S T g f (array vs) h = norm_each_item K L S T g f vs h
    norm_each K L S T g f (document ms) h = norm_each_member K L S T g f ms h
    norm_each K L S T g f (scoped_code t ms) h = (f (code t) h.0, norm_each_member K L S T g f ms h.1)

    norm_each_item : (K L : List ℕ → Type 0) (S T : Scalar → Type 0) → ((k : List ℕ) → K k → L k) → ((s : Scalar) → S s → T (normal_scalar zeros s)) → (vs : Items) → EachItem K S vs → EachItem L T (norm_items zeros vs)
    norm_each_item K L S T g f no_items h = tt
    norm_each_item K L S T g f (item v vs) h = (norm_each K L S T g f v h.0, norm_each_item K L S T g f vs h.1)

    pub norm_each_member : (K L : List ℕ → Type 0) (S T : Scalar → Type 0) → ((k : List ℕ) → K k → L k) → ((s : Scalar) → S s → T (normal_scalar zeros s)) → (ms : Members) → EachMember K S ms → EachMember L T (norm_members zeros ms)
    norm_each_member K L S T g f no_members h = tt
    norm_each_member K L S T g f (member k v ms) h = (g k h.0, norm_each K L S T g f v h.1, norm_each_member K L S T g f ms h.2)

pub place_each : (K : List ℕ → Type 0) (S : Scalar → Type 0) (k : List ℕ) (v : Value) (ms : Members) → K k → EachPart K S v → EachMember K S ms → EachMember K S (place k v ms)
place_each K S k v no_members a b h = (a, b, tt)
place_each K S k v (member l w ms) a b h =
    elim (slice_cmp nat_cmp k l) as (λ o. EachMember K S (match_ordering o (member k v (member l w ms)) (member k v ms) (member l w (place k v ms)))) [
      | Less ↦ (a, b, h)
      | Equal ↦ (a, b, h.2)
      | Greater ↦ (h.0, h.1, place_each K S k v ms a b h.2)
    ]

mutual
  pub asc_each : (K : List ℕ → Type 0) (S : Scalar → Type 0) (v : Value) → EachPart K S v → EachPart K S (asc v)
  asc_each K S (scalar s) h = h
  asc_each K S (array vs) h = asc_each_item K S vs h
  asc_each K S (document ms) h = asc_each_member K S ms h
  asc_each K S (scoped_code t ms) h = (h.0, asc_each_member K S ms h.1)

  asc_each_item : (K : List ℕ → Type 0) (S : Scalar → Type 0) (vs : Items) → EachItem K S vs → EachItem K S (asc_items vs)
  asc_each_item K S no_items h = tt
  asc_each_item K S (item v vs) h = (asc_each K S v h.0, asc_each_item K S vs h.1)

  pub asc_each_member : (K : List ℕ → Type 0) (S : Scalar → Type 0) (ms : Members) → EachMember K S ms → EachMember K S (asc_members ms)
  asc_each_member K S no_members h = tt
  asc_each_member K S (member k v ms) h = place_each K S k (asc v) (asc_members ms) h.0 (asc_each K S v h.1) (asc_each_member K S ms h.2)

mutual
  -- two things that hold of each part hold together
  pub both_each : (K L : List ℕ → Type 0) (S T : Scalar → Type 0) (v : Value) → EachPart K S v → EachPart L T v → EachPart (λ k. K k × L k) (λ s. S s × T s) v
  both_each K L S T (scalar s) h i = (h, i)
  both_each K L S T (array vs) h i = both_each_item K L S T vs h i
  both_each K L S T (document ms) h i = both_each_member K L S T ms h i
  both_each K L S T (scoped_code t ms) h i = ((h.0, i.0), both_each_member K L S T ms h.1 i.1)

  both_each_item : (K L : List ℕ → Type 0) (S T : Scalar → Type 0) (vs : Items) → EachItem K S vs → EachItem L T vs → EachItem (λ k. K k × L k) (λ s. S s × T s) vs
  both_each_item K L S T no_items h i = tt
  both_each_item K L S T (item v vs) h i = (both_each K L S T v h.0 i.0, both_each_item K L S T vs h.1 i.1)

  pub both_each_member : (K L : List ℕ → Type 0) (S T : Scalar → Type 0) (ms : Members) → EachMember K S ms → EachMember L T ms → EachMember (λ k. K k × L k) (λ s. S s × T s) ms
  both_each_member K L S T no_members h i = tt
  both_each_member K L S T (member k v ms) h i = ((h.0, i.0), both_each K L S T v h.1 i.1, both_each_member K L S T ms h.2 i.2)

-- ---- distinct keys

absent_mapped : (f : Value → Value) (o : Option Value) → o ≡ None → option_map f o ≡ None
absent_mapped f o e = ap (option_map f) e

module _ (zeros : Zeros) where
  mutual
    pub norm_distinct : (v : Value) → HasDistinctKeys v → HasDistinctKeys (norm zeros v)
    norm_distinct (scalar s) h = tt
    norm_distinct (array vs) h = norm_distinct_items vs h
    norm_distinct (document ms) h = norm_distinct_members ms h
    norm_distinct (scoped_code t ms) h = norm_distinct_members ms h

    norm_distinct_items : (vs : Items) → ItemsHaveDistinctKeys vs → ItemsHaveDistinctKeys (norm_items zeros vs)
    norm_distinct_items no_items h = tt
    norm_distinct_items (item v vs) h = (norm_distinct v h.0, norm_distinct_items vs h.1)

    pub norm_distinct_members : (ms : Members) → MembersHaveDistinctKeys ms → MembersHaveDistinctKeys (norm_members zeros ms)
    norm_distinct_members no_members h = tt
    norm_distinct_members (member k v ms) h = (look_up-norm zeros k ms ∙ absent_mapped (norm zeros) (look_up k ms) h.0, norm_distinct v h.1, norm_distinct_members ms h.2)

-- ---- sizes

place_size : (k : List ℕ) (v : Value) (ms : Members) → look_up k ms ≡ None → members_size (place k v ms) ≡ length k + value_size v + members_size ms + 2
place_size k v no_members h = refl
place_size k v (member l w ms) h = by (slice_cmp nat_cmp k l) refl (place_size k v ms) h
  where
    by : (o : Ordering) → slice_cmp nat_cmp k l ≡ o → (look_up k ms ≡ None → members_size (place k v ms) ≡ length k + value_size v + members_size ms + 2)
        → look_up k (member l w ms) ≡ None
        → members_size (match_ordering o (member k v (member l w ms)) (member k v ms) (member l w (place k v ms))) ≡ length k + value_size v + members_size (member l w ms) + 2
    by Less e r n = refl
    by Equal e r n = let i : bytes_eq k l ≡ true = subst (λ m. bytes_eq k m ≡ true) (tied k l e) (same_key k) in let j : Some w ≡ None = sym (ap (λ b. cond b (Some w) (look_up k ms)) i) ∙ n in cc
    by Greater e r n = let i : look_up k ms ≡ None = (not_first k l w ms n).1 in omega (arith, r i)

mutual
  pub asc_size : (v : Value) → HasDistinctKeys v → value_size (asc v) ≡ value_size v
  asc_size (scalar s) h = refl
  asc_size (array vs) h = ap (λ n. n + 5) (asc_items_size 0 vs h)
  asc_size (document ms) h = ap (λ n. n + 5) (asc_members_size ms h)
  asc_size (scoped_code t ms) h = ap (λ n. n + length t + 14) (asc_members_size ms h)

  asc_items_size : (i : ℕ) (vs : Items) → ItemsHaveDistinctKeys vs → items_size i (asc_items vs) ≡ items_size i vs
  asc_items_size i no_items h = refl
  asc_items_size i (item v vs) h = omega (arith, asc_size v h.0, asc_items_size (suc i) vs h.1)

  pub asc_members_size : (ms : Members) → MembersHaveDistinctKeys ms → members_size (asc_members ms) ≡ members_size ms
  asc_members_size no_members h = refl
  asc_members_size (member k v ms) h = place_size k (asc v) (asc_members ms) (look_up-asc k ms ∙ absent_mapped asc (look_up k ms) h.0) ∙ omega (arith, asc_size v h.1, asc_members_size ms h.2)

abbrev pub IsSized : Scalar → Type 0
IsSized s = (IsPlainScalar s × IsCleanScalar s) × IsRangedScalar s

module _ (zeros : Zeros) where
  mutual
    pub norm_size : (K : List ℕ → Type 0) (v : Value) → EachPart K IsSized v → value_size (norm zeros v) ≡ value_size v
    norm_size K (scalar s) h = normal_scalar_size zeros s h.1 h.0.1
    norm_size K (array vs) h = ap (λ n. n + 5) (norm_items_size K 0 vs h)
    norm_size K (document ms) h = ap (λ n. n + 5) (norm_members_size K ms h)
    norm_size K (scoped_code t ms) h = ap (λ n. n + length t + 14) (norm_members_size K ms h.1)

    norm_items_size : (K : List ℕ → Type 0) (i : ℕ) (vs : Items) → EachItem K IsSized vs → items_size i (norm_items zeros vs) ≡ items_size i vs
    norm_items_size K i no_items h = refl
    norm_items_size K i (item v vs) h = omega (arith, norm_size K v h.0, norm_items_size K (suc i) vs h.1)

    pub norm_members_size : (K : List ℕ → Type 0) (ms : Members) → EachMember K IsSized ms → members_size (norm_members zeros ms) ≡ members_size ms
    norm_members_size K no_members h = refl
    norm_members_size K (member k v ms) h = omega (arith, norm_size K v h.1, norm_members_size K ms h.2)

  -- ---- twice

  mutual
    pub norm_twice : (K : List ℕ → Type 0) (v : Value) → EachPart K IsRangedScalar v → norm zeros (norm zeros v) ≡ norm zeros v
    norm_twice K (scalar s) h = ap scalar (normal_scalar_twice zeros s h)
    norm_twice K (array vs) h = ap array (norm_items_twice K vs h)
    norm_twice K (document ms) h = ap document (norm_members_twice K ms h)
    norm_twice K (scoped_code t ms) h = ap (scoped_code t) (norm_members_twice K ms h.1)

    norm_items_twice : (K : List ℕ → Type 0) (vs : Items) → EachItem K IsRangedScalar vs → norm_items zeros (norm_items zeros vs) ≡ norm_items zeros vs
    norm_items_twice K no_items h = refl
    norm_items_twice K (item v vs) h = let i : norm zeros (norm zeros v) ≡ norm zeros v = norm_twice K v h.0 in let j : norm_items zeros (norm_items zeros vs) ≡ norm_items zeros vs = norm_items_twice K vs h.1 in cc

    pub norm_members_twice : (K : List ℕ → Type 0) (ms : Members) → EachMember K IsRangedScalar ms → norm_members zeros (norm_members zeros ms) ≡ norm_members zeros ms
    norm_members_twice K no_members h = refl
    norm_members_twice K (member k v ms) h = let i : norm zeros (norm zeros v) ≡ norm zeros v = norm_twice K v h.1 in let j : norm_members zeros (norm_members zeros ms) ≡ norm_members zeros ms = norm_members_twice K ms h.2 in cc

-- ---- however the zeros are taken

scalar_sizes : (y z : Zeros) (s : Scalar) → scalar_size (normal_scalar y s) ≡ scalar_size (normal_scalar z s)
scalar_sizes y z (double n) = refl
scalar_sizes y z (regex p o) = refl
scalar_sizes y z (binary s bs) = refl
scalar_sizes y z (decimal bs) = refl
scalar_sizes y z _ = refl

mutual
  pub sizes_alike : (y z : Zeros) (v : Value) → value_size (norm y v) ≡ value_size (norm z v)
  sizes_alike y z (scalar s) = scalar_sizes y z s
  sizes_alike y z (array vs) = ap (λ n. n + 5) (items_sizes_alike y z 0 vs)
  sizes_alike y z (document ms) = ap (λ n. n + 5) (members_sizes_alike y z ms)
  sizes_alike y z (scoped_code t ms) = ap (λ n. n + length t + 14) (members_sizes_alike y z ms)

  items_sizes_alike : (y z : Zeros) (i : ℕ) (vs : Items) → items_size i (norm_items y vs) ≡ items_size i (norm_items z vs)
  items_sizes_alike y z i no_items = refl
  items_sizes_alike y z i (item v vs) = omega (arith, sizes_alike y z v, items_sizes_alike y z (suc i) vs)

  pub members_sizes_alike : (y z : Zeros) (ms : Members) → members_size (norm_members y ms) ≡ members_size (norm_members z ms)
  members_sizes_alike y z no_members = refl
  members_sizes_alike y z (member k v ms) = omega (arith, sizes_alike y z v, members_sizes_alike y z ms)

-- a length that was counted is over the limit exactly if the bytes are, however the zeros are taken
pub long_alike : (y z : Zeros) (d : Members) (n : ℕ) → n ≡ min (members_size (norm_members y d) + 5) (2 ^ 64 - 1)
    → IsTrue (nat_lt 2147483647 n) ↔ (2147483647 < members_size (norm_members z d) + 5)
long_alike y z d n is =
    let same : members_size (norm_members z d) ≡ members_size (norm_members y d) = members_sizes_alike z y d in
    (λ t. grind arith, λ h. grind arith)
