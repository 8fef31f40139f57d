-- Keys are equal exactly for documents of the same meaning, and sameness is an equivalence.
use Rattle.std.proofs.Common.{◌≡◌, ◌↔◌, ℕ, ◌+◌, ◌^◌, ◌<◌, ◌≤◌, List, [], ◌++◌, length, refl, ap, ◌∙◌, sym, subst, arith, Bool, true, false, leb}
use Rattle.std.proofs.lemmas.Bool.{leb-true, leb-false}
use Rattle.std.specs.Prelude.{IsUtf8}
use Rattle.std.specs.declared.cmp.Ordering.TheVariants.{Less, Equal, Greater}
use Rattle.std.specs.Ordering.{nat_cmp, match_ordering}
use Rattle.std.specs.Cmp.Lexicographic.{slice_cmp}
use Rattle.bson_base.specs.Kinds.{HasNo00, IsPlainScalar, IsCleanScalar, IsRangedScalar, IsSound, IsPlain, IsClean}
use Rattle.bson_base.specs.Value.{Value, scalar, array, document, scoped_code, Items, no_items, item, Members, no_members, member, look_up, EachMember, HasDistinctKeys, ItemsHaveDistinctKeys, MembersHaveDistinctKeys}
use Rattle.bson_meaning.specs.declared.scalars.Zeros.{Zeros}
use Rattle.bson_bytes.specs.Encode.{encode, size}
use Rattle.bson_bytes.specs.Writing.{CanBeWritten}
use Rattle.bson_bytes.proofs.LengthLemmas.{encode_length}
use Rattle.bson_bytes.proofs.ApartLemmas.{bytes_tell}
use Rattle.bson_model.specs.Equal as equality
use Rattle.bson_model.specs.Equal.{EqualItems, EqualUnder}
use Rattle.bson_meaning.specs.Forms.{norm_members_in_order, asc, asc_items, asc_members, norm, norm_members, normal_scalar, place, key, Same, SameItems, SameUnder}
use Rattle.bson_meaning.proofs.OrderLemmas.{IsAscending, ascending_asc, none_above}
use Rattle.bson_meaning.proofs.NormalOrderLemmas.{in_order_same, same_in_order, some_and_map}
use Rattle.bson_meaning.proofs.NormalLemmas.{normal_scalar_ranged, normal_scalar_plain, normal_scalar_clean, norm_each, asc_each, both_each, norm_distinct, norm_distinct_members, asc_members_size, norm_members_size, norm_twice, IsSized}
use Rattle.bson_bytes.proofs.MeaningLemmas.{IsGoodKey}

-- ---- keys in order are distinct

abbrev ValuesDistinct : Members → Type 0
ValuesDistinct no_members = Unit {0}
ValuesDistinct (member k v ms) = HasDistinctKeys v × ValuesDistinct ms

place_values : (k : List ℕ) (v : Value) (ms : Members) → HasDistinctKeys v → ValuesDistinct ms → ValuesDistinct (place k v ms)
place_values k v no_members h i = (h, tt)
place_values k v (member l w ms) h i =
    elim (slice_cmp nat_cmp k l) as (λ o. ValuesDistinct (match_ordering o (member k v (member l w ms)) (member k v ms) (member l w (place k v ms)))) [
      | Less ↦ (h, i)
      | Equal ↦ (h, i.1)
      | Greater ↦ (i.0, place_values k v ms h i.1)
    ]

ascending_distinct : (ms : Members) → IsAscending ms → ValuesDistinct ms → MembersHaveDistinctKeys ms
ascending_distinct no_members a h = tt
ascending_distinct (member k v ms) a h = (none_above k ms a.0, h.0, ascending_distinct ms a.1 h.1)

mutual
  pub asc_distinct : (v : Value) → HasDistinctKeys (asc v)
  asc_distinct (scalar s) = tt
  asc_distinct (array vs) = asc_distinct_items vs
  asc_distinct (document ms) = ascending_distinct (asc_members ms) (ascending_asc ms) (asc_values ms)
  asc_distinct (scoped_code t ms) = ascending_distinct (asc_members ms) (ascending_asc ms) (asc_values ms)

  asc_distinct_items : (vs : Items) → ItemsHaveDistinctKeys (asc_items vs)
  asc_distinct_items no_items = tt
  asc_distinct_items (item v vs) = (asc_distinct v, asc_distinct_items vs)

  asc_values : (ms : Members) → ValuesDistinct (asc_members ms)
  asc_values no_members = tt
  asc_values (member k v ms) = place_values k (asc v) (asc_members ms) (asc_distinct v) (asc_values ms)

module _ (zeros : Zeros) where
  -- ---- what a (key zeros) is written of

  pub in_order_clean : (d : Members) → IsPlain (document d) → IsSound (document d) → IsClean (document (norm_members_in_order zeros d))
  in_order_clean d p s =
      let both = both_each HasNo00 IsUtf8 IsPlainScalar IsRangedScalar (document d) p s.ranged in
      let normal = norm_each zeros IsGoodKey HasNo00 (λ s. IsPlainScalar s × IsRangedScalar s) (λ s. IsPlainScalar s × IsCleanScalar s) (λ k h. h.0)
      (λ s h. (normal_scalar_plain zeros s h.1 h.0, normal_scalar_clean zeros s h.1)) (document d) both in
      asc_each HasNo00 (λ s. IsPlainScalar s × IsCleanScalar s) (document (norm_members zeros d)) normal

  pub in_order_sound : (d : Members) → IsSound (document d) → IsSound (document (norm_members_in_order zeros d))
  in_order_sound d s = record {
    ranged = asc_each IsUtf8 IsRangedScalar (document (norm_members zeros d)) (norm_each zeros IsUtf8 IsUtf8 IsRangedScalar IsRangedScalar (λ k h. h) (normal_scalar_ranged zeros) (document d) s.ranged);
    distinct = asc_distinct (document (norm_members zeros d));
  }

  pub in_order_plain : (d : Members) → IsPlain (document d) → IsSound (document d) → IsPlain (document (norm_members_in_order zeros d))
  in_order_plain d p s =
      let both = both_each HasNo00 IsUtf8 IsPlainScalar IsRangedScalar (document d) p s.ranged in
      asc_each HasNo00 IsPlainScalar (document (norm_members zeros d)) (norm_each zeros IsGoodKey HasNo00 (λ s. IsPlainScalar s × IsRangedScalar s) IsPlainScalar (λ k h. h.0) (λ s h. normal_scalar_plain zeros s h.1 h.0) (document d) both)

  pub key_law : (d e : Members) → IsPlain (document d) → IsSound (document d) → IsPlain (document e) → IsSound (document e)
      → length (key zeros d) ≤ 2147483647 → length (key zeros e) ≤ 2147483647 → (key zeros d ≡ key zeros e) ↔ Same zeros (document d) (document e)
  key_law d e p s q t m n =
      let a : size (norm_members_in_order zeros d) < 2 ^ 31 = omega (arith, encode_length (norm_members_in_order zeros d)) in
      let b : size (norm_members_in_order zeros e) < 2 ^ 31 = omega (arith, encode_length (norm_members_in_order zeros e)) in (
        λ k. same_in_order zeros (document d) (document e) s.distinct (ap document (bytes_tell (norm_members_in_order zeros d) (norm_members_in_order zeros e) [] [] (in_order_clean d p s) (in_order_sound d s)
            (in_order_clean e q t) (in_order_sound e t) a b (ap (λ x. x ++ []) k)).0),
        λ h. let i : document (norm_members_in_order zeros d) ≡ document (norm_members_in_order zeros e) = in_order_same zeros (document d) (document e) h in
            let j : norm_members_in_order zeros d ≡ norm_members_in_order zeros e = cc in ap encode j,
      )

  -- ---- an equivalence

  pub same_itself : (v : Value) → IsSound v → Same zeros v v
  same_itself v s = same_in_order zeros v v s.distinct refl

  pub same_back : (v w : Value) → IsSound w → Same zeros v w → Same zeros w v
  same_back v w t h = same_in_order zeros w v t.distinct (sym (in_order_same zeros v w h))

  pub same_on : (u v w : Value) → IsSound u → Same zeros u v → Same zeros v w → Same zeros u w
  same_on u v w r h k = same_in_order zeros u w r.distinct (in_order_same zeros u v h ∙ in_order_same zeros v w k)

  pub twice : (v : Value) → IsSound v → norm zeros (norm zeros v) ≡ norm zeros v
  twice v s = norm_twice zeros IsUtf8 v s.ranged

  pub same_norm : (v : Value) → IsSound v → Same zeros (norm zeros v) v
  same_norm v s = same_in_order zeros (norm zeros v) v (norm_distinct zeros v s.distinct) (ap asc (twice v s))

  -- ---- sizes

  pub key_size : (d : Members) → IsClean (document d) → IsSound (document d) → size (norm_members_in_order zeros d) ≡ size d
  key_size d c s =
      let whole : EachMember IsGoodKey IsSized d = both_each HasNo00 IsUtf8 (λ s. IsPlainScalar s × IsCleanScalar s) IsRangedScalar (document d) c s.ranged in
      ap (λ n. n + 5) (asc_members_size (norm_members zeros d) (norm_distinct_members zeros d s.distinct) ∙ norm_members_size zeros IsGoodKey d whole)

  -- ---- equal values

  mutual
    pub equal_same : (v w : Value) → equality.Equal v w → Same zeros v w
    equal_same (scalar s) (scalar t) h = ap (normal_scalar zeros) h
    equal_same (array vs) (array ws) h = equal_items vs ws h
    equal_same (document ms) (document ns) h = (h.0, equal_under ms ns h.1)
    equal_same (scoped_code t ms) (scoped_code u ns) h = (h.0, h.1, equal_under ms ns h.2)
    equal_same _ _ h = absurd h

    equal_items : (vs ws : Items) → EqualItems vs ws → SameItems zeros vs ws
    equal_items no_items no_items h = tt
    equal_items (item v vs) (item w ws) h = (equal_same v w h.0, equal_items vs ws h.1)
    equal_items _ _ h = absurd h

    equal_under : (ms ns : Members) → EqualUnder ms ns → SameUnder zeros ms ns
    equal_under no_members ns h = tt
    equal_under (member k v ms) ns h = (some_and_map (look_up k ns) _ _ (equal_same v) h.0, equal_under ms ns h.1)

  -- a (key zeros) has as many bytes as the normal form, whose keys are in some order
  pub key_length : (d : Members) → IsSound (document d) → length (key zeros d) ≡ size (norm_members zeros d)
  key_length d s = encode_length (norm_members_in_order zeros d) ∙ ap (λ n. n + 5) (asc_members_size (norm_members zeros d) (norm_distinct_members zeros d s.distinct))

  pub key_exceeds : (d : Members) → IsSound (document d) → 2147483647 < size (norm_members zeros d) → 2147483647 < length (key zeros d)
  key_exceeds d s h = omega (arith, key_length d s, h)

  pub key_within : (d : Members) → IsSound (document d) → 2147483647 < length (key zeros d) → 2147483647 < size (norm_members zeros d)
  key_within d s h = omega (arith, key_length d s, h)

  -- ---- keys that can be written

  pub key_fits : (d m : Members) → m ≡ norm_members_in_order zeros d → CanBeWritten (document m) → length (key zeros d) ≤ 2147483647
  key_fits d m e h =
      let n : size (norm_members_in_order zeros d) < 2 ^ 31 = subst (λ x. size x < 2 ^ 31) e h.1 in
      omega (arith, encode_length (norm_members_in_order zeros d), n)

  pub key_long : (d m : Members) → m ≡ norm_members_in_order zeros d → IsPlain (document d) → IsSound (document d) → (CanBeWritten (document m) → ⊥) → 2147483647 < length (key zeros d)
  key_long d m e p s h = by (leb (length (key zeros d)) 2147483647) refl
    where
      by : (b : Bool) → leb (length (key zeros d)) 2147483647 ≡ b → 2147483647 < length (key zeros d)
      by true f =
          let n : size (norm_members_in_order zeros d) < 2 ^ 31 = omega (arith, encode_length (norm_members_in_order zeros d), leb-true (length (key zeros d)) 2147483647 f) in
          absurd (h (subst (λ x. CanBeWritten (document x)) (sym e) (in_order_plain d p s, n)))
      by false f = omega (arith, leb-false (length (key zeros d)) 2147483647 f)
