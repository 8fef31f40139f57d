-- How deep a value is depends on its meaning only; and a document with a key set is one that could be read.
use Rattle.std.proofs.Common.{◌≤◌, ◌≡◌, ℕ, suc, max, List, Bool, true, false, cond, Some, None, refl, ap, ◌∙◌, sym, subst, arith}
use Rattle.std.specs.Prelude.{bytes_eq, option_map, IsUtf8}
use Rattle.std.specs.List.{list_any}
use Rattle.std.specs.declared.cmp.Ordering.{Ordering}
use Rattle.std.specs.declared.cmp.Ordering.TheVariants.{Less, Equal, Greater}
use Rattle.std.specs.Ordering.{match_ordering}
use Rattle.bson_base.specs.Kinds.{HasNo00, IsPlainScalar, IsCleanScalar, IsRangedScalar, IsSound, IsPlain, IsClean}
use Rattle.bson_meaning.specs.Meaning.{norm_in_order, asc, asc_items, asc_members, norm, norm_items, norm_members, place, Same}
use Rattle.bson_meaning.specs.Gate.{level_limit}
use Rattle.store_model.specs.Reading.{IsRead}
use Rattle.store_model.specs.State.{only}
use Rattle.bson_base.specs.Value.{Value, scalar, array, document, scoped_code, Items, no_items, item, Members, no_members, member, look_up, put, without, levels, items_levels, members_levels, HasDistinctKeys, ItemsHaveDistinctKeys, MembersHaveDistinctKeys, EachPart}
use Rattle.bson_meaning.proofs.OrderLemmas.{Order, tied, look_up-asc}
use Rattle.bson_meaning.proofs.NowLemmas.{in_order_same, normal_scalar_ranged, normal_scalar_clean, norm_each, norm_distinct}
use Rattle.bson_meaning.proofs.NormalLemmas.{asc_each, both_each}
use Rattle.bson_meaning.proofs.KeyLemmas.{asc_distinct}
use Rattle.store_model.proofs.EditLemmas.{only_each, only_distinct}
use Rattle.bson_base.proofs.MemberLemmas.{same_key, put_each, put_back, put_distinct, without_each, without_distinct, not_first, without_levels}
use Rattle.bson_base.proofs.PartLemmas.{each_part}

place_levels : (k : List ℕ) (v : Value) (ms : Members) → look_up k ms ≡ None → members_levels (place k v ms) ≡ max (levels v) (members_levels ms)
place_levels k v no_members h = refl
place_levels k v (member l w ms) h = by (place_levels k v ms (not_first k l w ms h).1) (Order k l) refl
  where
    by : members_levels (place k v ms) ≡ max (levels v) (members_levels ms) → (o : Ordering) → Order k l ≡ o
        → members_levels (match_ordering o (member k v (member l w ms)) (member k v ms) (member l w (place k v ms))) ≡ max (levels v) (members_levels (member l w ms))
    by r Less e = refl
    by r Equal e = let i : bytes_eq k l ≡ true = subst (λ m. bytes_eq k m ≡ true) (tied k l e) (same_key k) in let j : Some w ≡ None = sym (ap (λ b. cond b (Some w) (look_up k ms)) i) ∙ h in cc
    by r Greater e = omega (arith, r)

mutual
  norm_levels : (v : Value) → levels (norm v) ≡ levels v
  norm_levels (scalar s) = refl
  norm_levels (array vs) = ap suc (norm_items_levels vs)
  norm_levels (document ms) = ap suc (norm_members_levels ms)
  norm_levels (scoped_code t ms) = ap suc (norm_members_levels ms)

  norm_items_levels : (vs : Items) → items_levels (norm_items vs) ≡ items_levels vs
  norm_items_levels no_items = refl
  norm_items_levels (item v vs) = omega (arith, norm_levels v, norm_items_levels vs)

  norm_members_levels : (ms : Members) → members_levels (norm_members ms) ≡ members_levels ms
  norm_members_levels no_members = refl
  norm_members_levels (member k v ms) = omega (arith, norm_levels v, norm_members_levels ms)

mutual
  asc_levels : (v : Value) → HasDistinctKeys v → levels (asc v) ≡ levels v
  asc_levels (scalar s) h = refl
  asc_levels (array vs) h = ap suc (asc_items_levels vs h)
  asc_levels (document ms) h = ap suc (asc_members_levels ms h)
  asc_levels (scoped_code t ms) h = ap suc (asc_members_levels ms h)

  asc_items_levels : (vs : Items) → ItemsHaveDistinctKeys vs → items_levels (asc_items vs) ≡ items_levels vs
  asc_items_levels no_items h = refl
  asc_items_levels (item v vs) h = omega (arith, asc_levels v h.0, asc_items_levels vs h.1)

  asc_members_levels : (ms : Members) → MembersHaveDistinctKeys ms → members_levels (asc_members ms) ≡ members_levels ms
  asc_members_levels no_members h = refl
  asc_members_levels (member k v ms) h =
      place_levels k (asc v) (asc_members ms) (look_up-asc k ms ∙ ap (option_map asc) h.0) ∙ omega (arith, asc_levels v h.1, asc_members_levels ms h.2)

pub in_order_levels : (v : Value) → HasDistinctKeys v → levels (norm_in_order v) ≡ levels v
in_order_levels v h = asc_levels (norm v) (norm_distinct v h) ∙ norm_levels v

pub same_levels : (v w : Value) → Same v w → HasDistinctKeys v → HasDistinctKeys w → levels v ≡ levels w
same_levels v w h a b = sym (in_order_levels v a) ∙ ap levels (in_order_same v w h) ∙ in_order_levels w b

-- ---- a value set

pub set_distinct : (v : Value) → HasDistinctKeys (norm_in_order v)
set_distinct v = asc_distinct (norm v)

pub set_ranged : (v : Value) → IsSound v → EachPart IsUtf8 IsRangedScalar (norm_in_order v)
set_ranged v s = asc_each IsUtf8 IsRangedScalar (norm v) (norm_each IsUtf8 IsUtf8 IsRangedScalar IsRangedScalar (λ k h. h) normal_scalar_ranged v s.ranged)

pub set_clean : (v : Value) → IsSound v → IsPlain (norm_in_order v) → IsClean (norm_in_order v)
set_clean v s p =
    let c : EachPart IsUtf8 IsCleanScalar (norm_in_order v) = asc_each IsUtf8 IsCleanScalar (norm v) (norm_each IsUtf8 IsUtf8 IsRangedScalar IsCleanScalar (λ k h. h) normal_scalar_clean v s.ranged) in
    each_part (λ k. HasNo00 k × IsUtf8 k) HasNo00 (λ s. IsPlainScalar s × IsCleanScalar s) (λ s. IsPlainScalar s × IsCleanScalar s) (λ k h. h.0) (λ s h. h) (norm_in_order v)
    (both_each HasNo00 IsUtf8 IsPlainScalar IsCleanScalar (norm_in_order v) p c)

pub clean_plain : (d : Members) → IsClean (document d) → IsPlain (document d)
clean_plain d c = each_part HasNo00 HasNo00 (λ s. IsPlainScalar s × IsCleanScalar s) IsPlainScalar (λ k h. h) (λ s h. h.0) (document d) c

pub set_read : (k : List ℕ) (v : Value) (d : Members) → HasNo00 k → IsUtf8 k → IsSound v → IsRead d → IsPlain (document (put k (norm_in_order v) d)) → levels (document (put k (norm_in_order v) d)) ≤ level_limit → IsRead (put k (norm_in_order v) d)
set_read k v d n u s h p low = record {
  clean = put_each _ _ k (norm_in_order v) d n (set_clean v s (put_back _ _ k (norm_in_order v) d p)) h.clean;
  sound = record { ranged = put_each _ _ k (norm_in_order v) d u (set_ranged v s) h.sound.ranged; distinct = put_distinct k (norm_in_order v) d (set_distinct v) h.sound.distinct };
  shallow = low;
}

-- a set value leaves both documents plain, or neither
pub set_plain : (k : List ℕ) (v w : Value) (d e : Members) → HasNo00 k → norm_in_order v ≡ norm_in_order w → IsRead e
    → IsPlain (document (put k (norm_in_order v) d)) → IsPlain (document (put k (norm_in_order w) e))
set_plain k v w d e n i h p = put_each HasNo00 IsPlainScalar k (norm_in_order w) e n (subst IsPlain i (put_back HasNo00 IsPlainScalar k (norm_in_order v) d p)) (clean_plain e h.clean)

-- ---- documents with fewer members

pub read_without : (k : List ℕ) (d : Members) → IsRead d → IsRead (without k d)
read_without k d h = record {
  clean = without_each _ _ k d h.clean;
  sound = record { ranged = without_each _ _ k d h.sound.ranged; distinct = without_distinct k d h.sound.distinct };
  shallow = omega (arith, without_levels k d, h.shallow);
}

only_levels : (ks : List (List ℕ)) (d : Members) → members_levels (only ks d) ≤ members_levels d
only_levels ks no_members = omega arith
only_levels ks (member l v ms) = by (only_levels ks ms) (list_any (bytes_eq l) ks)
  where
    by : members_levels (only ks ms) ≤ members_levels ms → (b : Bool) → members_levels (cond b (member l v (only ks ms)) (only ks ms)) ≤ members_levels (member l v ms)
    by r true = omega arith
    by r false = omega arith

pub read_only : (ks : List (List ℕ)) (d : Members) → IsRead d → IsRead (only ks d)
read_only ks d h = record {
  clean = only_each _ _ ks d h.clean;
  sound = record { ranged = only_each _ _ ks d h.sound.ranged; distinct = only_distinct ks d h.sound.distinct };
  shallow = omega (arith, only_levels ks d, h.shallow);
}
