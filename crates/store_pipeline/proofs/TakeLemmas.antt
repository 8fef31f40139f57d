-- Values that are counted, one after the other.
use Rattle.std.proofs.Common.{◌≡◌, ◌∙◌, ℕ, ◌+◌, ◌<◌, ◌≤◌, ◌==◌, List, [], ◌∷◌, ◌++◌, length, get_or, map, set, take, Bool, true, false, cond, Result, Ok, Err, OnOk, eqb-true, append-nil, append_assoc, refl, sym, ap, subst, arith}
use Rattle.std.proofs.lemmas.Bool.{or_parts}
use Rattle.std.proofs.lemmas.Cmp.{tied_itself}
use Rattle.std.proofs.lemmas.List.{map_more, take_all}
use Rattle.std.proofs.lemmas.List.Concat.{flat_map-append}
use Rattle.std.proofs.lemmas.List.Folds.{list_any-append}
use Rattle.std.specs.List.{AllByRecursion, HoldsAt, count_by, flat_map, insert, list_any}
use Rattle.std.specs.List.Sorted.{IsBinarySearchResult, IsStrictlySortedBy}
use Rattle.std.specs.Ordering.{eq_by_cmp}
use Rattle.std.specs.declared.alloc.AllocError.{AllocError}
use Rattle.std.specs.declared.cmp.Ordering.TheVariants.{Equal}
use Rattle.bson_base.specs.Value.{Members, Value}
use Rattle.bson_model.specs.View.{view}
use Rattle.bson_model.specs.declared.bson.Bson.{Bson}
use Rattle.bson_order.proofs.MeaningLemmas.{total_order}
use Rattle.bson_order.specs.Order.{order}
use Rattle.store_pipeline.proofs.SortedCountLemmas.{all_new, all_set, at_mapped, count_begins, count_ends, count_grows, count_new, count_stays, gap_found, map_insert, map_long, map_set}
use Rattle.store_pipeline.proofs.OnceLemmas.{all_map, gap_apart, gap_none, none_met, once_again, once_new}
use Rattle.store_pipeline.specs.Counted.{AreDistinct, CountsOnce, Holds, IsCounted, IsCounting, WasLast, counted_in, path_in, value_in}
use Rattle.store_pipeline.specs.Distinct.{has, values_at}
use Rattle.store_pipeline.specs.Once.{IsEachOnce}
use Rattle.store_pipeline.specs.declared.sorted.counted.Counted.{Counted}
use Rattle.store_pipeline.specs.declared.sorted.distinct.Distinct.{Distinct}
use Rattle.store_model.specs.Filter.{Path}

-- ---- a count

pub told_already : (n : ℕ) (b : Bool) → b ≡ true → n ≡ n + cond b 0 1
told_already n b e = omega arith ∙ ap (λ x. n + cond x 0 1) (sym e)

pub told_more : (n m : ℕ) (b : Bool) → b ≡ false → m ≡ n + 1 → m ≡ n + cond b 0 1
told_more n m b e is = is ∙ ap (λ x. n + cond x 0 1) (sym e)

pub unlike : (m n : ℕ) → (m ≡ n → ⊥) → (m == n) ≡ false
unlike m n d = by (m == n) refl
  where
    by : (b : Bool) → (m == n) ≡ b → (m == n) ≡ false
    by true e = absurd (d (eqb-true m n e))
    by false e = e

-- ---- one value

module _ (p : Path) (ds : List Members) (vs : List Value) (number : ℕ) (cs : List Counted) (v : Value) (h : IsCounting p ds vs number cs) where
  abbrev before : List Value
  before = flat_map (values_at p) ds

  once_more : (ys : List Value) → IsEachOnce order ((before ++ vs) ++ v ∷ []) ys → IsEachOnce order (before ++ (vs ++ v ∷ [])) ys
  once_more ys o = subst (λ (xs : List Value). IsEachOnce order xs ys) (append_assoc before vs (v ∷ [])) o

  stays : (c : Counted) → (order (value_in c) v ≡ Equal → ⊥) → IsCounted p ds vs number c → IsCounted p ds (vs ++ v ∷ []) number c
  stays c n k = count_stays order total_order (values_at p) ds vs v number (value_in c) c.documents c.last n k

  pub counted_again : (i : ℕ) (d c : Counted) → i < length cs → HoldsAt (λ x. order (value_in x) v ≡ Equal) cs i → CountsOnce number (get_or cs i d) c → IsCounting p ds (vs ++ v ∷ []) number (set cs i c)
  counted_again i d c a e told =
      let same : map value_in (set cs i c) ≡ map value_in cs = map_set value_in cs i d c a told.0 in
      record {
        once = subst (λ (ys : List Value). IsEachOnce order (before ++ (vs ++ v ∷ [])) ys) (sym same) (once_more (map value_in cs) (once_again order total_order v (before ++ vs) (map value_in cs) h.once i v (let long = map_long value_in cs in omega (arith, a, long)) (at_mapped value_in (λ y. order y v ≡ Equal) cs i v a e)));
        counts = all_set value_in order total_order v (IsCounted p ds vs number) (IsCounted p ds (vs ++ v ∷ []) number) cs i d c a h.once.rises (e d)
            (λ k. count_grows order total_order (values_at p) ds vs v number (value_in (get_or cs i d)) (value_in c) (get_or cs i d).documents (get_or cs i d).last c.documents c.last (e d) told.0 told.1 told.2 k) stays h.counts;
      }

  pub counted_new : (i : ℕ) (c : Counted) → i ≤ length cs → IsBinarySearchResult (λ x. order (value_in x) v) cs (Err i) → value_in c ≡ v → c.documents ≡ 1 → c.last ≡ number → IsCounting p ds (vs ++ v ∷ []) number (insert cs i c)
  counted_new i c a found same one at =
      let gap = gap_found value_in order total_order v cs i h.once.rises a found in
      let long = map_long value_in cs in
      let below : i ≤ length (map value_in cs) = omega (arith, a, long) in
      let none = none_met order total_order v (before ++ vs) (map value_in cs) h.once.every (gap_none order total_order v (map value_in cs) (gap_apart order total_order v (map value_in cs) i below gap)) in
      let parts = or_parts (list_any (eq_by_cmp order v) before) (list_any (eq_by_cmp order v) vs) (sym (list_any-append (eq_by_cmp order v) before vs) ∙ none) in
      let keys : insert (map value_in cs) i v ≡ map value_in (insert cs i c) = ap (insert (map value_in cs) i) (sym same) ∙ sym (map_insert value_in cs i c) in
      record {
        once = subst (λ (ys : List Value). IsEachOnce order (before ++ (vs ++ v ∷ [])) ys) keys (once_more (insert (map value_in cs) i v) (once_new order total_order v (before ++ vs) (map value_in cs) h.once i below gap));
        counts = all_new value_in order total_order v (IsCounted p ds vs number) (IsCounted p ds (vs ++ v ∷ []) number) cs i c a gap
            (count_new order total_order (values_at p) ds vs v number c.documents c.last (value_in c) same (tied_itself total_order v) one at parts.0) stays h.counts;
      }

-- the same in a list that is lent
pub again_on : (p : Path) (ds : List Members) (vs : List Value) (number : ℕ) (cs : List Counted) (v : Value) → IsCounting p ds vs number cs → (slice : List Counted) → slice ≡ cs → (i : ℕ) (old new : Counted) (r : Result (Unit {0}) AllocError) → i < length slice
    → HoldsAt (λ x. order (value_in x) v ≡ Equal) slice i → old ≡ get_or cs i old → OnOk r (CountsOnce number old new) → OnOk r (IsCounting p ds (vs ++ v ∷ []) number (set cs i new))
again_on p ds vs number cs v h slice e i old new (Ok x) a at is told =
    counted_again p ds vs number cs v h i old new (let long = ap length e in omega (arith, a, long)) (subst (λ (l : List Counted). HoldsAt (λ x. order (value_in x) v ≡ Equal) l i) e at) (subst (λ (c : Counted). CountsOnce number c new) is told)
again_on p ds vs number cs v h slice e i old new (Err x) a at is told = tt

pub new_items : (p : Path) (ds : List Members) (vs : List Value) (number : ℕ) (cs : List Counted) (v : Value) → IsCounting p ds vs number cs → (slice : List Counted) → slice ≡ cs → (i : ℕ) (c : Counted) (items : List Counted) → i ≤ length slice
    → IsBinarySearchResult (λ x. order (value_in x) v) slice (Err i) → value_in c ≡ v → c.documents ≡ 1 → c.last ≡ number → items ≡ insert cs i c → IsCounting p ds (vs ++ v ∷ []) number items
new_items p ds vs number cs v h slice e i c items a found same one at is =
    subst (λ (l : List Counted). IsCounting p ds (vs ++ v ∷ []) number l) (sym is)
    (counted_new p ds vs number cs v h i c (let long = ap length e in omega (arith, a, long)) (subst (λ (l : List Counted). IsBinarySearchResult (λ x. order (value_in x) v) l (Err i)) e found) same one at)

-- ---- one document

pub nothing_yet : (p : Path) → AreDistinct p [] []
unfolding IsStrictlySortedBy
nothing_yet p = record { once = record { rises = tt; first = tt; every = tt }; counts = tt }

module _ (p : Path) (ds : List Members) where
  pub counting_begins : (m number : ℕ) (cs : List Counted) → number ≡ m + 1 → AreDistinct p ds cs → AllByRecursion (WasLast m) cs → IsCounting p ds [] number cs
  counting_begins m number cs e h low = record {
    once = subst (λ (xs : List Value). IsEachOnce order xs (map value_in cs)) (sym (append-nil (flat_map (values_at p) ds))) h.once;
    counts = both cs h.counts low;
  }
    where
      both : (xs : List Counted) → AllByRecursion (λ c. c.documents ≡ count_by (has p (value_in c)) ds) xs → AllByRecursion (WasLast m) xs → AllByRecursion (IsCounted p ds [] number) xs
      both [] a b = tt
      both (c ∷ xs) a b = (count_begins order total_order (values_at p) ds m number (value_in c) c.documents c.last e a.0 b.0, both xs a.1 b.1)

  pub counting_ends : (d : Members) (number : ℕ) (cs : List Counted) → IsCounting p ds (values_at p d) number cs → AreDistinct p (ds ++ d ∷ []) cs
  counting_ends d number cs h = record {
    once = subst (λ (xs : List Value). IsEachOnce order xs (map value_in cs)) (sym (flat_map-append (values_at p) ds (d ∷ []) ∙ ap (λ (xs : List Value). flat_map (values_at p) ds ++ xs) (append-nil (values_at p d)))) h.once;
    counts = all_map (IsCounted p ds (values_at p d) number) (λ c. c.documents ≡ count_by (has p (value_in c)) (ds ++ d ∷ [])) cs (λ c k. count_ends order total_order (values_at p) ds d number (value_in c) c.documents c.last k) h.counts;
  }

  pub last_ends : (vs : List Value) (number : ℕ) (cs : List Counted) → IsCounting p ds vs number cs → AllByRecursion (WasLast number) cs
  last_ends vs number cs h = all_map (IsCounted p ds vs number) (WasLast number) cs (λ c k. k.1) h.counts

-- ---- what was taken

pub nothing_held : (t : Distinct) → counted_in t ≡ [] → Holds t []
nothing_held t e = record {
  distinct = subst (λ (cs : List Counted). AreDistinct (path_in t) [] cs) (sym e) (nothing_yet (path_in t));
  last = subst (λ (cs : List Counted). AllByRecursion (WasLast t.number) cs) (sym e) tt;
}

pub one_more : (p : Path) (ds : List Members) (number : ℕ) (bs : List Bson) (i : ℕ) (b : Bson) (cs new : List Counted) → i < length bs → b ≡ get_or bs i b → IsCounting p ds (map view (take i bs)) number cs
    → ((q : Path) (es : List Members) (vs : List Value) → IsCounting q es vs number cs → IsCounting q es (vs ++ view b ∷ []) number new) → IsCounting p ds (map view (take (i + 1) bs)) number new
one_more p ds number bs i b cs new a e h told =
    subst (λ (vs : List Value). IsCounting p ds vs number new) (ap (λ x. map view (take i bs) ++ view x ∷ []) e ∙ sym (map_more view bs i b a)) (told p ds (map view (take i bs)) h)

pub all_taken : (old new : Distinct) (ds : List Members) (d : Members) (number : ℕ) (bs : List Bson) (i : ℕ) → path_in new ≡ path_in old → new.number ≡ number → length bs ≤ i → map view bs ≡ values_at (path_in old) d
    → IsCounting (path_in new) ds (map view (take i bs)) number (counted_in new) → Holds new (ds ++ d ∷ [])
all_taken old new ds d number bs i same at end are h =
    let whole : map view (take i bs) ≡ values_at (path_in new) d = ap (map view) (take_all i bs end) ∙ are ∙ ap (λ (p : Path). values_at p d) (sym same) in
    let done = subst (λ (vs : List Value). IsCounting (path_in new) ds vs number (counted_in new)) whole h in
    record {
      distinct = counting_ends (path_in new) ds d number (counted_in new) done;
      last = subst (λ n. AllByRecursion (WasLast n) (counted_in new)) (sym at) (last_ends (path_in new) ds (values_at (path_in new) d) number (counted_in new) done);
    }
