-- The order of documents by keys.
use Rattle.std.proofs.Common.{◌≡◌, ◌∙◌, ℕ, ◌+◌, ◌<◌, ◌≤◌, List, [], ◌∷◌, drop, length, get_or, Bool, true, false, refl, sym, ap, subst, add-one}
use Rattle.std.proofs.Math.Seq.{drop-cons}
use Rattle.std.proofs.lemmas.Cmp.{back_total, on_total, then_total}
use Rattle.std.proofs.lemmas.List.{drop_all}
use Rattle.std.proofs.lemmas.List.Sorted.{ranks_by}
use Rattle.std.specs.Cmp.{IsStrictWeakOrder, IsTotalOrder}
use Rattle.std.specs.Ordering.{ordering_reverse, ordering_then}
use Rattle.std.specs.declared.cmp.Ordering.{Ordering}
use Rattle.std.specs.declared.cmp.Ordering.TheVariants.{Less, Equal, Greater}
use Rattle.bson_base.specs.Value.{Members}
use Rattle.bson_order.proofs.MeaningLemmas.{total_order}
use Rattle.bson_order.specs.Order.{order}
use Rattle.store_question.specs.Filters.{path_of}
use Rattle.store_pipeline.specs.Bodies.{keys_of}
use Rattle.store_pipeline.specs.Order.{goes_before, Key, order_by, sorted_by, turned}
use Rattle.store_pipeline.specs.declared.sorted.keys.SortKey.{SortKey}

all_equal : IsTotalOrder {K = Members} (λ d e. Equal)
all_equal = record { antisymm = λ x y. refl; trans = λ x y z p q. absurd cc; congr = λ x y z p. refl }

reversed_total : {K : Type 0} (R : K → K → Ordering) → IsTotalOrder R → IsTotalOrder (λ x y. ordering_reverse (R x y))
reversed_total R o = subst IsTotalOrder (λ i x y. o.antisymm y x i) (back_total o)

turned_total : (descending : Bool) {K : Type 0} (R : K → K → Ordering) → IsTotalOrder R → IsTotalOrder (λ x y. turned descending (R x y))
turned_total true R o = reversed_total R o
turned_total false R o = o

pub order_total : (ks : List Key) → IsTotalOrder (order_by ks)
order_total [] = all_equal
order_total (k ∷ ks) = then_total (turned_total k.descending (λ d e. order (sorted_by k.path k.descending d) (sorted_by k.path k.descending e)) (on_total (sorted_by k.path k.descending) total_order)) (order_total ks)

pub weak : (ks : List Key) → IsStrictWeakOrder (goes_before ks)
weak ks = ranks_by (order_total ks) (λ d. d)

-- ---- turns of the loop over keys

abbrev pub key_turn : SortKey → Members → Members → Ordering
key_turn k d e = turned k.descending (order (sorted_by (path_of k.path.items) k.descending d) (sorted_by (path_of k.path.items) k.descending e))

front : (keys : List SortKey) (i : ℕ) (k : SortKey) → k ≡ get_or keys i k → i < length keys → drop i keys ≡ k ∷ drop (i + 1) keys
front keys i k e h = drop-cons keys i k h ∙ rw (← e, add-one) refl

module _ (keys : List SortKey) (i : ℕ) (d e : Members) where
  module _ (k : SortKey) (is : k ≡ get_or keys i k) (h : i < length keys) (left : order_by (keys_of keys) d e ≡ order_by (keys_of (drop i keys)) d e) where
    opened : order_by (keys_of keys) d e ≡ ordering_then (key_turn k d e) (order_by (keys_of (drop (i + 1) keys)) d e)
    opened = left ∙ ap (λ (ks : List SortKey). order_by (keys_of ks) d e) (front keys i k is h)

    pub key_less : key_turn k d e ≡ Less → Less ≡ order_by (keys_of keys) d e
    key_less t = sym (opened ∙ ap (λ r. ordering_then r (order_by (keys_of (drop (i + 1) keys)) d e)) t)

    pub key_greater : key_turn k d e ≡ Greater → Greater ≡ order_by (keys_of keys) d e
    key_greater t = sym (opened ∙ ap (λ r. ordering_then r (order_by (keys_of (drop (i + 1) keys)) d e)) t)

    pub key_equal : key_turn k d e ≡ Equal → order_by (keys_of keys) d e ≡ order_by (keys_of (drop (i + 1) keys)) d e
    key_equal t = opened ∙ ap (λ r. ordering_then r (order_by (keys_of (drop (i + 1) keys)) d e)) t

  pub keys_end : length keys ≤ i → order_by (keys_of keys) d e ≡ order_by (keys_of (drop i keys)) d e → Equal ≡ order_by (keys_of keys) d e
  keys_end h left = sym (left ∙ ap (λ (ks : List SortKey). order_by (keys_of ks) d e) (drop_all i keys h))
