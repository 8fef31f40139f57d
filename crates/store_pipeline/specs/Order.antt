-- The order of documents by keys (MongoDB, cursor.sort, and Comparison/Sort Order): what a document is sorted by, which of two goes
-- first, and when a list is another one in this order.
use Rattle.std.specs.Prelude.{◌≡◌, ℕ, List, [], ◌∷◌, ◌++◌, Bool, true, false, if◌then◌else◌, Option, Some, None, unwrap_or, take, drop}
use Rattle.std.specs.List.Sorted.{IsPermutation, IsSortedBy, IsStableBy}
use Rattle.std.specs.Ordering.{is_lt, ordering_then, ordering_reverse}
use Rattle.std.specs.declared.cmp.Ordering.{Ordering}
use Rattle.std.specs.declared.cmp.Ordering.TheVariants.{Equal}
use Rattle.bson_base.specs.Value.{Value, scalar, null, undefined, array, document, Members, no_members, member, look_up}
use Rattle.bson_order.specs.Order.{order}
use Rattle.store_model.specs.Filter.{under_places, Path}

-- a path, and whether the greatest comes first
pub record Key : Type 0 where
  pub path : Path
  pub descending : Bool

-- ---- what a path leads to

-- what each member leads to, one after the other
abbrev pub each_of : (Value → List Value) → Members → List Value
each_of on no_members = []
each_of on (member k v ms) = on v ++ each_of on ms

abbrev pub itself : Value → List Value
itself v = v ∷ []

abbrev pub or_undefined : List Value → List Value
or_undefined [] = scalar undefined ∷ []
or_undefined (v ∷ vs) = v ∷ vs

-- an array at the end of a path stands for its items, and an empty one for undefined
abbrev pub opened : Value → List Value
opened (array vs) = or_undefined (each_of itself (under_places 0 vs))
opened v = itself v

-- what is absent is null
abbrev pub under : (Value → List Value) → Option Value → List Value
under on None = scalar null ∷ []
under on (Some v) = on v

-- a document among the items of an array is gone into, and any other item has nothing under the key
abbrev pub into_item : List ℕ → (Value → List Value) → Value → List Value
into_item k on (document ms) = under on (look_up k ms)
into_item k on v = scalar null ∷ []

-- the item that the key names by its place, or all
abbrev pub place_or_all : (Value → List Value) → List Value → Option Value → List Value
place_or_all here others None = others
place_or_all here others (Some v) = here v

-- what a path leads to from a value, in order; whether an array at its end is opened, which one that was named by its place isn't
abbrev pub led_to : Bool → Path → Value → List Value
led_to opens [] v = if opens then opened v else itself v
led_to opens (k ∷ path) (document ms) = under (led_to true path) (look_up k ms)
led_to opens (k ∷ path) (array vs) = place_or_all (led_to false path) (each_of (into_item k (led_to true path)) (under_places 0 vs)) (look_up k (under_places 0 vs))
led_to opens (k ∷ path) v = scalar null ∷ []

-- ---- what a document is sorted by

abbrev pub turned : Bool → Ordering → Ordering
turned descending r = if descending then ordering_reverse r else r

-- the second one, if it goes before the first
abbrev pub better : Bool → Option Value → Value → Value
better descending None w = w
better descending (Some v) w = if is_lt (turned descending (order w v)) then w else v

abbrev pub best : Bool → Option Value → List Value → Option Value
best descending o [] = o
best descending o (v ∷ vs) = best descending (Some (better descending o v)) vs

-- the least of the values that the path leads to, or the greatest if the greatest comes first
abbrev pub sorted_by : Path → Bool → Members → Value
sorted_by path descending d = unwrap_or (best descending None (led_to true path (document d))) (scalar null)

-- ---- the order of documents

-- by the first key that tells them apart
abbrev pub order_by : List Key → Members → Members → Ordering
order_by [] d e = Equal
order_by (k ∷ ks) d e = ordering_then (turned k.descending (order (sorted_by k.path k.descending d) (sorted_by k.path k.descending e))) (order_by ks d e)

abbrev pub goes_before : List Key → Members → Members → Bool
goes_before ks d e = is_lt (order_by ks d e)

-- es is ds in the order of the keys, and those that no key tells apart are in the order that they have in ds
pub record Sorts (ks : List Key) (ds es : List Members) : Type 0 where
  pub permutation : IsPermutation ds es
  pub ordered : IsSortedBy (goes_before ks) es
  pub stable : IsStableBy (goes_before ks) ds es

-- ---- a part of an answer

abbrev pub cut : {X : Type 0} → ℕ → Option ℕ → List X → List X
cut skip None xs = drop skip xs
cut skip (Some limit) xs = take limit (drop skip xs)

-- es is the part of ds that lies behind the first `skip` in the order of the keys, and at most `limit` of that
pub record Arranges (ks : List Key) (skip : ℕ) (limit : Option ℕ) (ds es : List Members) : Type 0 where
  pub all : List Members
  pub sorts : Sorts ks ds all
  pub part : es ≡ cut skip limit all
