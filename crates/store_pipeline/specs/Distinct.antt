-- The values that a document has at a path (MongoDB, db.collection.distinct).
use Rattle.std.specs.Prelude.{ℕ, List, [], ◌∷◌, ◌++◌, Bool, if◌then◌else◌, Option, Some, None}
use Rattle.std.specs.List.{list_any}
use Rattle.std.specs.Ordering.{eq_by_cmp}
use Rattle.std.specs.Str.{bytes_eq}
use Rattle.bson_base.specs.Value.{Value, array, document, Members, no_members, member, look_up}
use Rattle.bson_order.specs.Order.{order}
use Rattle.store_model.specs.Filter.{under_places, Path}

-- ---- along a path

-- what each member leads to, one after the other
abbrev pub each_of : (List ℕ → Value → List Value) → Members → List Value
each_of on no_members = []
each_of on (member k v ms) = on k v ++ each_of on ms

abbrev pub itself : List ℕ → Value → List Value
itself place v = v ∷ []

-- an array at the end of a path gives its items
abbrev pub at_end : Value → List Value
at_end (array vs) = each_of itself (under_places 0 vs)
at_end v = v ∷ []

-- on from what is under a key, if anything is
abbrev pub under : (Value → List Value) → Option Value → List Value
under on None = []
under on (Some v) = on v

abbrev pub into_document : List ℕ → (Value → List Value) → Value → List Value
into_document k on (document ms) = under on (look_up k ms)
into_document k on v = []

-- an item of an array: a document is gone into, and so is the item whose place is the key
abbrev pub through : List ℕ → (Value → List Value) → List ℕ → Value → List Value
through k on place v = into_document k on v ++ (if bytes_eq place k then on v else [])

-- what a path leads to from a value
abbrev pub led_to : Path → Value → List Value
led_to [] v = at_end v
led_to (k ∷ path) (document ms) = under (led_to path) (look_up k ms)
led_to (k ∷ path) (array vs) = each_of (through k (led_to path)) (under_places 0 vs)
led_to (k ∷ path) v = []

-- ---- documents

abbrev pub values_at : Path → Members → List Value
values_at p d = led_to p (document d)

-- a value that is equal in the order of values, as 1 and 1.0 are, is among them
abbrev pub has : Path → Value → Members → Bool
has p v d = list_any (eq_by_cmp order v) (values_at p d)
