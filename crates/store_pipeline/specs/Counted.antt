-- The different values of documents, each with the number of documents that have it.
use Rattle.std.specs.Prelude.{◌≡◌, ◌++◌, ◌+◌, ◌≤◌, ◌==◌, ℕ, List, map, if◌then◌else◌}
use Rattle.std.specs.List.{AllByRecursion, count_by, flat_map, list_any}
use Rattle.std.specs.Ordering.{eq_by_cmp}
use Rattle.bson_base.specs.Value.{Members, Value}
use Rattle.bson_model.specs.View.{view}
use Rattle.bson_model.specs.declared.bson.Bson.{Bson}
use Rattle.bson_order.specs.Order.{order}
use Rattle.store_pipeline.specs.Distinct.{has, values_at}
use Rattle.store_pipeline.specs.Once.{IsEachOnce}
use Rattle.store_pipeline.specs.declared.sorted.counted.Counted.{Counted}
use Rattle.store_pipeline.specs.declared.sorted.distinct.Distinct.{Distinct}
use Rattle.store_question.specs.Filters.{path_of}
use Rattle.store_model.specs.Filter.{Path}

abbrev pub value_in : Counted → Value
value_in c = view c.value

-- each value that the documents have at the path, once and in the order of values, and how many of them have it
pub record AreDistinct (p : Path) (ds : List Members) (cs : List Counted) : Type 0 where
  pub once : IsEachOnce order (flat_map (values_at p) ds) (map value_in cs)
  pub counts : AllByRecursion (λ c. c.documents ≡ count_by (has p (value_in c)) ds) cs

-- ---- while they come

abbrev pub path_in : Distinct → Path
path_in t = path_of t.path.now

-- no later document was counted
abbrev pub WasLast : ℕ → Counted → Type 0
WasLast number c = c.last ≤ number

abbrev pub counted_in : Distinct → List Counted
counted_in t = t.counted.items

-- these documents were counted
pub record Holds (t : Distinct) (ds : List Members) : Type 0 where
  pub distinct : AreDistinct (path_in t) ds (counted_in t)
  pub last : AllByRecursion (WasLast t.number) (counted_in t)

-- it was counted for these documents, and for one more, which has this number and these values
abbrev pub IsCounted : Path → List Members → List Value → ℕ → Counted → Type 0
IsCounted p ds vs number c =
    (c.documents ≡ count_by (has p (value_in c)) ds + (if list_any (eq_by_cmp order (value_in c)) vs then 1 else 0))
    × (c.last ≤ number)
    × ((c.last == number) ≡ list_any (eq_by_cmp order (value_in c)) vs)

-- each of these values was
pub record IsCounting (p : Path) (ds : List Members) (vs : List Value) (number : ℕ) (cs : List Counted) : Type 0 where
  pub once : IsEachOnce order (flat_map (values_at p) ds ++ vs) (map value_in cs)
  pub counts : AllByRecursion (IsCounted p ds vs number) cs

-- it has the document with this number
abbrev pub CountsOnce : ℕ → Counted → Counted → Type 0
CountsOnce number old new = (value_in new ≡ value_in old) × (new.last ≡ number) × (new.documents ≡ old.documents + (if old.last == number then 0 else 1))

-- ---- trees of values

-- they were put behind
abbrev pub Adds : List Bson → List Bson → List Value → Type 0
Adds old new vs = map view new ≡ map view old ++ vs
