-- What is in front of a question.
use Rattle.std.specs.Prelude.{◌≡◌, ◌⊎◌, ◌≤ℤ◌, List, IsSomeAnd}
use Rattle.std.specs.List.{AllByRecursion}
use Rattle.bson_base.specs.Value.{document, Members, value_kind}
use Rattle.bson_order.specs.Order.{rank}
use Rattle.store_question.specs.Filters.{filter_of, path_of}
use Rattle.store_model.specs.Filter.{Selects, at}
use Rattle.bson_store.specs.Parts.{part}
use Rattle.bson_store.specs.Marks.{IsWide}
use Rattle.bson_store.specs.declared.indexed.front.Front.{Front}
use Rattle.bson_store.specs.declared.indexed.range.Range.{Range}

-- the document is wide on the path of a range, or the value there is of its rank, and not beyond its ends
abbrev pub LiesIn : Range → Members → Type 0
LiesIn r d = IsWide d (path_of r.path.items) ⊎ IsSomeAnd (at (document d) (path_of r.path.items)) (λ v. (rank (value_kind v) ≡ r.rank) × (r.low ≤ℤ part v) × (part v ≤ℤ r.high))

-- it lies in each of these
abbrev pub LiesInAll : List Range → Members → Type 0
LiesInAll rs d = AllByRecursion (λ (r : Range). LiesIn r d) rs

-- the filter selects the document, and it lies in each of the ranges
abbrev pub Passes : Front → Members → Type 0
Passes f d = Selects (filter_of f.filter.now) (document d) × LiesInAll f.ranges.now d
