-- Where on the line of values something lies.
use Rattle.std.specs.Prelude.{◌≡◌, ◌⊎◌, ◌≤ℤ◌, ℕ, ℤ, Option, IsSomeAnd}
use Rattle.bson_base.specs.Value.{Members, Value, document, value_kind}
use Rattle.bson_order.specs.Order.{rank}
use Rattle.bson_store.specs.Marks.{IsWide}
use Rattle.bson_store.specs.declared.indexed.range.Range.{Range}
use Rattle.store_model.specs.Filter.{Path, at}
use Rattle.store_question.specs.declared.question.Comparison.{Comparison}
use Rattle.store_question.specs.declared.question.Comparison.TheVariants as lies_so
use Rattle.store_asked.specs.declared.span.Span.{Span}
use Rattle.bson_store.specs.Parts.{part}

-- the ranks of numbers, texts and dates, whose values are told apart by their parts
abbrev pub HasParts : ℕ → Type 0
HasParts r = (r ≡ 3) ⊎ ((r ≡ 4) ⊎ (r ≡ 10))

-- how the part of a value lies to that of another one to which the value lies so
abbrev pub LiesBeside : Comparison → ℤ → ℤ → Type 0
LiesBeside lies_so.Less z p = z ≤ℤ p
LiesBeside lies_so.AtMost z p = z ≤ℤ p
LiesBeside lies_so.Equal z p = (z ≤ℤ p) × (p ≤ℤ z)
LiesBeside lies_so.AtLeast z p = p ≤ℤ z
LiesBeside lies_so.Greater z p = p ≤ℤ z

-- there is a value, and it lies in the span
abbrev pub InSpan : Span → Option Value → Type 0
InSpan s o = IsSomeAnd o (λ v. (rank (value_kind v) ≡ s.rank) × (s.low ≤ℤ part v) × (part v ≤ℤ s.high))

-- what a document has at a path lies in the span, or the way there meets an array or a decimal
abbrev pub LiesAt : Span → Path → Members → Type 0
LiesAt s p d = IsWide d p ⊎ InSpan s (at (document d) p)

abbrev pub span_of : Range → Span
span_of r = record { rank = r.rank; low = r.low; high = r.high }
