-- Filters in front of questions.
use Rattle.std.specs.Prelude.{◌≡◌, ◌<◌, ◌^◌, ℕ, ℤ, if◌then◌else◌, List, [], ◌∷◌, Option, Some, None, MatchOption}
use Rattle.bson_base.specs.Value.{Value, double, int32, int64, null, scalar, string, symbol}
use Rattle.bson_model.specs.JsonTexts.{fits_32}
use Rattle.bson_order.specs.Line.{double_place, whole_place}
use Rattle.store_question.specs.Filters.{tests_of}
use Rattle.store_question.specs.Views.{ComesBack}
use Rattle.store_model.specs.Filter.{Filter, Path, Selects, any_of, at, equals, exists, no, no_filters}
use Rattle.store_question.specs.Asked.{Answers, Asked, Askeds, asked, lies, no_asked}
use Rattle.store_question.specs.declared.question.Comparison.TheVariants.{Equal}

-- each document that answers the question is selected
abbrev pub Passes : Asked → Filter → Type 0
Passes t f = (v : Value) → ComesBack v → Answers t (Some v) → Selects f v

-- each question with the filter at its place
abbrev pub Pairwise : (Asked → Filter → Type 0) → Askeds → List Filter → Type 0
Pairwise P no_asked [] = Unit {0}
Pairwise P (asked t ts) (f ∷ fs) = P t f × Pairwise P ts fs
Pairwise P ts fs = ⊥

-- so is each document in which what a filter's path leads to, or nothing, answers it
abbrev pub Meets : Path → Asked → Filter → Type 0
Meets p t f = (v : Value) → ComesBack v → Answers t (at v p) → Selects f v

-- so is each document in which that is equal to the value
abbrev pub Reaches : Path → Value → Filter → Type 0
Reaches p w f = Meets p (lies Equal w) f

-- ---- what an equality is served by

abbrev pub either : Filter → Filter → Filter
either f g = any_of (tests_of (f ∷ g ∷ []))

abbrev pub texts_at : Path → List ℕ → Filter
texts_at p t = either (equals p (scalar (string t))) (equals p (scalar (symbol t)))

abbrev pub nothing_at : Path → Filter
nothing_at p = either (equals p (scalar null)) (no (exists p))

-- in each kind of integers that has room for it
abbrev pub integers_at : Path → ℤ → Filter
integers_at p z = if fits_32 z then either (equals p (scalar (int32 z))) (equals p (scalar (int64 z))) else equals p (scalar (int64 z))

abbrev pub double_at : Path → Option ℕ → Filter
double_at p (Some n) = equals p (scalar (double n))
double_at p None = any_of no_filters

-- the pattern is a double's at the place of the whole number, or none is there
abbrev pub IsDoubleAt : ℤ → Option ℕ → Type 0
IsDoubleAt z o = MatchOption o ((n : ℕ) → double_place n ≡ whole_place z → ⊥) (λ n. (n < 2 ^ 64) × (double_place n ≡ whole_place z))
