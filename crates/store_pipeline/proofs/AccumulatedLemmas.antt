-- What is made of values that come back from their bytes comes back too: sums, averages, the best one, arrays.
use Rattle.std.proofs.Common.{◌≡◌, ◌<◌, ◌^◌, ◌+ℤ◌, ◌&&◌, ℕ, ℤ, pos, List, [], ◌∷◌, ◌++◌, length, Bool, true, false, not, cond, if◌then◌else◌, Option, Some, None, Result, Ok, Err, FitsSigned, from_bits, to_bits, refl, subst, arith}
use Rattle.std.specs.Prelude.{unwrap_or}
use Rattle.std.specs.List.{AllByRecursion, filter}
use Rattle.std.specs.Float.{Float, binary64}
use Rattle.std.specs.Float.Ieee.{add, div, of_int}
use Rattle.std.specs.Int.{w32, w64}
use Rattle.std.specs.Ordering.{is_lt}
use Rattle.std.proofs.lemmas.Bool.{and_parts}
use lib.Ieee.Bits.{to_bits-lt}
use lib.Ieee.Fits.{add-fits, div-fits}
use Rattle.bson_base.specs.Kinds.{IsCleanScalar, IsRangedScalar}
use Rattle.bson_base.specs.Value.{Scalar, Value, scalar, null, double, int32, int64, array, EachItem, ItemsHaveDistinctKeys}
use Rattle.std.specs.Prelude.{IsUtf8}
use Rattle.bson_model.specs.View.{items_of}
use Rattle.bson_order.specs.Order.{order}
use Rattle.store_pipeline.proofs.OnceLemmas.{all_more}
use Rattle.store_pipeline.specs.Order.{best, better, turned}
use Rattle.store_update.specs.Arrays.{has, with_each, with_one}
use Rattle.store_update.specs.Number.{computed, divided, fits_32, fits_64, is_number, number_as, onward}
use Rattle.store_update.specs.declared.error.UpdateError.{UpdateError}
use Rattle.store_update.specs.declared.error.UpdateError.TheVariants.{Overflow}
use Rattle.store_pipeline.specs.Faithful.{IsFaithful}
use Rattle.store_pipeline.specs.Groups.{accumulated, average_of, first_of, is_null, last_of, sum_from, sum_of}
use Rattle.store_pipeline.specs.Taken.{AllFaithful, IfAnyIsFaithful}
use Rattle.store_pipeline.specs.declared.stage.Accumulator.{Accumulator}
use Rattle.store_pipeline.specs.declared.stage.Accumulator.TheVariants as accumulator

pub scalar_faithful : (s : Scalar) → IsRangedScalar s → IsCleanScalar s → IsFaithful (scalar s)
scalar_faithful s ranged clean = record { sound = record { ranged = ranged; distinct = tt }; settled = clean }

pub null_faithful : IsFaithful (scalar null)
null_faithful = scalar_faithful null tt tt

pub or_null : (o : Option Value) → IfAnyIsFaithful o → IsFaithful (unwrap_or o (scalar null))
or_null None h = null_faithful
or_null (Some v) h = h

-- ---- numbers

fits_narrow : (z : ℤ) → fits_32 z ≡ true → FitsSigned w32 z
fits_narrow z e = grind (arith, e)

fits_wide : (z : ℤ) → fits_64 z ≡ true → FitsSigned w64 z
fits_wide z e = grind (arith, e)

number_faithful : (narrow : Bool) (z : ℤ) (v : Value) → number_as narrow z ≡ Ok v → IsFaithful v
number_faithful narrow z v e = by (narrow && fits_32 z) (fits_64 z) refl refl e
  where
    by : (a b : Bool) → (narrow && fits_32 z) ≡ a → fits_64 z ≡ b → (if a then Ok (scalar (int32 z)) else if b then Ok (scalar (int64 z)) else Err Overflow) ≡ Ok v → IsFaithful v
    by true b f g h = let same : scalar (int32 z) ≡ v = cc in subst IsFaithful same (scalar_faithful (int32 z) (fits_narrow z (and_parts narrow (fits_32 z) f).1) tt)
    by false true f g h = let same : scalar (int64 z) ≡ v = cc in subst IsFaithful same (scalar_faithful (int64 z) (fits_wide z g) tt)
    by false false f g h = absurd cc

pattern_faithful : (n : ℕ) (v : Value) → n < 2 ^ 64 → ◌≡◌ {A = Result Value UpdateError} (Ok (scalar (double n))) (Ok v) → IsFaithful v
pattern_faithful n v low e = let same : scalar (double n) ≡ v = cc in subst IsFaithful same (scalar_faithful (double n) low tt)

sum_pattern : (x y : Float) → to_bits binary64 (add binary64 x y) < 2 ^ 64
sum_pattern x y = to_bits-lt binary64 (add binary64 x y) (add-fits binary64 x y)

quotient_pattern : (x y : Float) → to_bits binary64 (div binary64 x y) < 2 ^ 64
quotient_pattern x y = to_bits-lt binary64 (div binary64 x y) (div-fits binary64 x y)

-- a sum with an integer of 32 bits, with one of 64, and with a double on the left
abbrev plus : Value → Value → Result Value UpdateError
plus v w = computed (λ x y. x +ℤ y) (add binary64) v w

with_int32 : (x : ℤ) (w s : Value) → plus (scalar (int32 x)) w ≡ Ok s → IsFaithful s
with_int32 x (scalar (int32 y)) s e = number_faithful true (x +ℤ y) s e
with_int32 x (scalar (int64 y)) s e = number_faithful false (x +ℤ y) s e
with_int32 x (scalar (double n)) s e = pattern_faithful _ s (sum_pattern (of_int binary64 x) (from_bits binary64 n)) e
with_int32 x w s e = absurd cc

with_int64 : (x : ℤ) (w s : Value) → plus (scalar (int64 x)) w ≡ Ok s → IsFaithful s
with_int64 x (scalar (int32 y)) s e = number_faithful false (x +ℤ y) s e
with_int64 x (scalar (int64 y)) s e = number_faithful false (x +ℤ y) s e
with_int64 x (scalar (double n)) s e = pattern_faithful _ s (sum_pattern (of_int binary64 x) (from_bits binary64 n)) e
with_int64 x w s e = absurd cc

with_double : (m : ℕ) (w s : Value) → plus (scalar (double m)) w ≡ Ok s → IsFaithful s
with_double m (scalar (int32 y)) s e = pattern_faithful _ s (sum_pattern (from_bits binary64 m) (of_int binary64 y)) e
with_double m (scalar (int64 y)) s e = pattern_faithful _ s (sum_pattern (from_bits binary64 m) (of_int binary64 y)) e
with_double m (scalar (double n)) s e = pattern_faithful _ s (sum_pattern (from_bits binary64 m) (from_bits binary64 n)) e
with_double m w s e = absurd cc

computed_faithful : (v w s : Value) → plus v w ≡ Ok s → IsFaithful s
computed_faithful (scalar (int32 x)) w s e = with_int32 x w s e
computed_faithful (scalar (int64 x)) w s e = with_int64 x w s e
computed_faithful (scalar (double m)) w s e = with_double m w s e
computed_faithful v w s e = absurd cc

sum_faithful : (v : Value) (ws : List Value) (s : Value) → IsFaithful v → sum_from v ws ≡ Ok s → IsFaithful s
sum_faithful v [] s h e = let same : v ≡ s = cc in subst IsFaithful same h
sum_faithful v (w ∷ ws) s h e = by (plus v w) refl e (λ t. sum_faithful t ws s)
  where
    by : (r : Result Value UpdateError) → plus v w ≡ r → onward r (λ t. sum_from t ws) ≡ Ok s → ((t : Value) → IsFaithful t → sum_from t ws ≡ Ok s → IsFaithful s) → IsFaithful s
    by (Ok t) i j rest = rest t (computed_faithful v w t i) j
    by (Err f) i j rest = absurd cc

divided_faithful : (n : ℕ) (t s : Value) → divided n t ≡ Ok s → IsFaithful s
divided_faithful n (scalar (int32 x)) s e = pattern_faithful _ s (quotient_pattern (of_int binary64 x) (of_int binary64 (pos n))) e
divided_faithful n (scalar (int64 x)) s e = pattern_faithful _ s (quotient_pattern (of_int binary64 x) (of_int binary64 (pos n))) e
divided_faithful n (scalar (double m)) s e = pattern_faithful _ s (quotient_pattern (from_bits binary64 m) (of_int binary64 (pos n))) e
divided_faithful n t s e = absurd cc

average_faithful : (vs : List Value) (s : Value) → average_of vs ≡ Ok s → IsFaithful s
average_faithful [] s e = let same : scalar null ≡ s = cc in subst IsFaithful same null_faithful
average_faithful (v ∷ vs) s e = by (sum_of (v ∷ vs)) e
  where
    by : (r : Result Value UpdateError) → onward r (divided (length (v ∷ vs))) ≡ Ok s → IsFaithful s
    by (Ok t) h = divided_faithful (length (v ∷ vs)) t s h
    by (Err f) h = absurd cc

-- ---- the best one

filter_all : (P : Value → Type 0) (test : Value → Bool) (vs : List Value) → AllByRecursion P vs → AllByRecursion P (filter test vs)
filter_all P test [] h = tt
filter_all P test (v ∷ vs) h = by (test v) (filter_all P test vs h.1)
  where
    by : (b : Bool) → AllByRecursion P (filter test vs) → AllByRecursion P (cond b (v ∷ filter test vs) (filter test vs))
    by true rest = (h.0, rest)
    by false rest = rest

better_faithful : (greatest : Bool) (o : Option Value) (w : Value) → IfAnyIsFaithful o → IsFaithful w → IsFaithful (better greatest o w)
better_faithful greatest None w h k = k
better_faithful greatest (Some v) w h k = by (is_lt (turned greatest (order w v)))
  where
    by : (b : Bool) → IsFaithful (if b then w else v)
    by true = k
    by false = h

best_faithful : (greatest : Bool) (o : Option Value) (vs : List Value) → IfAnyIsFaithful o → AllFaithful vs → IfAnyIsFaithful (best greatest o vs)
best_faithful greatest o [] h k = h
best_faithful greatest o (v ∷ vs) h k = best_faithful greatest (Some (better greatest o v)) vs (better_faithful greatest o v h k.0) k.1

-- ---- the first and the last one

first_faithful : (vs : List Value) → AllFaithful vs → IsFaithful (first_of vs)
first_faithful [] h = null_faithful
first_faithful (v ∷ vs) h = h.0

last_faithful : (vs : List Value) → AllFaithful vs → IsFaithful (last_of vs)
last_faithful [] h = null_faithful
last_faithful (v ∷ []) h = h.0
last_faithful (v ∷ w ∷ vs) h = last_faithful (w ∷ vs) h.1

-- ---- arrays

each_ranged : (vs : List Value) → AllFaithful vs → EachItem IsUtf8 IsRangedScalar (items_of vs)
each_ranged [] h = tt
each_ranged (v ∷ vs) h = (h.0.sound.ranged, each_ranged vs h.1)

each_distinct : (vs : List Value) → AllFaithful vs → ItemsHaveDistinctKeys (items_of vs)
each_distinct [] h = tt
each_distinct (v ∷ vs) h = (h.0.sound.distinct, each_distinct vs h.1)

each_settled : (vs : List Value) → AllFaithful vs → EachItem (λ k. Unit {0}) IsCleanScalar (items_of vs)
each_settled [] h = tt
each_settled (v ∷ vs) h = (h.0.settled, each_settled vs h.1)

pub array_faithful : (vs : List Value) → AllFaithful vs → IsFaithful (array (items_of vs))
array_faithful vs h = record { sound = record { ranged = each_ranged vs h; distinct = each_distinct vs h }; settled = each_settled vs h }

one_faithful : (w : Value) (vs : List Value) → IsFaithful w → AllFaithful vs → AllFaithful (with_one w vs)
one_faithful w vs h k = by (has vs w)
  where
    by : (b : Bool) → AllFaithful (if b then vs else vs ++ w ∷ [])
    by true = k
    by false = all_more IsFaithful vs w k h

included_faithful : (ws vs : List Value) → AllFaithful ws → AllFaithful vs → AllFaithful (with_each ws vs)
included_faithful [] vs h k = k
included_faithful (w ∷ ws) vs h k = included_faithful ws (with_one w vs) h.1 (one_faithful w vs h.0 k)

-- ---- all of them

same_faithful : (w v : Value) → ◌≡◌ {A = Result Value UpdateError} (Ok w) (Ok v) → IsFaithful w → IsFaithful v
same_faithful w v e h = let same : w ≡ v = cc in subst IsFaithful same h

pub accumulated_faithful : (a : Accumulator) (vs : List Value) (v : Value) → AllFaithful vs → accumulated a vs ≡ Ok v → IsFaithful v
accumulated_faithful accumulator.Sum vs v h e = sum_faithful (scalar (int32 (pos 0))) (filter is_number vs) v (scalar_faithful (int32 (pos 0)) (record { sfits = omega arith }) tt) e
accumulated_faithful accumulator.Average vs v h e = average_faithful (filter is_number vs) v e
accumulated_faithful accumulator.Least vs v h e = same_faithful _ v e (or_null _ (best_faithful false None _ tt (filter_all IsFaithful (λ w. not (is_null w)) vs h)))
accumulated_faithful accumulator.Greatest vs v h e = same_faithful _ v e (or_null _ (best_faithful true None _ tt (filter_all IsFaithful (λ w. not (is_null w)) vs h)))
accumulated_faithful accumulator.First vs v h e = same_faithful _ v e (first_faithful vs h)
accumulated_faithful accumulator.Last vs v h e = same_faithful _ v e (last_faithful vs h)
accumulated_faithful accumulator.Push vs v h e = same_faithful _ v e (array_faithful vs h)
accumulated_faithful accumulator.Include vs v h e = same_faithful _ v e (array_faithful (with_each vs []) (included_faithful vs [] h tt))
