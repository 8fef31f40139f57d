-- Which numerals have a point or an exponent.
use Rattle.std.proofs.Common.{◌≡◌, ◌<◌, ℕ, Bool, true, false, not, ◌||◌, ◌&&◌, ◌==◌, if◌then◌else◌, List, [], ◌∷◌, ◌++◌, length, ℤ, Some, None, refl, sym, ap, ◌∙◌, subst, arith}
use Rattle.std.specs.Char.{is_ascii_digit}
use Rattle.std.specs.Fmt.{sign_text}
use Rattle.std.proofs.lemmas.Bool.{and_parts}
use Rattle.fast_float.specs.Text.{Parts, exponent_text, text_of}
use Rattle.ryu.specs.Plain.{IsLaidOutNumber, IsPlain}
use Rattle.bson_base.specs.Decimal.{all_digits, is_dot, is_e}
use Rattle.bson_base.specs.Doubles as doubles
use Rattle.bson_model.specs.JsonTexts.{sign_and_rest, is_digits, integer_of, only_where, fits_64, long_of}
use Rattle.bson_json_read.specs.DoubleText.{IsDoubleText, IsNumeralOf, is_finite}
use Rattle.bson_json_read.specs.Reading.{is_whole}

-- ---- a double has one

marked_behind : (a b : List ℕ) → is_whole b ≡ false → is_whole (a ++ b) ≡ false
marked_behind [] b h = h
marked_behind (c ∷ cs) b h = by (is_dot c || is_e c) (marked_behind cs b h)
  where
    by : (m : Bool) → is_whole (cs ++ b) ≡ false → (not m && is_whole (cs ++ b)) ≡ false
    by true k = refl
    by false k = k

exponent_marks : (s : Bool) (ds : List ℕ) → 0 < length ds → is_whole (exponent_text s ds) ≡ false
exponent_marks s [] h = absurd (omega (arith, h))
exponent_marks s (d ∷ ds) h = refl

parts_marked : (p : Parts) → IsPlain p → is_whole (text_of p) ≡ false
parts_marked p h = marked_behind p.whole _ (by p.point refl)
  where
    by : (b : Bool) → p.point ≡ b → is_whole ((if b then 46 ∷ p.fraction else []) ++ exponent_text p.exponent_negative p.exponent) ≡ false
    by true e = refl
    by false e = exponent_marks p.exponent_negative p.exponent (h.marked e)

both_false : (a b : Bool) → not (a || b) ≡ true → (a ≡ false) × (b ≡ false)
both_false false false h = (refl, refl)
both_false true b h = cc
both_false false true h = cc

pub numeral_is_marked : (n : ℕ) (t : List ℕ) → is_finite n ≡ true → IsDoubleText n t → is_whole t ≡ false
unfolding IsDoubleText
numeral_is_marked n t h w =
    let f = both_false (doubles.is_infinite n) (doubles.is_nan n) h in
    let k : IsNumeralOf n t = rw (f.1, f.0) at w in
    let l : IsLaidOutNumber 16 4 t = k.0 in
    let p = l.3 in
    subst (λ u. is_whole u ≡ false) (sym (l.2 ∙ ap (λ u. sign_text l.0 ++ u) p.1)) (marked_behind (sign_text l.0) (text_of p.0) (parts_marked p.0 p.2))

-- ---- an integer has none

digit_unmarked : (c : ℕ) → is_ascii_digit c ≡ true → (is_dot c || is_e c) ≡ false
digit_unmarked c h = grind arith

digits_whole : (ds : List ℕ) → all_digits ds ≡ true → is_whole ds ≡ true
digits_whole [] h = refl
digits_whole (c ∷ cs) h =
    let k = and_parts (is_ascii_digit c) (all_digits cs) h in
    rw (digit_unmarked c k.0) (digits_whole cs k.1)

-- what `sign_and_rest` gives, by whether a plus or a minus is in front
abbrev split : Bool → Bool → ℕ → List ℕ → Bool × List ℕ
split p m c cs = if p then (false, cs) else if m then (true, cs) else (false, c ∷ cs)

behind_sign : (t : List ℕ) → is_whole (sign_and_rest t).1 ≡ true → is_whole t ≡ true
behind_sign [] h = refl
behind_sign (c ∷ cs) h = by (c == 43) (c == 45) refl refl h
  where
    by : (p m : Bool) → (c == 43) ≡ p → (c == 45) ≡ m → is_whole (split p m c cs).1 ≡ true → is_whole (c ∷ cs) ≡ true
    by true m e f k = let u : (is_dot c || is_e c) ≡ false = grind (arith, e) in rw u k
    by false true e f k = let u : (is_dot c || is_e c) ≡ false = grind (arith, f) in rw u k
    by false false e f k = k

pub long_is_whole : (t : List ℕ) (z : ℤ) → long_of t ≡ Some z → is_whole t ≡ true
unfolding long_of
long_is_whole t z h = by (is_digits (sign_and_rest t).1) refl
  where
    by : (b : Bool) → is_digits (sign_and_rest t).1 ≡ b → is_whole t ≡ true
    by true e = behind_sign t (digits_whole (sign_and_rest t).1 (and_parts _ (all_digits (sign_and_rest t).1) e).1)
    by false e = let none : only_where fits_64 (integer_of t) ≡ None = rw e refl in let both : None ≡ Some z = sym none ∙ h in absurd (cc both)
