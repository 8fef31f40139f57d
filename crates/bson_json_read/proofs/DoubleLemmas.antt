-- What a pattern of bits is as a double, and its texts.
use Rattle.std.proofs.Common.{◌≡◌, ℕ, zero, suc, ◌+◌, ◌/◌, ◌%◌, ◌^◌, ◌<◌, Bool, true, false, not, ◌&&◌, ◌==◌, eqb, leb, if◌then◌else◌, List, ◌++◌, codes, Some, None, T, is_nan, to_bits, refl, sym, ap, ◌∙◌, subst, arith, rules, true≢false}
use Rattle.std.specs.Fmt.{sign_text}
use Rattle.std.specs.Float.{binary64, float_is_finite, float_is_infinite}
use Rattle.fast_float.proofs.OnLiterals.{fast_float_on_literals}
use Rattle.fast_float.specs.Parse.{parse_float}
use lib.Ieee.{Float, nan, inf, fin, prec, low, hid, ones, top, odd, of_fields, of_bits, nan_bits}
use lib.Ieee.Bits.{nan_bits_is, to_bits-of_bits}
use Rattle.bson_base.specs.Doubles as doubles
use Rattle.bson_base.specs.Doubles.{exponent, fraction, is_negative, is_infinite}
use Rattle.bson_json_read.specs.DoubleText.{no_number, settled, begins_with_minus, has_digit, double_of, IsNumeralOf, word_or_numeral, text_by, IsDoubleText}

-- ---- fields

field_is : (n : ℕ) → n % 2 ^ 63 / 2 ^ 52 ≡ n / 2 ^ 52 % 2 ^ 11
field_is n = omega arith

pub no_number_is : (n : ℕ) → nan_bits binary64 n ≡ doubles.is_nan n
unfolding nan_bits
no_number_is n = ap (λ x. eqb x 2047 && not (eqb (n % 2 ^ 52) 0)) (field_is n)

pub is_number : (n : ℕ) → doubles.is_nan n ≡ false → is_nan (of_bits binary64 n) ≡ false
is_number n h = sym (nan_bits_is binary64 n) ∙ no_number_is n ∙ h

odd_finite : (d : ℕ) (s : Bool) (q k l : ℕ) → float_is_finite (odd d s q k l) ≡ true
unfolding odd float_is_finite
odd_finite d s zero k l = refl
odd_finite d s (suc q) k l = refl

fields_finite : (s : Bool) (x t : ℕ) → eqb x 2047 ≡ false → float_is_finite (of_fields binary64 s x t) ≡ true
unfolding of_fields
fields_finite s zero t h = odd_finite (prec binary64) s t 0 (low binary64)
fields_finite s (suc x) t h = rw h (odd_finite (prec binary64) s (hid binary64 + t) x (low binary64))

-- a pattern that is neither an infinity nor a NaN
field_below : (a b : Bool) → (a && b) ≡ false → (a && not b) ≡ false → a ≡ false
field_below true true h k = h
field_below true false h k = k
field_below false b h k = refl

pub finite : (n : ℕ) → is_infinite n ≡ false → doubles.is_nan n ≡ false → float_is_finite (of_bits binary64 n) ≡ true
unfolding of_bits
finite n h k = fields_finite (leb (2 ^ 63) n) (n % 2 ^ 63 / 2 ^ 52) (n % 2 ^ 52) (ap (λ x. eqb x 2047) (field_is n) ∙ field_below (exponent n == 2047) (fraction n == 0) h k)

fields_infinite : (s : Bool) (x t : ℕ) → eqb x 2047 ≡ true → eqb t 0 ≡ true → of_fields binary64 s x t ≡ inf s
unfolding of_fields
fields_infinite s zero t h k = absurd (true≢false (sym h))
fields_infinite s (suc x) t h k = rw (h, k) refl

-- ---- the texts are read again

read_number : (n : ℕ) (t : List ℕ) → n < 2 ^ 64 → doubles.is_nan n ≡ false → (float_is_infinite (of_bits binary64 n) && has_digit t) ≡ false → parse_float binary64 t ≡ Some (of_bits binary64 n) → double_of t ≡ Some n
unfolding double_of
read_number n t h k l p = rw (p, is_number n k, l) (ap Some (to_bits-of_bits binary64 n h (subst (λ b. T (not b)) (sym (is_number n k)) tt)))

word_read : (s : Bool) → parse_float binary64 (sign_text s ++ codes "NaN") ≡ Some nan
unfolding fast_float_on_literals
word_read true = search rules
word_read false = search rules

word_sign : (s : Bool) → begins_with_minus (sign_text s ++ codes "NaN") ≡ s
word_sign true = refl
word_sign false = refl

nan_read : (s : Bool) → double_of (sign_text s ++ codes "NaN") ≡ Some (no_number s)
unfolding double_of lib.Ieee.is_nan
nan_read s = rw (word_read s, word_sign s) refl

infinity_read : (s : Bool) → parse_float binary64 (sign_text s ++ codes "Infinity") ≡ Some (inf s)
unfolding fast_float_on_literals
infinity_read true = search rules
infinity_read false = search rules

and_both : (a b : Bool) → (a && b) ≡ true → (a ≡ true) × (b ≡ true)
and_both true b h = (refl, h)
and_both false b h = absurd (true≢false (sym h))

not_both : (a b : Bool) → (a && b) ≡ true → (a && not b) ≡ false
not_both true true h = refl
not_both true false h = absurd (true≢false (sym h))
not_both false b h = refl

to_infinity : (n : ℕ) → is_infinite n ≡ true → of_bits binary64 n ≡ inf (is_negative n)
unfolding of_bits
to_infinity n h =
    let k = and_both (exponent n == 2047) (fraction n == 0) h in
    fields_infinite (leb (2 ^ 63) n) (n % 2 ^ 63 / 2 ^ 52) (n % 2 ^ 52) (ap (λ x. eqb x 2047) (field_is n) ∙ k.0) k.1

no_digits : (b s : Bool) → (b && has_digit (sign_text s ++ codes "Infinity")) ≡ false
no_digits true true = refl
no_digits true false = refl
no_digits false s = refl

not_infinite : (x : Float) → float_is_finite x ≡ true → float_is_infinite x ≡ false
unfolding float_is_finite float_is_infinite
not_infinite nan h = refl
not_infinite (inf s) h = cc
not_infinite (fin s m e) h = refl

by_infinity : (b : Bool) (n : ℕ) (t : List ℕ) → n < 2 ^ 64 → doubles.is_nan n ≡ false → is_infinite n ≡ b → word_or_numeral b n t → double_of t ≡ Some n
by_infinity true n t h k e w = read_number n t h k (rw w (no_digits (float_is_infinite (of_bits binary64 n)) (is_negative n))) (ap (parse_float binary64) w ∙ infinity_read (is_negative n) ∙ ap Some (sym (to_infinity n e)))
by_infinity false n t h k e w = read_number n t h k (rw (not_infinite (of_bits binary64 n) (finite n e k)) refl) w.1

by_number : (b : Bool) (n : ℕ) (t : List ℕ) → n < 2 ^ 64 → doubles.is_nan n ≡ b → text_by b n t → double_of t ≡ Some (if b then no_number (is_negative n) else n)
by_number true n t h e w = ap double_of w ∙ nan_read (is_negative n)
by_number false n t h e w = by_infinity (is_infinite n) n t h e refl w

pub read_again : (n : ℕ) (t : List ℕ) → n < 2 ^ 64 → IsDoubleText n t → double_of t ≡ Some (settled n)
unfolding IsDoubleText
read_again n t h w = by_number (doubles.is_nan n) n t h refl w

-- ---- what is written

pub nan_written : (s : Bool) (n : ℕ) → doubles.is_nan n ≡ true → is_negative n ≡ s → IsDoubleText n (sign_text s ++ codes "NaN")
unfolding IsDoubleText
nan_written s n h e = rw (h, e) refl

pub infinity_written : (s : Bool) (n : ℕ) → is_infinite n ≡ true → is_negative n ≡ s → IsDoubleText n (sign_text s ++ codes "Infinity")
unfolding IsDoubleText
infinity_written s n h e = rw (not_both (exponent n == 2047) (fraction n == 0) h, h, e) refl

pub numeral_written : (n : ℕ) (t : List ℕ) → is_infinite n ≡ false → doubles.is_nan n ≡ false → IsNumeralOf n t → IsDoubleText n t
unfolding IsDoubleText
numeral_written n t h k w = rw (k, h) w

-- ---- what is read

pub no_text : (t : List ℕ) → parse_float binary64 t ≡ None → double_of t ≡ None
unfolding double_of
no_text t h = rw h refl

pub nan_text : (t : List ℕ) (x : Float) → parse_float binary64 t ≡ Some x → is_nan x ≡ true → double_of t ≡ Some (no_number (begins_with_minus t))
unfolding double_of
nan_text t x h k = rw (h, k) refl

pub large_text : (t : List ℕ) (x : Float) → parse_float binary64 t ≡ Some x → is_nan x ≡ false → (float_is_infinite x && has_digit t) ≡ true → double_of t ≡ None
unfolding double_of
large_text t x h k l = rw (h, k, l) refl

pub number_text : (t : List ℕ) (x : Float) → parse_float binary64 t ≡ Some x → is_nan x ≡ false → (float_is_infinite x && has_digit t) ≡ false → double_of t ≡ Some (to_bits binary64 x)
unfolding double_of
number_text t x h k l = rw (h, k, l) refl
