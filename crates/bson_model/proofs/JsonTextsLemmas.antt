-- Whole numbers: `parse` of std reads what `integer_of` does.
use Rattle.std.proofs.Common.{◌≡◌, ℕ, ◌+◌, ◌*◌, ◌/◌, ◌%◌, ◌<◌, ◌^◌, ◌==◌, nat_lt, Bool, true, false, if◌then◌else◌, List, [], ◌∷◌, length, slice_index_or, ℤ, pos, negsuc, Option, Some, None, Result, Ok, Err, FitsSigned, refl, sym, ap, ◌∙◌, arith}
use Rattle.std.specs.Int.{w32, w64}
use Rattle.std.specs.Char.{is_ascii_digit, digit_value}
use Rattle.std.specs.Str.Parse.{AllDigits, IsNumeral, digits_value_after, starts_with_minus, without_leading_sign, signed_digits_value}
use Rattle.hex.specs.Hex.{decode_pairs, decode_sized, hex_digit_value}
use Rattle.hex.specs.declared.error.FromHexError.{FromHexError}
use Rattle.hex.specs.declared.error.FromHexError.TheVariants.{OddLength, InvalidStringLength}
use Rattle.bson_base.specs.Decimal.{all_digits, value_after}
use Rattle.bson_model.specs.JsonTexts.{sign_and_rest, is_digits, with_sign, integer_of, fits_32, fits_64, only_where, int_of, long_of, byte_from, byte_of}
use Rattle.std.proofs.lemmas.Bool.{and_parts}

-- ---- digits

digit_below : (c : ℕ) → is_ascii_digit c ≡ true → digit_value c < 10
digit_below c h = grind arith

digit_is : (c : ℕ) → digit_value c < 10 → is_ascii_digit c ≡ true
digit_is c h = grind arith

pub all_below : (ds : List ℕ) → all_digits ds ≡ true → AllDigits 10 ds
all_below [] h = tt
all_below (c ∷ cs) h = let k = and_parts (is_ascii_digit c) (all_digits cs) h in (digit_below c k.0, all_below cs k.1)

pub all_are : (ds : List ℕ) → AllDigits 10 ds → all_digits ds ≡ true
all_are [] h = refl
all_are (c ∷ cs) h = rw (digit_is c h.0) (all_are cs h.1)

pub value_is : (n : ℕ) (ds : List ℕ) → value_after n ds ≡ digits_value_after 10 n ds
value_is n [] = refl
value_is n (c ∷ cs) = value_is (n * 10 + digit_value c) cs

numeral : (ds : List ℕ) → is_digits ds ≡ true → IsNumeral 10 ds
numeral ds h = let k = and_parts (nat_lt 0 (length ds)) (all_digits ds) h in (grind (arith, k.0), all_below ds k.1)

is_numeral : (ds : List ℕ) → IsNumeral 10 ds → is_digits ds ≡ true
is_numeral ds h = let k : nat_lt 0 (length ds) ≡ true = grind (arith, h.0) in rw k (all_are ds h.1)

-- ---- the sign

by_sign : (c : ℕ) (cs : List ℕ) (p m : Bool) → (c == 43) ≡ p → (c == 45) ≡ m → sign_and_rest (c ∷ cs) ≡ (starts_with_minus (c ∷ cs), without_leading_sign (c ∷ cs))
by_sign c cs true true e f = absurd (grind arith)
by_sign c cs true false e f = rw (e, f) refl
by_sign c cs false true e f = rw (e, f) refl
by_sign c cs false false e f = rw (e, f) refl

signed_is : (t : List ℕ) → sign_and_rest t ≡ (starts_with_minus t, without_leading_sign t)
signed_is [] = refl
signed_is (c ∷ cs) = by_sign c cs (c == 43) (c == 45) refl refl

number_is : (t : List ℕ) → with_sign (sign_and_rest t) ≡ signed_digits_value 10 t
number_is t = rw (signed_is t, value_is 0 (without_leading_sign t)) refl

integer_some : (t : List ℕ) → IsNumeral 10 (without_leading_sign t) → integer_of t ≡ Some (signed_digits_value 10 t)
integer_some t h =
    let digits : is_digits (sign_and_rest t).1 ≡ true = ap (λ s. is_digits s.1) (signed_is t) ∙ is_numeral (without_leading_sign t) h in
    rw digits (ap Some (number_is t))

-- ---- ranges

pub fits_32_so : (z : ℤ) → FitsSigned w32 z → fits_32 z ≡ true
fits_32_so (pos n) h = let k : n < 2 ^ 31 = h.sfits in grind arith
fits_32_so (negsuc n) h = let k : n < 2 ^ 31 = h.sfits in grind arith

pub so_fits_32 : (z : ℤ) → fits_32 z ≡ true → FitsSigned w32 z
so_fits_32 (pos n) h = record { sfits = grind arith }
so_fits_32 (negsuc n) h = record { sfits = grind arith }

pub fits_64_so : (z : ℤ) → FitsSigned w64 z → fits_64 z ≡ true
fits_64_so (pos n) h = let k : n < 2 ^ 63 = h.sfits in grind arith
fits_64_so (negsuc n) h = let k : n < 2 ^ 63 = h.sfits in grind arith

pub so_fits_64 : (z : ℤ) → fits_64 z ≡ true → FitsSigned w64 z
so_fits_64 (pos n) h = record { sfits = grind arith }
so_fits_64 (negsuc n) h = record { sfits = grind arith }

-- ---- what `parse` reads

module _ (F : ℤ → Type 0) (fits : ℤ → Bool) (so : (z : ℤ) → F z → fits z ≡ true) (back : (z : ℤ) → fits z ≡ true → F z) where
  read_some : (t : List ℕ) (z : ℤ) → (IsNumeral 10 (without_leading_sign t) × F (signed_digits_value 10 t)) × (z ≡ signed_digits_value 10 t) → only_where fits (integer_of t) ≡ Some z
  read_some t z h = rw (integer_some t h.0.0, so (signed_digits_value 10 t) h.0.1) (ap Some (sym h.1))

  out_of_range : (t : List ℕ) → (F (signed_digits_value 10 t) → ⊥) → only_where fits (Some (signed_digits_value 10 t)) ≡ None
  out_of_range t h = by (fits (signed_digits_value 10 t)) refl
    where
      by : (b : Bool) → fits (signed_digits_value 10 t) ≡ b → only_where fits (Some (signed_digits_value 10 t)) ≡ None
      by true e = absurd (h (back (signed_digits_value 10 t) e))
      by false e = rw e refl

  read_none : (t : List ℕ) → (IsNumeral 10 (without_leading_sign t) × F (signed_digits_value 10 t) → ⊥) → only_where fits (integer_of t) ≡ None
  read_none t h = by (is_digits (sign_and_rest t).1) refl
    where
      by : (b : Bool) → is_digits (sign_and_rest t).1 ≡ b → only_where fits (integer_of t) ≡ None
      by true e =
          let n = numeral (without_leading_sign t) (sym (ap (λ s. is_digits s.1) (signed_is t)) ∙ e) in
          ap (only_where fits) (integer_some t n) ∙ out_of_range t (λ f. h (n, f))
      by false e = rw e refl

pub int_some : (t : List ℕ) (z : ℤ) → (IsNumeral 10 (without_leading_sign t) × FitsSigned w32 (signed_digits_value 10 t)) × (z ≡ signed_digits_value 10 t) → Some z ≡ int_of t
unfolding int_of
int_some t z h = sym (read_some (FitsSigned w32) fits_32 fits_32_so so_fits_32 t z h)

pub int_none : (t : List ℕ) → (IsNumeral 10 (without_leading_sign t) × FitsSigned w32 (signed_digits_value 10 t) → ⊥) → None ≡ int_of t
unfolding int_of
int_none t h = sym (read_none (FitsSigned w32) fits_32 fits_32_so so_fits_32 t h)

pub long_some : (t : List ℕ) (z : ℤ) → (IsNumeral 10 (without_leading_sign t) × FitsSigned w64 (signed_digits_value 10 t)) × (z ≡ signed_digits_value 10 t) → Some z ≡ long_of t
unfolding long_of
long_some t z h = sym (read_some (FitsSigned w64) fits_64 fits_64_so so_fits_64 t z h)

pub long_none : (t : List ℕ) → (IsNumeral 10 (without_leading_sign t) × FitsSigned w64 (signed_digits_value 10 t) → ⊥) → None ≡ long_of t
unfolding long_of
long_none t h = sym (read_none (FitsSigned w64) fits_64 fits_64_so so_fits_64 t h)

-- ---- a byte

-- what is made of the kit's result
abbrev pub byte_told : Result (List ℕ) FromHexError → Option ℕ
byte_told (Ok bs) = Some (slice_index_or bs 0 0)
byte_told (Err e) = None

two_digits : (h l : ℕ) (o p : Option ℕ) → hex_digit_value h ≡ o → hex_digit_value l ≡ p → byte_told (decode_pairs 0 (h ∷ l ∷ [])) ≡ byte_from (hex_digit_value h) (hex_digit_value l)
unfolding decode_pairs
two_digits h l (Some x) (Some y) e f = rw (e, f) refl
two_digits h l (Some x) None e f = rw (e, f) refl
two_digits h l None p e f = rw e refl

pub byte_read : (t : List ℕ) → byte_told (decode_sized t 1) ≡ byte_of t
unfolding byte_of
byte_read [] = refl
byte_read (h ∷ []) = refl
byte_read (h ∷ l ∷ []) = two_digits h l (hex_digit_value h) (hex_digit_value l) refl refl
byte_read (h ∷ l ∷ c ∷ cs) = by (length (h ∷ l ∷ c ∷ cs) % 2 == 1) refl
  where
    by : (odd : Bool) → (length (h ∷ l ∷ c ∷ cs) % 2 == 1) ≡ odd
        → byte_told (if odd then Err OddLength else if length (h ∷ l ∷ c ∷ cs) / 2 == 1 then decode_pairs 0 (h ∷ l ∷ c ∷ cs) else Err InvalidStringLength) ≡ None
    by true e = refl
    by false e =
        let long : (length (h ∷ l ∷ c ∷ cs) / 2 == 1) ≡ false = grind (arith, e) in
        rw long refl
