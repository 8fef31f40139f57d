-- What the texts of Extended JSON read as lies in the ranges of its kinds.
use Rattle.std.proofs.Common.{◌≡◌, ℕ, ◌+◌, ◌*◌, ◌/◌, ◌%◌, ◌^◌, ◌<◌, ◌==◌, ◌||◌, ℤ, Bool, true, false, if◌then◌else◌, List, [], ◌∷◌, length, Option, Some, None, Ok, Err, refl, sym, ap, ◌∙◌, subst, arith}
use Rattle.std.specs.Prelude.{codes, FitsSigned}
use Rattle.std.specs.Int.{w32, w64}
use Rattle.std.proofs.lemmas.Bool.{eqb-true}
use Rattle.hex.specs.Hex.{hex_digit_value}
use Rattle.bson_base.specs.Decimal.{sixteen_bytes, cut, is_e, is_named, all_zeros}
use Rattle.bson_base.specs.Kinds.{AreBytes}
use Rattle.bson_base.specs.ObjectIdText.{object_id_of, even_text, first_other, digit_bytes, digit_value}
use Rattle.bson_base.specs.declared.oid.Error.TheVariants.{InvalidHexStringLength}
use Rattle.bson_model.specs.JsonTexts.{int_of, long_of, integer_of, fits_32, fits_64, only_where, double_of, double_sign_bit, read_unsigned_double, read_numeral, is_numeral, sign_and_rest, without_dot, byte_of, byte_from}
use Rattle.bson_model.specs.declared.extjson.de.Error.TheVariants.{DeserializationError, FiniteDouble}
use Rattle.bson_model.proofs.JsonTextsLemmas.{so_fits_64, so_fits_32}
use Rattle.bson_meaning.proofs.DecimalLemmas.{bytes_length, bytes_are}

-- ---- hexadecimal digits

hex_low : (c v : ℕ) → hex_digit_value c ≡ Some v → v < 16
hex_low c v h = grind arith

digit_low : (c : ℕ) → digit_value c < 16
digit_low c = grind arith

pub byte_ranged : (t : List ℕ) (b : ℕ) → byte_of t ≡ Some b → b < 256
unfolding byte_of
byte_ranged (h ∷ l ∷ []) b e = by (hex_digit_value h) (hex_digit_value l) refl refl e
  where
    by : (o p : Option ℕ) → hex_digit_value h ≡ o → hex_digit_value l ≡ p → byte_from o p ≡ Some b → b < 256
    by (Some x) (Some y) q r f = let i : x * 16 + y ≡ b = cc in omega (arith, hex_low h x q, hex_low l y r)
    by (Some x) None q r f = cc
    by None p q r f = cc
byte_ranged [] b e = cc
byte_ranged (h ∷ []) b e = cc
byte_ranged (h ∷ l ∷ m ∷ t) b e = cc

digits_length : (t : List ℕ) → length (digit_bytes t) ≡ length t / 2
digits_length [] = refl
digits_length (h ∷ []) = refl
digits_length (h ∷ l ∷ t) = omega (arith, digits_length t)

digits_are_bytes : (t : List ℕ) → AreBytes (digit_bytes t)
digits_are_bytes [] = tt
digits_are_bytes (h ∷ []) = tt
digits_are_bytes (h ∷ l ∷ t) = (omega (arith, digit_low h, digit_low l), digits_are_bytes t)

pub id_ranged : (t bs : List ℕ) → object_id_of t ≡ Ok bs → (length bs ≡ 12) × AreBytes bs
id_ranged t bs e = by (length t % 2 == 1) e
  where
    last : (b : Bool) → (length t == 24) ≡ b → (if b then Ok (digit_bytes t) else Err (InvalidHexStringLength (length t))) ≡ Ok bs → (length bs ≡ 12) × AreBytes bs
    last true k f =
        let i : digit_bytes t ≡ bs = cc in
        let n : length (digit_bytes t) ≡ 12 = let m : length t ≡ 24 = eqb-true (length t) 24 k in omega (arith, digits_length t) in
        subst (λ xs. (length xs ≡ 12) × AreBytes xs) i (n, digits_are_bytes t)
    last false k f = cc

    even : (o : Option ℕ) → even_text t o ≡ Ok bs → (length bs ≡ 12) × AreBytes bs
    even (Some i) f = cc
    even None f = last (length t == 24) refl f

    by : (b : Bool) → (if b then Err (InvalidHexStringLength (length t)) else even_text t (first_other t)) ≡ Ok bs → (length bs ≡ 12) × AreBytes bs
    by true f = cc
    by false f = even (first_other t) f

-- ---- whole numbers

kept : (p : ℤ → Bool) (o : Option ℤ) (z : ℤ) → only_where p o ≡ Some z → p z ≡ true
kept p None z e = cc
kept p (Some y) z e = by (p y) refl e
  where
    by : (b : Bool) → p y ≡ b → (if b then Some y else None) ≡ Some z → p z ≡ true
    by true h f = let i : y ≡ z = cc in ap p (sym i) ∙ h
    by false h f = cc

pub long_ranged : (t : List ℕ) (z : ℤ) → long_of t ≡ Some z → FitsSigned w64 z
unfolding long_of
long_ranged t z e = so_fits_64 z (kept fits_64 (integer_of t) z e)

pub int_ranged : (t : List ℕ) (z : ℤ) → int_of t ≡ Some z → FitsSigned w32 z
unfolding int_of
int_ranged t z e = so_fits_32 z (kept fits_32 (integer_of t) z e)

-- ---- doubles

sign_low : (s : Bool) (n : ℕ) → n < 2 ^ 63 → double_sign_bit s + n < 2 ^ 64
sign_low true n h = omega arith
sign_low false n h = omega arith

numeral_low : (s : Bool) (p : List ℕ × Option (List ℕ)) (n : ℕ) → read_numeral s p ≡ Ok n → n < 2 ^ 64
numeral_low s (t, o) n e = by (is_numeral (t, o)) (all_zeros (without_dot t)) e
  where
    by : (b c : Bool) → (if b then (if c then Ok (double_sign_bit s) else Err FiniteDouble) else Err DeserializationError) ≡ Ok n → n < 2 ^ 64
    by true true f = let i : double_sign_bit s ≡ n = cc in let l = sign_low s 0 (omega arith) in omega arith
    by true false f = cc
    by false c f = cc

unsigned_low : (s : Bool) (t : List ℕ) (n : ℕ) → read_unsigned_double (s, t) ≡ Ok n → n < 2 ^ 64
unsigned_low s t n e = by (is_named t (codes "nan")) (is_named t (codes "inf") || is_named t (codes "infinity")) e
  where
    by : (b c : Bool) → (if b then Ok (double_sign_bit s + 0x7FF8_0000_0000_0000) else if c then Ok (double_sign_bit s + 0x7FF0_0000_0000_0000) else read_numeral s (cut is_e t)) ≡ Ok n → n < 2 ^ 64
    by true c f = let i : double_sign_bit s + 0x7FF8_0000_0000_0000 ≡ n = cc in let l = sign_low s 0x7FF8_0000_0000_0000 (omega arith) in omega arith
    by false true f = let i : double_sign_bit s + 0x7FF0_0000_0000_0000 ≡ n = cc in let l = sign_low s 0x7FF0_0000_0000_0000 (omega arith) in omega arith
    by false false f = numeral_low s (cut is_e t) n f

pub double_ranged : (t : List ℕ) (n : ℕ) → double_of t ≡ Ok n → n < 2 ^ 64
unfolding double_of
double_ranged t n e = by (sign_and_rest t) e
  where
    by : (p : Bool × List ℕ) → read_unsigned_double p ≡ Ok n → n < 2 ^ 64
    by (s, u) f = unsigned_low s u n f

-- ---- decimals

pub sixteen_ranged : (n : ℕ) → (length (sixteen_bytes n) ≡ 16) × AreBytes (sixteen_bytes n)
unfolding sixteen_bytes
sixteen_ranged n = (bytes_length 16 n, bytes_are 16 n)
