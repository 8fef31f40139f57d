-- What is written as a text in Extended JSON reads back.
use Rattle.std.proofs.Common.{◌≡◌, ℕ, suc, ◌+◌, ◌*◌, ◌/◌, ◌%◌, ◌^◌, ◌<◌, ◌==◌, ℤ, pos, negsuc, nat_lt, Bool, true, false, List, [], ◌∷◌, length, Some, None, Ok, Err, if◌then◌else◌, refl, ap, ◌∙◌, arith}
use Rattle.std.specs.Prelude.{slice_index, codes, FitsSigned}
use Rattle.std.specs.Char.{is_ascii_digit}
use Rattle.std.specs.Fmt.{decimal, signed_decimal}
use Rattle.std.specs.Int.{w32, w64}
use Rattle.std.specs.List.{prefix_len}
use Rattle.base64.specs.GeneralPurpose.{encode_of, decode_of, IsConsistent}
use Rattle.base64.specs.Engines.{standard}
use Rattle.base64.proofs.EngineFacts.{decode_of-encode_of}
use Rattle.hex.specs.Hex.{encode_lower, encode_with, hex_digit_value, lower_digits}
use Rattle.hex.proofs.HexLemmas.{length-encode_with, IsDigits-lower_digits}
use Rattle.bson_base.specs.Decimal.{Decimal, not_a_number, infinity, finite, IsUnpacked, all_digits, pack, print, read}
use Rattle.bson_base.specs.Kinds.{AreBytes}
use Rattle.bson_base.specs.ObjectIdText.{object_id_of, even_text, first_other, digit_bytes}
use Rattle.bson_base.specs.declared.oid.Error.TheVariants.{InvalidHexStringLength}
use Rattle.bson_base.proofs.PrintedDecimalLemmas.{digits-decimal, printed_reads}
use Rattle.bson_model.specs.JsonTexts.{int_of, long_of, integer_of, sign_and_rest, fits_32, fits_64, only_where, double_of, byte_of}
use Rattle.bson_model.proofs.JsonTextsLemmas.{fits_64_so, fits_32_so}
use Rattle.bson_meaning.proofs.JsonBase64Lemmas.{each_byte}
use Rattle.std.proofs.lemmas.Bool.{and_parts}
use Rattle.bson_base.proofs.ObjectIdLemmas.{passes}

-- ---- two hexadecimal digits a byte

high_digit : (b : ℕ) → b < 256 → hex_digit_value (slice_index lower_digits (b / 16)) ≡ Some (b / 16)
high_digit b h = IsDigits-lower_digits (b / 16) (omega arith)

low_digit : (b : ℕ) → b < 256 → hex_digit_value (slice_index lower_digits (b % 16)) ≡ Some (b % 16)
low_digit b h = IsDigits-lower_digits (b % 16) (omega arith)

whole_byte : (b : ℕ) → b / 16 * 16 + b % 16 ≡ b
whole_byte b = omega arith

pub byte_back : (b : ℕ) → b < 256 → byte_of (encode_lower (b ∷ [])) ≡ Some b
unfolding byte_of encode_with
byte_back b h = let p = high_digit b h in let q = low_digit b h in rw (p, q) (ap Some (whole_byte b))

bytes_back : (bs : List ℕ) → AreBytes bs → digit_bytes (encode_lower bs) ≡ bs
unfolding encode_with
bytes_back [] h = refl
bytes_back (b ∷ bs) h =
    let p = high_digit b h.0 in let q = low_digit b h.0 in
    let i : digit_bytes (encode_lower bs) ≡ bs = bytes_back bs h.1 in
    let w = whole_byte b in
    rw (p, q, i, w) refl

-- as `position` asks whether a byte is a digit
no_other : (bs : List ℕ) → AreBytes bs → prefix_len passes (encode_lower bs) ≡ length (encode_lower bs)
unfolding encode_with
no_other [] h = refl
no_other (b ∷ bs) h =
    let p = high_digit b h.0 in let q = low_digit b h.0 in
    rw (p, q) (omega (arith, no_other bs h.1))

none_other : (bs : List ℕ) → AreBytes bs → first_other (encode_lower bs) ≡ None
none_other bs h =
    let n : nat_lt (length (encode_lower bs)) (length (encode_lower bs)) ≡ false = grind arith in
    let i = no_other bs h in
    rw (i, n) refl

pub id_back : (bs : List ℕ) → length bs ≡ 12 → AreBytes bs → object_id_of (encode_lower bs) ≡ Ok bs
id_back bs n h =
    let l : length (encode_lower bs) ≡ 24 = omega (arith, length-encode_with lower_digits bs) in
    let o = none_other bs h in
    let t = encode_lower bs in
    ap (λ n. if n % 2 == 1 then Err (InvalidHexStringLength n) else even_text t (first_other t)) l ∙ ap (even_text t) o
    ∙ ap (λ n. if n == 24 then Ok (digit_bytes t) else Err (InvalidHexStringLength n)) l ∙ ap Ok (bytes_back bs h)

-- ---- whole numbers

unsigned_back : (ds : List ℕ) → all_digits ds ≡ true → 0 < length ds → sign_and_rest ds ≡ (false, ds)
unsigned_back [] h k = absurd (omega arith)
unsigned_back (c ∷ cs) h k =
    let d : is_ascii_digit c ≡ true = (and_parts (is_ascii_digit c) (all_digits cs) h).0 in
    let plus : (c == 43) ≡ false = grind arith in
    let minus : (c == 45) ≡ false = grind arith in
    rw (plus, minus) refl

pub pos_back : (n : ℕ) → n < 10 ^ 64 → integer_of (decimal n) ≡ Some (pos n)
pos_back n h =
    let d = digits-decimal n h in
    let s = unsigned_back (decimal n) d.digits d.some in
    let a = d.digits in
    let l : nat_lt 0 (length (decimal n)) ≡ true = let k = d.some in grind arith in
    let v = d.stands in
    rw (s, l, a, v) refl

pub neg_back : (n : ℕ) → suc n < 10 ^ 64 → integer_of (signed_decimal (negsuc n)) ≡ Some (negsuc n)
neg_back n h =
    let d = digits-decimal (suc n) h in
    let a = d.digits in
    let l : nat_lt 0 (length (decimal (suc n))) ≡ true = let k = d.some in grind arith in
    let v = d.stands in
    rw (l, a, v) refl

integer_back : (z : ℤ) → FitsSigned w64 z → integer_of (signed_decimal z) ≡ Some z
integer_back (pos n) h = pos_back n (omega arith)
integer_back (negsuc n) h = neg_back n (omega arith)

pub wider : (z : ℤ) → FitsSigned w32 z → FitsSigned w64 z
wider (pos n) h = omega arith
wider (negsuc n) h = omega arith

kept : (p : ℤ → Bool) (z : ℤ) → p z ≡ true → only_where p (Some z) ≡ Some z
kept p z h = rw h refl

pub long_back : (z : ℤ) → FitsSigned w64 z → long_of (signed_decimal z) ≡ Some z
unfolding long_of
long_back z h = ap (only_where fits_64) (integer_back z h) ∙ kept fits_64 z (fits_64_so z h)

pub int_back : (z : ℤ) → FitsSigned w32 z → int_of (signed_decimal z) ≡ Some z
unfolding int_of
int_back z h = ap (only_where fits_32) (integer_back z (wider z h)) ∙ kept fits_32 z (fits_32_so z h)

-- ---- decimals, Base64, doubles

pub decimal_back : (d : Decimal) → IsUnpacked d → read (print d) ≡ Ok (pack d)
decimal_back not_a_number h = refl
decimal_back (infinity true) h = refl
decimal_back (infinity false) h = refl
decimal_back (finite s c e) h = printed_reads s c e h.0 (omega (arith, h.1))

consistent : IsConsistent standard
consistent = search

pub base64_back : (bs : List ℕ) → AreBytes bs → decode_of standard (encode_of standard bs) ≡ Ok bs
base64_back bs h = decode_of-encode_of standard bs consistent (each_byte bs h)

pub zero_back : double_of (codes "0.0") ≡ Ok 0
unfolding double_of
zero_back = refl

pub infinity_back : double_of (codes "Infinity") ≡ Ok 0x7FF0_0000_0000_0000
unfolding double_of
infinity_back = refl

pub negative_infinity_back : double_of (codes "-Infinity") ≡ Ok 0xFFF0_0000_0000_0000
unfolding double_of
negative_infinity_back = refl

pub nan_back : double_of (codes "NaN") ≡ Ok 0x7FF8_0000_0000_0000
unfolding double_of
nan_back = refl

pub negative_nan_back : double_of (codes "-NaN") ≡ Ok 0xFFF8_0000_0000_0000
unfolding double_of
negative_nan_back = refl
