-- A decimal's 128 bits: what was packed is unpacked again, and bytes are those of their number.
use Rattle.std.proofs.Common.{◌≡◌, ◌≢◌, ℕ, zero, suc, ◌/◌, ◌%◌, ◌^◌, ◌<◌, ◌==◌, ◌∷◌, Bool, true, false, if◌then◌else◌, refl, eq-eqb, ap, ◌∙◌, sym, arith}
use Rattle.std.specs.Int.{byte_at, bytes_low_first}
use Rattle.std.proofs.lemmas.Bool.{eqb-true}
use Rattle.std.proofs.Math.Nat.{pow-suc, div-div-eq-div-mul}
use Rattle.bson_base.specs.Decimal.{low_bytes, Decimal, not_a_number, infinity, finite, IsUnpacked, within_limit, is_negative_decimal, pack, unpack}

limited_low : (c : ℕ) → within_limit c < 10 ^ 34
limited_low c = grind arith

limited_same : (c : ℕ) → c < 10 ^ 34 → within_limit c ≡ c
limited_same c h = grind arith

eq_no : (m n : ℕ) → (m == n) ≡ false → m ≢ n
eq_no m n e h = let t : (m == n) ≡ true = eq-eqb m n h in let f : true ≡ false = sym t ∙ e in cc f

exponent_low : (n : ℕ) → n / 2 ^ 125 % 4 ≢ 3 → n / 2 ^ 113 % 2 ^ 14 < 12288
exponent_low n h = omega arith

large_low : (n : ℕ) → n / 2 ^ 123 % 16 ≢ 15 → n / 2 ^ 125 % 4 ≡ 3 → n / 2 ^ 111 % 2 ^ 14 < 12288
large_low n h k = omega arith

-- an unpacked decimal can be packed
pub unpack_is : (n : ℕ) → IsUnpacked (unpack n)
unfolding unpack
unpack_is n = by (n / 2 ^ 123 % 16 == 15) refl
  where
    finite_or : (b : Bool) → (n / 2 ^ 123 % 16 == 15) ≡ false → (n / 2 ^ 125 % 4 == 3) ≡ b
        → IsUnpacked (if b then finite (is_negative_decimal n) 0 (n / 2 ^ 111 % 2 ^ 14) else finite (is_negative_decimal n) (within_limit (n % 2 ^ 113)) (n / 2 ^ 113 % 2 ^ 14))
    finite_or true e f = (omega arith, large_low n (eq_no (n / 2 ^ 123 % 16) 15 e) (eqb-true (n / 2 ^ 125 % 4) 3 f))
    finite_or false e f = (limited_low (n % 2 ^ 113), exponent_low n (eq_no (n / 2 ^ 125 % 4) 3 f))

    special : (b : Bool) → IsUnpacked (if b then not_a_number else infinity (is_negative_decimal n))
    special true = tt
    special false = tt

    by : (b : Bool) → (n / 2 ^ 123 % 16 == 15) ≡ b → IsUnpacked (if b then (if n / 2 ^ 122 % 2 == 1 then not_a_number else infinity (is_negative_decimal n))
        else if n / 2 ^ 125 % 4 == 3 then finite (is_negative_decimal n) 0 (n / 2 ^ 111 % 2 ^ 14) else finite (is_negative_decimal n) (within_limit (n % 2 ^ 113)) (n / 2 ^ 113 % 2 ^ 14))
    by true e = special (n / 2 ^ 122 % 2 == 1)
    by false e = finite_or (n / 2 ^ 125 % 4 == 3) e refl

-- the tests of `unpack` at a packed finite
unpack-finite : (s : Bool) (n c e : ℕ) → (n / 2 ^ 123 % 16 == 15) ≡ false → (n / 2 ^ 125 % 4 == 3) ≡ false → is_negative_decimal n ≡ s → within_limit (n % 2 ^ 113) ≡ c → n / 2 ^ 113 % 2 ^ 14 ≡ e
    → unpack n ≡ finite s c e
unfolding unpack
unpack-finite s n c e special large sign coefficient exponent = rw (special, large, sign, coefficient, exponent) refl

pub unpack-pack : (d : Decimal) → IsUnpacked d → unpack (pack d) ≡ d
unfolding unpack
unpack-pack not_a_number h = refl
unpack-pack (infinity true) h = refl
unpack-pack (infinity false) h = refl
unpack-pack (finite true c e) h =
    let n = pack (finite true c e) in
    let low = h.0 in
    let small = h.1 in
    let coefficient : n % 2 ^ 113 ≡ c = omega arith in
    unpack-finite true n c e (grind arith) (grind arith) (grind arith) (ap within_limit coefficient ∙ limited_same c low) (omega arith)
unpack-pack (finite false c e) h =
    let n = pack (finite false c e) in
    let low = h.0 in
    let small = h.1 in
    let coefficient : n % 2 ^ 113 ≡ c = omega arith in
    unpack-finite false n c e (grind arith) (grind arith) (grind arith) (ap within_limit coefficient ∙ limited_same c low) (omega arith)

-- ---- bytes

byte_at-div : (i n : ℕ) → byte_at i n ≡ n / 256 ^ i % 256
byte_at-div zero n = omega arith
byte_at-div (suc i) n = refl

pub bytes_of-low_first : (k i m n : ℕ) → m ≡ n / 256 ^ i → low_bytes k m ≡ bytes_low_first i k n
bytes_of-low_first zero i m n h = refl
bytes_of-low_first (suc k) i m n h =
    let next : m / 256 ≡ n / 256 ^ suc i = ap (λ x. x / 256) h ∙ div-div-eq-div-mul n (256 ^ i) 256 ∙ ap (λ x. n / x) (sym (pow-suc 256 i)) in
    let first : m % 256 ≡ byte_at i n = ap (λ x. x % 256) h ∙ sym (byte_at-div i n) in
    ap (λ b. b ∷ low_bytes k (m / 256)) first ∙ ap (λ bs. byte_at i n ∷ bs) (bytes_of-low_first k (suc i) (m / 256) n next)
