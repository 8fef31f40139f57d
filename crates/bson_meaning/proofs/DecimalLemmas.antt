-- The normal form of a decimal: taken twice it is taken once, and has 16 bytes.
use Rattle.std.proofs.Common.{◌≡◌, ℕ, zero, suc, ◌*◌, ◌/◌, ◌^◌, ◌<◌, List, length, true, false, refl, ap, ◌∙◌, arith}
use Rattle.std.proofs.Math.Nat.{pow-suc}
use Rattle.bson_base.specs.Decimal.{number_of, low_bytes, sixteen_bytes, Decimal, not_a_number, infinity, finite, IsUnpacked, unpack, pack}
use Rattle.bson_base.specs.Kinds.{AreBytes}
use Rattle.bson_base.proofs.DecimalBitsLemmas.{unpack_is, unpack-pack}
use Rattle.bson_meaning.specs.Forms.{normal_decimal}

pub bytes_length : (k n : ℕ) → length (low_bytes k n) ≡ k
bytes_length zero n = refl
bytes_length (suc k) n = ap suc (bytes_length k (n / 256))

pub bytes_are : (k n : ℕ) → AreBytes (low_bytes k n)
bytes_are zero n = tt
bytes_are (suc k) n = (omega arith, bytes_are k (n / 256))

pub number_again : (k n : ℕ) → n < 256 ^ k → number_of (low_bytes k n) ≡ n
number_again zero n h = omega arith
number_again (suc k) n h =
    let p : 256 ^ suc k ≡ 256 ^ k * 256 = pow-suc 256 k in
    let q : number_of (low_bytes k (n / 256)) ≡ n / 256 = number_again k (n / 256) (omega arith) in
    omega arith

pub pack_low : (d : Decimal) → IsUnpacked d → pack d < 2 ^ 128
pack_low not_a_number h = omega arith
pack_low (infinity true) h = omega arith
pack_low (infinity false) h = omega arith
pack_low (finite true c e) h = omega (arith, h.0, h.1)
pack_low (finite false c e) h = omega (arith, h.0, h.1)

pub normal_decimal_length : (bs : List ℕ) → length (normal_decimal bs) ≡ 16
unfolding normal_decimal sixteen_bytes
normal_decimal_length bs = bytes_length 16 (pack (unpack (number_of bs)))

pub normal_decimal_bytes : (bs : List ℕ) → AreBytes (normal_decimal bs)
unfolding normal_decimal sixteen_bytes
normal_decimal_bytes bs = bytes_are 16 (pack (unpack (number_of bs)))

pub normal_decimal_twice : (bs : List ℕ) → normal_decimal (normal_decimal bs) ≡ normal_decimal bs
unfolding normal_decimal sixteen_bytes
normal_decimal_twice bs =
    let d = unpack (number_of bs) in
    let u : IsUnpacked d = unpack_is (number_of bs) in
    ap (λ n. low_bytes 16 (pack (unpack n))) (number_again 16 (pack d) (pack_low d u)) ∙ ap (λ x. low_bytes 16 (pack x)) (unpack-pack d u)
