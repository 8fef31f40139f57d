-- What is not a number.
use Rattle.std.proofs.Common.{◌≡◌, ℕ, ◌<◌, ◌%◌, ◌^◌, true, false, T, is_nan, from_bits, to_bits, refl, sym, ap, ◌∙◌}
use Rattle.std.proofs.lemmas.Bool.{lt-ltb}
use Rattle.std.specs.Float.{Float, binary64, nan, inf, fin}
use Rattle.std.specs.Float.Ieee.{div}
use lib.Ieee.{of_bits, of_fields, odd}
use lib.Ieee.Bits.{nan_bits_above, nan_bits_is}

no_number : (x : Float) → is_nan x ≡ true → x ≡ nan
unfolding lib.Ieee.is_nan
no_number nan h = refl
no_number (inf s) h = absurd cc
no_number (fin s m e) h = absurd cc

pub nan_read : (n : ℕ) → 0x7FF0_0000_0000_0000 < n % 2 ^ 63 → from_bits binary64 n ≡ nan
nan_read n h = no_number (from_bits binary64 n) (sym (nan_bits_is binary64 n) ∙ nan_bits_above binary64 n ∙ lt-ltb 0x7FF0_0000_0000_0000 (n % 2 ^ 63) h)

pub zero_by_zero : div binary64 (from_bits binary64 0) (from_bits binary64 0) ≡ nan
unfolding of_bits of_fields odd div
zero_by_zero = refl

pub nan_written : (x : Float) → is_nan x ≡ true → 9221120237041090560 ≡ to_bits binary64 x
unfolding lib.Ieee.to_bits
nan_written x h = rw (no_number x h) refl
