-- Digits in front of a date text's rest, and the years of day numbers.
use Rattle.std.proofs.Common.{◌≡◌, ◌≤◌, ℕ, ℤ, pos, neg_ℤ, ◌<ℤ◌, ◌≤ℤ◌, Bool, true, false, List, [], ◌∷◌, refl, arith}
use Rattle.std.proofs.lemmas.Int.{by_lt_z}
use Rattle.std.specs.Char.{is_ascii_digit}
use Rattle.jiff_core.specs.Calendar.{days_from_civil, day_count, IsCivilDate}
use Rattle.jiff_core.proofs.SignedLemmas.{signed_arith}
use Rattle.jiff_core.proofs.MarchLemmas.{day_count-early}
use Rattle.jiff_core.proofs.CalendarLemmas.{day_count-day_of_year, day_count-later_year, day_count-lt_year, days_from_civil-day_count}
use Rattle.bson_base.specs.DateText.{digit_run}
use Rattle.bson_base.specs.Decimal.{all_digits}

pub all_digits-digit_run : (t : List ℕ) → all_digits (digit_run t).0 ≡ true
all_digits-digit_run [] = refl
all_digits-digit_run (c ∷ cs) = by (is_ascii_digit c) refl (all_digits-digit_run cs) where
  by : (x : Bool) → is_ascii_digit c ≡ x → all_digits (digit_run cs).0 ≡ true → all_digits (digit_run (c ∷ cs)).0 ≡ true
  by true e more = rw (e, e) more
  by false e more = rw e refl

-- 0000-01-01
day_count-zero : day_count (pos 0) 1 1 ≡ 3_652_425
day_count-zero = day_count-early (pos 0) 9999 1 1 refl (omega arith) (omega arith) (omega arith)

-- from the year 0 on

pub from_zero : (y n : ℤ) (m d : ℕ) → IsCivilDate y m d → days_from_civil y m d ≡ n → pos 0 ≤ℤ y → neg_ℤ (pos 719_528) ≤ℤ n
from_zero y n m d civil is late =
    let start = day_count-day_of_year y m d civil.2.0 in
    let low : 3_652_425 ≤ day_count y m d = by_lt_z (pos 0) y
    (λ after. omega (arith, start, day_count-later_year (pos 0) y (omega (arith, signed_arith)) after, day_count-zero))
    (λ same. let e : y ≡ pos 0 = omega (arith, signed_arith) in let s = rw e at start in rw e (omega (arith, s, day_count-zero, civil.2.0))) in
    omega (arith, signed_arith, low, days_from_civil-day_count y m d)

pub before_zero : (y n : ℤ) (m d : ℕ) → IsCivilDate y m d → days_from_civil y m d ≡ n → y <ℤ pos 0 → n <ℤ neg_ℤ (pos 719_528)
before_zero y n m d civil is early =
    omega (arith, signed_arith, day_count-lt_year y m d (pos 0) 1 1 civil (omega arith) early, days_from_civil-day_count y m d, day_count-zero)
