-- A moment has one date text, the one that is found by counting.
use Rattle.std.proofs.Common.{◌≡◌, ℕ, zero, suc, ◌+◌, ◌-◌, ◌*◌, ◌<◌, ◌≤◌, ℤ, pos, ◌+ℤ◌, ◌-ℤ◌, ◌*ℤ◌, ◌<ℤ◌, ◌≤ℤ◌, Bool, true, false, List, refl, sym, ap, ◌∙◌, true≢false, arith}
use Rattle.std.specs.Prelude.{int_lt, unsigned_abs, if◌then◌else◌}
use Rattle.std.specs.Fmt.{signed_decimal}
use Rattle.std.proofs.lemmas.Int.{by_lt_z}
use Rattle.jiff_core.specs.Calendar.{days_from_civil, day_count, IsCivilDate}
use Rattle.jiff_core.proofs.SignedLemmas.{signed_arith}
use Rattle.jiff_core.proofs.CalendarLemmas.{day_count-day, day_count-day_of_year, day_count-lt_month, day_count-lt_year, days_from_civil-day_count, days_in_month_bounds}
use Rattle.bson_base.specs.DateText.{IsDateText, IsShownDate, has_date_text, moment_text}
use Rattle.bson_base.specs.Dates.{month_start, year_from, month_from, text_within, text_in_month, text_in_year, date_text, shown_date}

-- the moment z lies in that month of that year
record LiesIn (y m : ℕ) (z : ℤ) : Type 0 where
  day : ℕ
  clock : ℕ
  civil : IsCivilDate (pos y) m day
  within : clock < 86_400_000
  at : days_from_civil (pos y) m day *ℤ pos 86_400_000 +ℤ pos clock ≡ z

away : (x : ℤ) (k : ℕ) → unsigned_abs ((x +ℤ pos k) -ℤ x) ≡ k
away x k = let e : (x +ℤ pos k) -ℤ x ≡ pos k = omega (arith, signed_arith) in ap unsigned_abs e

same_text : (y m a b c d : ℕ) → a ≡ c → b ≡ d → moment_text y m a b ≡ moment_text y m c d
same_text y m a b c d e f = ap (λ n. moment_text y m n b) e ∙ ap (moment_text y m c) f

module _ (y m : ℕ) (z : ℤ) (h : LiesIn y m z) where
  before : (a b : ℕ) → day_count (pos y) m h.day < day_count (pos a) b 1 → z <ℤ month_start a b
  unfolding month_start
  before a b lt =
      omega (arith, signed_arith, lt, h.within, h.at, days_from_civil-day_count (pos y) m h.day, days_from_civil-day_count (pos a) b 1)

  after : (a b : ℕ) → day_count (pos a) b 1 ≤ day_count (pos y) m h.day → month_start a b ≤ℤ z
  unfolding month_start
  after a b le =
      omega (arith, signed_arith, le, h.at, days_from_civil-day_count (pos y) m h.day, days_from_civil-day_count (pos a) b 1)

  before_year : (a : ℕ) → y < a → z <ℤ month_start a 1
  before_year a lt = before a 1 (day_count-lt_year (pos y) m h.day (pos a) 1 1 h.civil (omega arith) (omega (arith, signed_arith)))

  before_month : (b : ℕ) → m < b → z <ℤ month_start y b
  before_month b lt = before y b (day_count-lt_month (pos y) m h.day b 1 h.civil (omega arith) lt)

  after_year : (a : ℕ) → a ≤ y → month_start a 1 ≤ℤ z
  after_year a le = after a 1 (by_lt_z (pos a) (pos y) earlier same)
    where
      earlier : pos a <ℤ pos y → day_count (pos a) 1 1 ≤ day_count (pos y) m h.day
      earlier lt =
          let civil : IsCivilDate (pos a) 1 1 = ((omega (arith, signed_arith), omega (arith, signed_arith, h.civil.0.1)), (omega arith, omega arith), (omega arith, omega arith)) in
          omega (arith, day_count-lt_year (pos a) 1 1 (pos y) m h.day civil h.civil.2.0 lt)

      same : pos y ≤ℤ pos a → day_count (pos a) 1 1 ≤ day_count (pos y) m h.day
      same ge =
          let e : a ≡ y = omega (arith, signed_arith) in
          rw e (omega (arith, day_count-day_of_year (pos y) m h.day h.civil.2.0, h.civil.2.0))

  after_month : (b : ℕ) → 1 ≤ b → b ≤ m → month_start y b ≤ℤ z
  after_month b low le = after y b (by_lt_z (pos b) (pos m) earlier same)
    where
      earlier : pos b <ℤ pos m → day_count (pos y) b 1 ≤ day_count (pos y) m h.day
      earlier lt =
          let civil : IsCivilDate (pos y) b 1 = (h.civil.0, (low, omega (arith, signed_arith, h.civil.1.1)), (omega arith, omega (arith, days_in_month_bounds (pos y) b))) in
          omega (arith, day_count-lt_month (pos y) b 1 m h.day civil h.civil.2.0 (omega (arith, signed_arith)))

      same : pos m ≤ℤ pos b → day_count (pos y) b 1 ≤ day_count (pos y) m h.day
      same ge =
          let e : b ≡ m = omega (arith, signed_arith) in
          rw e (omega (arith, day_count-day (pos y) m h.day 1 h.civil.2.0 (omega arith), h.civil.2.0))

  the_year : (n a : ℕ) → a ≤ y → y ≤ a + n → year_from n a z ≡ y
  the_year zero a low high = omega arith
  the_year (suc n) a low high = by (int_lt z (month_start (a + 1) 1)) refl (λ l. the_year n (a + 1) l (omega arith))
    where
      by : (b : Bool) → int_lt z (month_start (a + 1) 1) ≡ b → (a + 1 ≤ y → year_from n (a + 1) z ≡ y) → if b then a else year_from n (a + 1) z ≡ y
      by true e more = by_lt_z (pos a) (pos y)
          (λ lt. absurd (let g = after_year (a + 1) (omega (arith, signed_arith)) in omega (arith, signed_arith)))
          (λ le. omega (arith, signed_arith))
      by false e more = by_lt_z (pos a) (pos y)
          (λ lt. more (omega (arith, signed_arith)))
          (λ le. absurd (let g = before_year (a + 1) (omega (arith, signed_arith)) in omega (arith, signed_arith)))

  the_month : (n b : ℕ) → 1 ≤ b → b ≤ m → m ≤ b + n → month_from n y b z ≡ m
  the_month zero b first low high = omega arith
  the_month (suc n) b first low high = by (int_lt z (month_start y (b + 1))) refl (λ l. the_month n (b + 1) (omega arith) l (omega arith))
    where
      by : (t : Bool) → int_lt z (month_start y (b + 1)) ≡ t → (b + 1 ≤ m → month_from n y (b + 1) z ≡ m) → if t then b else month_from n y (b + 1) z ≡ m
      by true e more = by_lt_z (pos b) (pos m)
          (λ lt. absurd (let g = after_month (b + 1) (omega arith) (omega (arith, signed_arith)) in omega (arith, signed_arith)))
          (λ le. omega (arith, signed_arith))
      by false e more = by_lt_z (pos b) (pos m)
          (λ lt. more (omega (arith, signed_arith)))
          (λ le. absurd (let g = before_month (b + 1) (omega (arith, signed_arith)) in omega (arith, signed_arith)))

  past : unsigned_abs (z -ℤ month_start y m) ≡ (h.day - 1) * 86_400_000 + h.clock
  unfolding month_start
  past =
      let e : z ≡ days_from_civil (pos y) m 1 *ℤ pos 86_400_000 +ℤ pos ((h.day - 1) * 86_400_000 + h.clock) =
      omega (arith, signed_arith, h.at, h.civil.2.0, day_count-day (pos y) m h.day 1 h.civil.2.0 (omega arith), days_from_civil-day_count (pos y) m h.day, days_from_civil-day_count (pos y) m 1) in
      ap (λ x. unsigned_abs (x -ℤ days_from_civil (pos y) m 1 *ℤ pos 86_400_000)) e ∙ away (days_from_civil (pos y) m 1 *ℤ pos 86_400_000) _

  the_text : date_text z ≡ moment_text y m h.day h.clock
  unfolding date_text
  the_text =
      ap (λ a. text_in_year a z) (the_year 9999 0 (omega arith) (omega (arith, signed_arith, h.civil.0.1)))
      ∙ ap (λ b. text_in_month y b z) (the_month 11 1 (omega arith) h.civil.1.0 (omega (arith, h.civil.1.1)))
      ∙ ap (text_within y m) past
      ∙ same_text y m _ _ _ _ (omega (arith, h.within, h.civil.2.0)) (omega (arith, h.within, h.civil.2.0))

pub date_text-is : (z : ℤ) (t : List ℕ) → IsDateText z t → t ≡ date_text z
date_text-is z t d =
    let h : LiesIn d.year d.month z = record { day = d.day; clock = d.clock; civil = d.civil; within = d.within; at = d.at } in
    d.reads ∙ sym (the_text d.year d.month z h)

pub shown_date-is : (z : ℤ) (t : List ℕ) → IsShownDate z t → t ≡ shown_date z
shown_date-is z t h = by (has_date_text z) refl
  where
    by : (b : Bool) → has_date_text z ≡ b → t ≡ if b then date_text z else signed_decimal z
    by true e = date_text-is z t (h.date e)
    by false e = h.number (λ t. absurd (true≢false (sym t ∙ e)))
