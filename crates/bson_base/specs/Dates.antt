-- The date text of a moment (RFC 3339, section 5.6) as a function of its milliseconds. The year and the month are
-- counted up from January of the year 0, as long as the next one begins at the moment or before it.
use Rattle.std.specs.Prelude.{ℕ, zero, suc, ◌+◌, ◌/◌, ◌%◌, ℤ, pos, ◌*ℤ◌, ◌-ℤ◌, unsigned_abs, int_lt, if◌then◌else◌, List}
use Rattle.std.specs.Fmt.{signed_decimal}
use Rattle.jiff_core.specs.Calendar.{days_from_civil}
use Rattle.bson_base.specs.DateText.{has_date_text, moment_text}

-- the milliseconds at which a month begins
unfoldable pub month_start : ℕ → ℕ → ℤ
month_start y m = days_from_civil (pos y) m 1 *ℤ pos 86_400_000

-- the year that z lies in, from y on and at most n years later
abbrev pub year_from : ℕ → ℕ → ℤ → ℕ
year_from zero y z = y
year_from (suc n) y z = if int_lt z (month_start (y + 1) 1) then y else year_from n (y + 1) z

-- the month of the year y that z lies in, from m on and at most n months later
abbrev pub month_from : ℕ → ℕ → ℕ → ℤ → ℕ
month_from zero y m z = m
month_from (suc n) y m z = if int_lt z (month_start y (m + 1)) then m else month_from n y (m + 1) z

-- t milliseconds after a month began
abbrev pub text_within : ℕ → ℕ → ℕ → List ℕ
text_within y m t = moment_text y m (t / 86_400_000 + 1) (t % 86_400_000)

abbrev pub text_in_month : ℕ → ℕ → ℤ → List ℕ
text_in_month y m z = text_within y m (unsigned_abs (z -ℤ month_start y m))

abbrev pub text_in_year : ℕ → ℤ → List ℕ
text_in_year y z = text_in_month y (month_from 11 y 1 z) z

-- the text of a moment in the years 0 to 9999
unfoldable pub date_text : ℤ → List ℕ
date_text z = text_in_year (year_from 9999 0 z) z

-- what Display writes: the date text, or the milliseconds if there is none
abbrev pub shown_date : ℤ → List ℕ
shown_date z = if has_date_text z then date_text z else signed_decimal z
