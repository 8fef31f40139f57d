-- The text of a moment (RFC 3339, section 5.6), in the proleptic Gregorian calendar.
use Rattle.std.specs.Prelude.{◌≡◌, ℕ, ◌+◌, ◌*◌, ◌/◌, ◌%◌, ◌==◌, ◌&&◌, ◌||◌, ◌<◌, nat_lt, nat_le, Bool, if◌then◌else◌, ℤ, pos, neg_ℤ, unsigned_abs, ◌+ℤ◌, ◌-ℤ◌, ◌*ℤ◌, ◌≤ℤ◌, int_div, int_le, IsTrue, List, [], ◌∷◌, ◌++◌, Option, Some, None, Result, Ok, Err, IsOk}
use Rattle.std.specs.Char.{is_ascii_digit, digit_value}
use Rattle.std.specs.Fmt.{signed_decimal, HasWrittenStyled, IsFlush}
use Rattle.std.specs.declared.fmt.Formatter.{Formatter}
use Rattle.std.specs.declared.fmt.Error.{Error as FormatError}
use Rattle.jiff_core.specs.Calendar.{IsCivilDate, days_in_month, days_from_civil}
use Rattle.bson_base.specs.declared.datetime.Error.{Error}
use Rattle.bson_base.specs.declared.datetime.Error.TheVariants.{InvalidTimestamp}

-- ---- writing

abbrev pub two : ℕ → List ℕ
two n = (48 + n / 10) ∷ (48 + n % 10) ∷ []

abbrev pub four : ℕ → List ℕ
four n = two (n / 100) ++ two (n % 100)

-- a dot and one to three digits, the last of them not 0
abbrev pub fraction_text : ℕ → List ℕ
fraction_text n =
    if n == 0 then []
    else if n % 100 == 0 then 46 ∷ (48 + n / 100) ∷ []
    else if n % 10 == 0 then 46 ∷ two (n / 10)
    else 46 ∷ (48 + n / 100) ∷ two (n % 100)

-- the millisecond of the day
abbrev pub clock_text : ℕ → List ℕ
clock_text t = two (t / 3_600_000) ++ 58 ∷ [] ++ two (t / 60_000 % 60) ++ 58 ∷ [] ++ two (t / 1000 % 60) ++ fraction_text (t % 1000)

abbrev pub day_text : ℕ → ℕ → ℕ → List ℕ
day_text y m d = four y ++ 45 ∷ [] ++ two m ++ 45 ∷ [] ++ two d

abbrev pub moment_text : ℕ → ℕ → ℕ → ℕ → List ℕ
moment_text y m d t = day_text y m d ++ 84 ∷ [] ++ clock_text t ++ 90 ∷ []

-- the text of the day and the time of day, from the milliseconds since 1970
pub record IsDateText (millis : ℤ) (text : List ℕ) : Type 0 where
  pub year : ℕ
  pub month : ℕ
  pub day : ℕ
  pub clock : ℕ
  pub civil : IsCivilDate (pos year) month day
  pub within : clock < 86_400_000
  pub at : days_from_civil (pos year) month day *ℤ pos 86_400_000 +ℤ pos clock ≡ millis
  pub reads : text ≡ moment_text year month day clock

-- the number of a day from 0000-01-01 to 9999-12-31
abbrev pub IsTextDay : ℤ → Type 0
IsTextDay day = (neg_ℤ (pos 719_528) ≤ℤ day) × (day ≤ℤ pos 2_932_896)

-- 0000-01-01T00:00:00Z, the first moment that has a text
abbrev pub first_text : ℤ
first_text = neg_ℤ (pos 62_167_219_200_000)

-- 9999-12-31T23:59:59.999Z, the last one
abbrev pub last_text : ℤ
last_text = pos 253_402_300_799_999

-- from 0000-01-01T00:00:00Z to 9999-12-31T23:59:59.999Z
abbrev pub has_date_text : ℤ → Bool
has_date_text z = int_le first_text z && int_le z last_text

-- what Display writes: the date text, or the milliseconds if there is none
pub record IsShownDate (millis : ℤ) (text : List ℕ) : Type 0 where
  pub date : IsTrue (has_date_text millis) → IsDateText millis text
  pub number : ¬ IsTrue (has_date_text millis) → text ≡ signed_decimal millis

-- g is the formatter f after that text was written, whatever options f has
abbrev pub WritesDate : {W : Type 0} → (W → List ℕ → W → Type 0) → Formatter W → Result (Unit {0}) FormatError → ℤ → Formatter W → Type 0
WritesDate took f r millis g = IsFlush f → IsOk r → (text : List ℕ) × IsShownDate millis text × HasWrittenStyled took f text g

-- ---- the calendar

-- whether the calendar has the day, in a year from -9999 to 9999
abbrev pub is_day : ℤ → ℕ → ℕ → Bool
is_day y m d = nat_le (unsigned_abs y) 9999 && nat_le 1 m && nat_le m 12 && nat_le 1 d && nat_le d (days_in_month y m)

-- the day's number from 1970-01-01
unfoldable pub day_number : ℤ → ℕ → ℕ → Option ℤ
day_number y m d = if is_day y m d then Some (days_from_civil y m d) else None

-- ---- reading: a number and what follows it

infixl 10 ◌>>=◌
abbrev pub ◌>>=◌ : {A B : Type 0} → Option A → (A → Option B) → Option B
(Some x) >>= f = f x
None >>= f = None

abbrev pub digit : List ℕ → Option (ℕ × List ℕ)
digit [] = None
digit (c ∷ cs) = if is_ascii_digit c then Some (digit_value c, cs) else None

unfoldable pub two_digits : List ℕ → Option (ℕ × List ℕ)
two_digits t = digit t >>= λ a. digit a.1 >>= λ b. Some (a.0 * 10 + b.0, b.1)

unfoldable pub four_digits : List ℕ → Option (ℕ × List ℕ)
four_digits t = two_digits t >>= λ a. two_digits a.1 >>= λ b. Some (a.0 * 100 + b.0, b.1)

-- what follows one of two characters
unfoldable pub behind : ℕ → ℕ → List ℕ → Option (List ℕ)
behind a b [] = None
behind a b (c ∷ cs) = if c == a || c == b then Some cs else None

-- a character, two digits below a limit, and the rest
unfoldable pub next_two : ℕ → ℕ → List ℕ → Option (ℕ × List ℕ)
next_two mark limit t = behind mark mark t >>= λ u. two_digits u >>= λ n. if nat_lt n.0 limit then Some n else None

-- the number of the day
unfoldable pub read_day : List ℕ → Option (ℤ × List ℕ)
read_day t = four_digits t >>= λ y. next_two 45 100 y.1 >>= λ m. next_two 45 100 m.1 >>= λ d. day_number (pos y.0) m.0 d.0 >>= λ n. Some (n, d.1)

-- hours and minutes, as minutes
unfoldable pub read_minutes : List ℕ → Option (ℕ × List ℕ)
read_minutes t = two_digits t >>= λ h. next_two 58 60 h.1 >>= λ m. if nat_lt h.0 24 then Some (h.0 * 60 + m.0, m.1) else None

-- the second of the day
unfoldable pub read_clock : List ℕ → Option (ℕ × List ℕ)
read_clock t = behind 84 116 t >>= λ u. read_minutes u >>= λ m. next_two 58 60 m.1 >>= λ s. Some (m.0 * 60 + s.0, s.1)

-- the digits at the front, and what follows them
abbrev pub digit_run : List ℕ → List ℕ × List ℕ
digit_run [] = ([], [])
digit_run (c ∷ cs) = if is_ascii_digit c then (c ∷ (digit_run cs).0, (digit_run cs).1) else ([], c ∷ cs)

-- the first digit counts `worth`, and each one after it a tenth of the one before
abbrev pub digits_worth : ℕ → List ℕ → ℕ
digits_worth worth [] = 0
digits_worth worth (c ∷ cs) = digit_value c * worth + digits_worth (worth / 10) cs

abbrev pub some_digits : List ℕ × List ℕ → Option (ℕ × List ℕ)
some_digits ([], rest) = None
some_digits (c ∷ cs, rest) = Some (digits_worth 100_000_000 (c ∷ cs), rest)

abbrev pub nanoseconds : List ℕ → Option (List ℕ) → Option (ℕ × List ℕ)
nanoseconds t None = Some (0, t)
nanoseconds t (Some u) = some_digits (digit_run u)

-- nanoseconds, from the first nine digits
unfoldable pub read_fraction : List ℕ → Option (ℕ × List ℕ)
read_fraction t = nanoseconds t (behind 46 46 t)

abbrev pub at_end : ℤ → List ℕ → Option ℤ
at_end z [] = Some z
at_end z (c ∷ cs) = None

-- `+` or `-` and the minutes by which the text is ahead

abbrev pub read_ahead : List ℕ → Option ℤ
read_ahead t = read_minutes t >>= λ m. at_end (pos m.0) m.1

abbrev pub read_late : List ℕ → Option ℤ
read_late t = read_minutes t >>= λ m. at_end (neg_ℤ (pos m.0)) m.1

-- the minutes by which the text is ahead of UTC; nothing follows them
unfoldable pub read_offset : List ℕ → Option ℤ
read_offset [] = None
read_offset (c ∷ cs) =
    if c == 90 || c == 122 then at_end (pos 0) cs
    else if c == 43 then read_ahead cs
    else if c == 45 then read_late cs
    else None

-- seconds since 1970 in UTC, for a second of a day in a zone that is `offset` minutes ahead of UTC
abbrev pub utc_second : ℤ → ℕ → ℤ → ℤ
utc_second day second offset = day *ℤ pos 86_400 +ℤ pos second -ℤ offset *ℤ pos 60

-- nanoseconds since 1970 become milliseconds by truncation towards zero
abbrev pub millis_at : ℤ → ℕ → ℤ
millis_at seconds nanos = int_div (seconds *ℤ pos 1_000_000_000 +ℤ pos nanos) (pos 1_000_000)

unfoldable pub read_moment : List ℕ → Option ℤ
read_moment t = read_day t >>= λ d. read_clock d.1 >>= λ s. read_fraction s.1 >>= λ n. read_offset n.1 >>= λ o. Some (millis_at (utc_second d.0 s.0 o) n.0)

abbrev pub valid : Option ℤ → Result ℤ Error
valid (Some z) = Ok z
valid None = Err InvalidTimestamp

-- the milliseconds since 1970 that a date text means
abbrev pub date_of : List ℕ → Result ℤ Error
date_of t = valid (read_moment t)
