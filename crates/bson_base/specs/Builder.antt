-- What a builder of moments was given, and what it builds.
use Rattle.std.specs.Prelude.{◌≡◌, ℕ, ◌+◌, ◌*◌, ◌&&◌, nat_lt, if◌then◌else◌, ℤ, pos, ◌+ℤ◌, ◌*ℤ◌, Option, Some, None, unwrap_or, Result}
use Rattle.bson_base.specs.DateText.{day_number, valid, ◌>>=◌}
use Rattle.bson_base.specs.declared.datetime.Error.{Error}
use Rattle.bson_base.specs.declared.datetime.builder.DateTimeBuilder.{DateTimeBuilder}
use Rattle.bson_base.specs.declared.datetime.builder.Year.{Year}
use Rattle.bson_base.specs.declared.datetime.builder.NoYear.{NoYear}
use Rattle.bson_base.specs.declared.datetime.builder.Month.{Month}
use Rattle.bson_base.specs.declared.datetime.builder.NoMonth.{NoMonth}
use Rattle.bson_base.specs.declared.datetime.builder.Day.{Day}
use Rattle.bson_base.specs.declared.datetime.builder.NoDay.{NoDay}

-- nothing was given
abbrev pub IsEmptyBuilder : DateTimeBuilder NoYear NoMonth NoDay → Type 0
IsEmptyBuilder b = (b.hour ≡ None) × (b.minute ≡ None) × (b.second ≡ None) × (b.millisecond ≡ None)

abbrev pub with_year : {M D : Type 0} → DateTimeBuilder NoYear M D → ℤ → DateTimeBuilder Year M D
with_year b y = record { year = record { 0 = y }; month = b.month; day = b.day; hour = b.hour; minute = b.minute; second = b.second; millisecond = b.millisecond }

abbrev pub with_month : {Y D : Type 0} → DateTimeBuilder Y NoMonth D → ℕ → DateTimeBuilder Y Month D
with_month b m = record { year = b.year; month = record { 0 = m }; day = b.day; hour = b.hour; minute = b.minute; second = b.second; millisecond = b.millisecond }

abbrev pub with_day : {Y M : Type 0} → DateTimeBuilder Y M NoDay → ℕ → DateTimeBuilder Y M Day
with_day b d = record { year = b.year; month = b.month; day = record { 0 = d }; hour = b.hour; minute = b.minute; second = b.second; millisecond = b.millisecond }

abbrev pub with_hour : {Y M D : Type 0} → DateTimeBuilder Y M D → ℕ → DateTimeBuilder Y M D
with_hour b n = record b { hour = Some n }

abbrev pub with_minute : {Y M D : Type 0} → DateTimeBuilder Y M D → ℕ → DateTimeBuilder Y M D
with_minute b n = record b { minute = Some n }

abbrev pub with_second : {Y M D : Type 0} → DateTimeBuilder Y M D → ℕ → DateTimeBuilder Y M D
with_second b n = record b { second = Some n }

abbrev pub with_millisecond : {Y M D : Type 0} → DateTimeBuilder Y M D → ℕ → DateTimeBuilder Y M D
with_millisecond b n = record b { millisecond = Some n }

-- a part that wasn't given is 0
abbrev pub told_or_zero : Option ℕ → ℕ
told_or_zero part = unwrap_or part 0

-- the millisecond of the day
unfoldable pub clock_of : ℕ → ℕ → ℕ → ℕ → Option ℕ
clock_of h m s ms =
    if nat_lt h 24 && nat_lt m 60 && nat_lt s 60 && nat_lt ms 1000 then Some (((h * 60 + m) * 60 + s) * 1000 + ms) else None

-- what is built: a day of the calendar from -9999 to 9999, and a time of day
abbrev pub built : DateTimeBuilder Year Month Day → Result ℤ Error
built b = valid (day_number b.year.0 b.month.0 b.day.0 >>= λ day.
    clock_of (told_or_zero b.hour) (told_or_zero b.minute) (told_or_zero b.second) (told_or_zero b.millisecond) >>= λ clock. Some (day *ℤ pos 86_400_000 +ℤ pos clock))
