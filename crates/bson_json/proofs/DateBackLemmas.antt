-- A moment from 1970 to 9999 is read back from its date text.
use Rattle.std.proofs.Common.{◌≡◌, ℕ, zero, suc, ◌+◌, ◌-◌, ◌*◌, ◌/◌, ◌%◌, ◌<◌, ◌≤◌, ◌==◌, nat_lt, ℤ, pos, negsuc, ◌+ℤ◌, ◌*ℤ◌, ◌≤ℤ◌, Bool, true, false, if◌then◌else◌, List, [], ◌∷◌, ◌++◌, Option, Some, None, refl, sym, ap, ◌∙◌, subst, arith}
use Rattle.std.specs.Prelude.{int_div, int_le}
use Rattle.std.specs.Char.{is_ascii_digit, digit_value}
use Rattle.std.proofs.lemmas.Bool.{and_parts}
use Rattle.std.proofs.lemmas.Bool.Decides.{nat_tests}
use Rattle.jiff_core.specs.Calendar.{days_from_civil, days_in_month, day_count, IsCivilDate}
use Rattle.jiff_core.proofs.CalendarLemmas.{day_count-day, day_count-end, day_count-epoch, day_count-last_of_year, day_count-next_month, day_count-next_year, days_from_civil-day_count}
use Rattle.jiff_core.proofs.SignedLemmas.{signed_arith}
use Rattle.bson_base.specs.DateText.{◌>>=◌, IsDateText, behind, day_number, digit, digit_run, digits_worth, four, four_digits, fraction_text, is_day, last_text, millis_at, moment_text, next_two, read_clock, read_day, read_fraction, read_minutes, read_moment, read_offset, some_digits, two, two_digits, utc_second}
use Rattle.bson_base.specs.Dates.{date_text}
use Rattle.bson_model.specs.JsonWrite.{is_relaxed_date}
use Rattle.bson_base.proofs.DateTextLemmas.{date_text-is}

-- ---- the day of a moment

-- the step that a number lies in
record LiesAt (f : ℕ → ℕ) (d a b : ℕ) : Type 0 where
  step : ℕ
  first : a ≤ step
  last : step < b
  low : f step ≤ d
  high : d < f (step + 1)

later : (f : ℕ → ℕ) (d a b : ℕ) → LiesAt f d (a + 1) b → LiesAt f d a b
later f d a b h = record { step = h.step; first = omega (arith, h.first); last = h.last; low = h.low; high = h.high }

lies : (f : ℕ → ℕ) (d k a : ℕ) → f a ≤ d → d < f (a + k) → LiesAt f d a (a + k)
lies f d zero a low high = absurd (let e : a + 0 ≡ a = omega arith in let g = rw e at high in omega (arith, low, g))
lies f d (suc k) a low high = by (nat_lt d (f (a + 1))) refl (lies f d k (a + 1))
  where
    by : (b : Bool) → nat_lt d (f (a + 1)) ≡ b → (f (a + 1) ≤ d → d < f (a + 1 + k) → LiesAt f d (a + 1) (a + 1 + k)) → LiesAt f d a (a + suc k)
    by true e more = record { step = a; first = omega arith; last = omega arith; low = low; high = grind (arith, nat_tests) }
    by false e more =
        let same : a + suc k ≡ a + 1 + k = omega arith in
        later f d a (a + suc k) (subst (LiesAt f d (a + 1)) (sym same) (more (grind (arith, nat_tests)) (subst (λ n. d < f n) same high)))

days_of : (n : ℕ) → n ≤ 253_402_300_799_999 → IsDateText (pos n) (date_text (pos n))
days_of n most =
    let d = 4_371_953 + n / 86_400_000 in
    let year = lies (λ y. day_count (pos y) 1 1) d 8030 1970 (omega (arith, day_count-epoch)) (omega (arith, day_count-end)) in
    let y = year.step in
    let next = day_count-next_year (pos y) (pos (y + 1)) (omega (arith, signed_arith)) (omega (arith, signed_arith)) in
    let last = day_count-last_of_year (pos y) in
    let tenth = day_count-day (pos y) 12 31 1 (omega arith) (omega arith) in
    let over = day_count-next_month (pos y) 12 (omega arith) in
    let month = lies (λ m. day_count (pos y) m 1) d 12 1 year.low (omega (arith, year.high, next, last, tenth, over)) in
    let m = month.step in
    let after = day_count-next_month (pos y) m month.first in
    let day = d - day_count (pos y) m 1 + 1 in
    let same = day_count-day (pos y) m day 1 (omega arith) (omega arith) in
    let number = days_from_civil-day_count (pos y) m day in
    let t = n % 86_400_000 in
    let made : IsDateText (pos n) (moment_text y m day t) = record {
      year = y;
      month = m;
      day = day;
      clock = t;
      civil = ((omega (arith, signed_arith), omega (arith, signed_arith, year.last)), (month.first, omega (arith, month.last)), (omega arith, omega (arith, month.low, month.high, after)));
      within = omega arith;
      at = omega (arith, signed_arith, number, same, month.low);
      reads = refl;
    } in
    subst (IsDateText (pos n)) (date_text-is (pos n) (moment_text y m day t) made) made

-- ---- digits

digit_back : (k : ℕ) (cs : List ℕ) → k ≤ 9 → digit ((48 + k) ∷ cs) ≡ Some (k, cs)
digit_back k cs h = let a : is_ascii_digit (48 + k) ≡ true = grind (arith, nat_tests) in let b : digit_value (48 + k) ≡ k = grind arith in rw (a, b) refl

two_back : (n : ℕ) (cs : List ℕ) → n < 100 → two_digits (two n ++ cs) ≡ Some (n, cs)
unfolding two_digits
two_back n cs h =
    ap (λ (o : Option (ℕ × List ℕ)). o >>= λ a. digit a.1 >>= λ b. Some (a.0 * 10 + b.0, b.1)) (digit_back (n / 10) ((48 + n % 10) ∷ cs) (omega arith))
    ∙ ap (λ (o : Option (ℕ × List ℕ)). o >>= λ b. Some (n / 10 * 10 + b.0, b.1)) (digit_back (n % 10) cs (omega arith))
    ∙ ap (λ k. Some (k, cs)) (omega arith)

four_back : (n : ℕ) (cs : List ℕ) → n < 10_000 → four_digits (four n ++ cs) ≡ Some (n, cs)
unfolding four_digits
four_back n cs h =
    ap (λ (o : Option (ℕ × List ℕ)). o >>= λ a. two_digits a.1 >>= λ b. Some (a.0 * 100 + b.0, b.1)) (two_back (n / 100) (two (n % 100) ++ cs) (omega arith))
    ∙ ap (λ (o : Option (ℕ × List ℕ)). o >>= λ b. Some (n / 100 * 100 + b.0, b.1)) (two_back (n % 100) cs (omega arith))
    ∙ ap (λ k. Some (k, cs)) (omega arith)

next_back : (mark limit n : ℕ) (cs : List ℕ) → ((us : List ℕ) → behind mark mark (mark ∷ us) ≡ Some us) → n < limit → n < 100 → next_two mark limit (mark ∷ (two n ++ cs)) ≡ Some (n, cs)
unfolding next_two
next_back mark limit n cs mine low h =
    ap (λ (o : Option (List ℕ)). o >>= λ u. two_digits u >>= λ k. if nat_lt k.0 limit then Some k else None) (mine (two n ++ cs))
    ∙ ap (λ (o : Option (ℕ × List ℕ)). o >>= λ k. if nat_lt k.0 limit then Some k else None) (two_back n cs h)
    ∙ (let e : nat_lt n limit ≡ true = grind (arith, nat_tests) in rw e refl)

-- ---- the day

dash : (us : List ℕ) → behind 45 45 (45 ∷ us) ≡ Some us
unfolding behind
dash us = refl

colon : (us : List ℕ) → behind 58 58 (58 ∷ us) ≡ Some us
unfolding behind
colon us = refl

number_back : (y m d : ℕ) → IsCivilDate (pos y) m d → day_number (pos y) m d ≡ Some (days_from_civil (pos y) m d)
unfolding day_number
number_back y m d h =
    let a : y ≤ 9999 = omega (arith, signed_arith, h.0.1) in
    let f = h.1.0 in
    let g = h.1.1 in
    let i = h.2.0 in
    let j = h.2.1 in
    let e : is_day (pos y) m d ≡ true = grind (arith, nat_tests) in
    rw e refl

day_back : (y m d : ℕ) (cs : List ℕ) → IsCivilDate (pos y) m d → read_day (four y ++ (45 ∷ (two m ++ (45 ∷ (two d ++ cs))))) ≡ Some (days_from_civil (pos y) m d, cs)
unfolding read_day
day_back y m d cs h =
    let low : y < 10_000 = omega (arith, signed_arith, h.0.1) in
    let short : d < 100 = (let b = days_bound (pos y) m in omega (arith, h.2.1, b)) in
    ap (λ (o : Option (ℕ × List ℕ)). o >>= λ a. next_two 45 100 a.1 >>= λ b. next_two 45 100 b.1 >>= λ c. day_number (pos a.0) b.0 c.0 >>= λ n. Some (n, c.1)) (four_back y (45 ∷ (two m ++ (45 ∷ (two d ++ cs)))) low)
    ∙ ap (λ (o : Option (ℕ × List ℕ)). o >>= λ b. next_two 45 100 b.1 >>= λ c. day_number (pos y) b.0 c.0 >>= λ n. Some (n, c.1)) (next_back 45 100 m (45 ∷ (two d ++ cs)) dash (omega (arith, h.1.1)) (omega (arith, h.1.1)))
    ∙ ap (λ (o : Option (ℕ × List ℕ)). o >>= λ c. day_number (pos y) m c.0 >>= λ n. Some (n, c.1)) (next_back 45 100 d cs dash short short)
    ∙ ap (λ (o : Option ℤ). o >>= λ n. Some (n, cs)) (number_back y m d h)
  where
    days_bound : (x : ℤ) (k : ℕ) → days_in_month x k ≤ 31
    days_bound x k = grind arith

-- ---- the time of day

minutes_back : (h m : ℕ) (cs : List ℕ) → h < 24 → m < 60 → read_minutes (two h ++ (58 ∷ (two m ++ cs))) ≡ Some (h * 60 + m, cs)
unfolding read_minutes
minutes_back h m cs a b =
    ap (λ (o : Option (ℕ × List ℕ)). o >>= λ x. next_two 58 60 x.1 >>= λ y. if nat_lt x.0 24 then Some (x.0 * 60 + y.0, y.1) else None) (two_back h (58 ∷ (two m ++ cs)) (omega (arith, a)))
    ∙ ap (λ (o : Option (ℕ × List ℕ)). o >>= λ y. if nat_lt h 24 then Some (h * 60 + y.0, y.1) else None) (next_back 58 60 m cs colon b (omega (arith, b)))
    ∙ (let e : nat_lt h 24 ≡ true = grind (arith, nat_tests) in rw e refl)

clock_back : (h m s : ℕ) (cs : List ℕ) → h < 24 → m < 60 → s < 60 → read_clock (84 ∷ (two h ++ (58 ∷ (two m ++ (58 ∷ (two s ++ cs)))))) ≡ Some ((h * 60 + m) * 60 + s, cs)
unfolding read_clock behind
clock_back h m s cs a b c =
    ap (λ (o : Option (ℕ × List ℕ)). o >>= λ x. next_two 58 60 x.1 >>= λ y. Some (x.0 * 60 + y.0, y.1)) (minutes_back h m (58 ∷ (two s ++ cs)) a b)
    ∙ ap (λ (o : Option (ℕ × List ℕ)). o >>= λ y. Some ((h * 60 + m) * 60 + y.0, y.1)) (next_back 58 60 s cs colon c (omega (arith, c)))

-- ---- the fraction

is_digit : (k : ℕ) → k ≤ 9 → is_ascii_digit (48 + k) ≡ true
is_digit k h = grind (arith, nat_tests)

run_more : (k : ℕ) (cs ds rest : List ℕ) → k ≤ 9 → digit_run cs ≡ (ds, rest) → digit_run ((48 + k) ∷ cs) ≡ ((48 + k) ∷ ds, rest)
run_more k cs ds rest h e =
    ap (λ (b : Bool). if b then ((48 + k) ∷ (digit_run cs).0, (digit_run cs).1) else ([], (48 + k) ∷ cs)) (is_digit k h)
    ∙ ap (λ (p : List ℕ × List ℕ). ((48 + k) ∷ p.0, p.1)) e

worth : (k w : ℕ) (ds : List ℕ) → k ≤ 9 → digits_worth w ((48 + k) ∷ ds) ≡ k * w + digits_worth (w / 10) ds
worth k w ds low = let b : digit_value (48 + k) ≡ k = grind arith in ap (λ v. v * w + digits_worth (w / 10) ds) b

one_digit : (a : ℕ) → a ≤ 9 → read_fraction (46 ∷ (48 + a) ∷ 90 ∷ []) ≡ Some (a * 100_000_000, 90 ∷ [])
unfolding read_fraction behind
one_digit a h =
    ap some_digits (run_more a (90 ∷ []) [] (90 ∷ []) h refl)
    ∙ ap (λ n. Some (n, 90 ∷ [])) (worth a 100_000_000 [] h ∙ omega arith)

two_fraction : (a b : ℕ) → a ≤ 9 → b ≤ 9 → read_fraction (46 ∷ (48 + a) ∷ (48 + b) ∷ 90 ∷ []) ≡ Some (a * 100_000_000 + b * 10_000_000, 90 ∷ [])
unfolding read_fraction behind
two_fraction a b h i =
    ap some_digits (run_more a ((48 + b) ∷ 90 ∷ []) ((48 + b) ∷ []) (90 ∷ []) h (run_more b (90 ∷ []) [] (90 ∷ []) i refl))
    ∙ ap (λ n. Some (n, 90 ∷ [])) (worth a 100_000_000 ((48 + b) ∷ []) h ∙ ap (λ n. a * 100_000_000 + n) (worth b 10_000_000 [] i) ∙ omega arith)

three_fraction : (a b c : ℕ) → a ≤ 9 → b ≤ 9 → c ≤ 9 → read_fraction (46 ∷ (48 + a) ∷ (48 + b) ∷ (48 + c) ∷ 90 ∷ []) ≡ Some (a * 100_000_000 + (b * 10_000_000 + c * 1_000_000), 90 ∷ [])
unfolding read_fraction behind
three_fraction a b c h i j =
    ap some_digits (run_more a ((48 + b) ∷ (48 + c) ∷ 90 ∷ []) ((48 + b) ∷ (48 + c) ∷ []) (90 ∷ []) h (run_more b ((48 + c) ∷ 90 ∷ []) ((48 + c) ∷ []) (90 ∷ []) i (run_more c (90 ∷ []) [] (90 ∷ []) j refl)))
    ∙ ap (λ n. Some (n, 90 ∷ [])) (worth a 100_000_000 ((48 + b) ∷ (48 + c) ∷ []) h ∙ ap (λ n. a * 100_000_000 + n) (worth b 10_000_000 ((48 + c) ∷ []) i ∙ ap (λ n. b * 10_000_000 + n) (worth c 1_000_000 [] j)) ∙ omega arith)

none_back : read_fraction (90 ∷ []) ≡ Some (0, 90 ∷ [])
unfolding read_fraction behind
none_back = refl

zulu : (z : ℤ) (w : ℕ) → (read_offset (90 ∷ []) >>= λ o. Some (millis_at (utc_second z w o) w)) ≡ Some (millis_at (utc_second z w (pos 0)) w)
unfolding read_offset
zulu z w = refl

fraction_back : (n : ℕ) → n < 1000 → read_fraction (fraction_text n ++ 90 ∷ []) ≡ Some (n * 1_000_000, 90 ∷ [])
fraction_back n h = by (n == 0) refl
  where
    whole : (k : ℕ) → k ≡ n * 1_000_000 → ◌≡◌ {A = Option (ℕ × List ℕ)} (Some (k, 90 ∷ [])) (Some (n * 1_000_000, 90 ∷ []))
    whole k e = ap (λ i. Some (i, 90 ∷ [])) e

    third : (b : Bool) → n % 10 == 0 ≡ b → read_fraction ((if b then 46 ∷ two (n / 10) else 46 ∷ (48 + n / 100) ∷ two (n % 100)) ++ 90 ∷ []) ≡ Some (n * 1_000_000, 90 ∷ [])
    third true e = two_fraction (n / 10 / 10) (n / 10 % 10) (omega arith) (omega arith) ∙ whole _ (let z : n % 10 ≡ 0 = grind (arith, nat_tests) in omega arith)
    third false e = three_fraction (n / 100) (n % 100 / 10) (n % 100 % 10) (omega arith) (omega arith) (omega arith) ∙ whole _ (omega arith)

    second : (b : Bool) → n % 100 == 0 ≡ b → read_fraction ((if b then 46 ∷ (48 + n / 100) ∷ [] else if n % 10 == 0 then 46 ∷ two (n / 10) else 46 ∷ (48 + n / 100) ∷ two (n % 100)) ++ 90 ∷ []) ≡ Some (n * 1_000_000, 90 ∷ [])
    second true e = one_digit (n / 100) (omega arith) ∙ whole _ (let z : n % 100 ≡ 0 = grind (arith, nat_tests) in omega arith)
    second false e = third (n % 10 == 0) refl

    by : (b : Bool) → n == 0 ≡ b → read_fraction ((if b then [] else if n % 100 == 0 then 46 ∷ (48 + n / 100) ∷ [] else if n % 10 == 0 then 46 ∷ two (n / 10) else 46 ∷ (48 + n / 100) ∷ two (n % 100)) ++ 90 ∷ []) ≡ Some (n * 1_000_000, 90 ∷ [])
    by true e = none_back ∙ whole 0 (let z : n ≡ 0 = grind (arith, nat_tests) in omega arith)
    by false e = second (n % 100 == 0) refl

-- ---- all of it

offset_back : read_offset (90 ∷ []) ≡ Some (pos 0)
unfolding read_offset
offset_back = refl

divided : (n : ℕ) → int_div (pos (n * 1_000_000)) (pos 1_000_000) ≡ pos n
divided n = ap pos (let e : n * 1_000_000 / 1_000_000 ≡ n = omega arith in e)

text_back : (y m d t n : ℕ) → IsCivilDate (pos y) m d → t < 86_400_000 → days_from_civil (pos y) m d *ℤ pos 86_400_000 +ℤ pos t ≡ pos n → read_moment (moment_text y m d t) ≡ Some (pos n)
unfolding read_moment
text_back y m d t n civil low at =
    let h = t / 3_600_000 in
    let min = t / 60_000 % 60 in
    let s = t / 1000 % 60 in
    let f = t % 1000 in
    let end = fraction_text f ++ 90 ∷ [] in
    let day = days_from_civil (pos y) m d in
    let second = (h * 60 + min) * 60 + s in
    ap (λ (o : Option (ℤ × List ℕ)). o >>= λ a. read_clock a.1 >>= λ b. read_fraction b.1 >>= λ c. read_offset c.1 >>= λ e. Some (millis_at (utc_second a.0 b.0 e) c.0))
    (day_back y m d (84 ∷ (two h ++ (58 ∷ (two min ++ (58 ∷ (two s ++ end)))))) civil)
    ∙ ap (λ (o : Option (ℕ × List ℕ)). o >>= λ b. read_fraction b.1 >>= λ c. read_offset c.1 >>= λ e. Some (millis_at (utc_second day b.0 e) c.0)) (clock_back h min s end (omega (arith, low)) (omega arith) (omega arith))
    ∙ ap (λ (o : Option (ℕ × List ℕ)). o >>= λ c. read_offset c.1 >>= λ e. Some (millis_at (utc_second day second e) c.0)) (fraction_back f (omega arith))
    ∙ ap (λ (o : Option ℤ). o >>= λ e. Some (millis_at (utc_second day second e) (f * 1_000_000))) offset_back
    ∙ ap (λ (z : ℤ). Some (int_div z (pos 1_000_000))) (let e : utc_second day second (pos 0) *ℤ pos 1_000_000_000 +ℤ pos (f * 1_000_000) ≡ pos (n * 1_000_000) = omega (arith, signed_arith, at) in e)
    ∙ ap Some (divided n)

moment_back : (z : ℤ) → pos 0 ≤ℤ z → z ≤ℤ last_text → read_moment (date_text z) ≡ Some z
moment_back (pos n) low most =
    let h = days_of n (omega (arith, signed_arith, most)) in
    ap read_moment h.reads ∙ text_back h.year h.month h.day h.clock n h.civil h.within h.at
moment_back (negsuc n) low most = absurd (omega (arith, signed_arith, low))

pub relaxed_back : (z : ℤ) → is_relaxed_date z ≡ true → read_moment (date_text z) ≡ Some z
relaxed_back z h =
    let b = and_parts (int_le (pos 0) z) (int_le z last_text) h in
    moment_back z (omega (arith, signed_arith, b.0)) (omega (arith, signed_arith, b.1))
