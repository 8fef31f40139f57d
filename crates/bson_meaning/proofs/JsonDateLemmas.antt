-- What a date text reads as has 64 bits.
use Rattle.std.proofs.Common.{◌≡◌, ℕ, zero, suc, ◌+◌, ◌*◌, ◌/◌, ◌<◌, ◌≤◌, ◌==◌, ◌&&◌, ◌||◌, nat_lt, nat_le, ℤ, pos, neg_ℤ, Bool, true, false, if◌then◌else◌, List, [], ◌∷◌, Option, Some, None, Ok, refl, ap, ◌∙◌, subst, arith}
use Rattle.std.specs.Prelude.{FitsSigned, unsigned_abs}
use Rattle.std.specs.Char.{is_ascii_digit, digit_value}
use Rattle.std.specs.Int.{w64}
use Rattle.std.proofs.lemmas.Bool.{leb-true, ltb-true, and_parts}
use Rattle.std.proofs.Math.Nat.{mul-le-mul_right}
use Rattle.jiff_core.specs.Calendar.{days_from_civil, days_in_month, IsCivilDate}
use Rattle.jiff_core.proofs.CalendarLemmas.{days_from_civil-day_count, day_count_bounds}
use Rattle.jiff_core.proofs.SignedLemmas.{signed_arith}
use Rattle.bson_base.specs.DateText.{◌>>=◌, at_end, behind, date_of, day_number, digit_run, digits_worth, four_digits, is_day, millis_at, nanoseconds, next_two, read_ahead, read_clock, read_day, read_fraction, read_late, read_minutes, read_moment, read_offset, some_digits, two_digits, utc_second, valid}
use Rattle.bson_base.specs.Decimal.{all_digits}
use Rattle.bson_base.proofs.DateLemmas.{all_digits-digit_run}
use borrow.Author.Differences.{up, down}

-- two steps that both gave something
record Given {A B : Type 0} (o : Option A) (f : A → Option B) (b : B) : Type 0 where
  first : A
  here : o ≡ Some first
  there : f first ≡ Some b

given : {A B : Type 0} (o : Option A) (f : A → Option B) (b : B) → (o >>= f) ≡ Some b → Given o f b
given (Some a) f b e = record { first = a; here = refl; there = e }
given None f b e = cc

same_some : {A : Type 0} (x y : A) → ◌≡◌ {A = Option A} (Some x) (Some y) → x ≡ y
same_some x y e = cc

-- ---- days

is_civil : (y : ℤ) (m d : ℕ) → is_day y m d ≡ true → IsCivilDate y m d
is_civil y m d e =
    let a = and_parts (nat_le (unsigned_abs y) 9999 && nat_le 1 m && nat_le m 12 && nat_le 1 d) (nat_le d (days_in_month y m)) e in
    let b = and_parts (nat_le (unsigned_abs y) 9999 && nat_le 1 m && nat_le m 12) (nat_le 1 d) a.0 in
    let c = and_parts (nat_le (unsigned_abs y) 9999 && nat_le 1 m) (nat_le m 12) b.0 in
    let f = and_parts (nat_le (unsigned_abs y) 9999) (nat_le 1 m) c.0 in
    let l = leb-true (unsigned_abs y) 9999 f.0 in
    ((omega (arith, signed_arith), omega (arith, signed_arith)), (leb-true 1 m f.1, leb-true m 12 c.1), (leb-true 1 d b.1, leb-true d (days_in_month y m) a.1))

near_civil : (y : ℤ) (m d : ℕ) → IsCivilDate y m d → up (days_from_civil y m d) ≤ down (days_from_civil y m d) + 5_000_000
near_civil y m d h = let b = day_count_bounds y m d h in omega (arith, days_from_civil-day_count y m d)

late_civil : (y : ℤ) (m d : ℕ) → IsCivilDate y m d → down (days_from_civil y m d) ≤ up (days_from_civil y m d) + 5_000_000
late_civil y m d h = let b = day_count_bounds y m d h in omega (arith, days_from_civil-day_count y m d)

day_near : (y : ℤ) (m d : ℕ) (z : ℤ) → day_number y m d ≡ Some z → (up z ≤ down z + 5_000_000) × (down z ≤ up z + 5_000_000)
unfolding day_number
day_near y m d z e = by (is_day y m d) refl e
  where
    by : (b : Bool) → is_day y m d ≡ b → (if b then Some (days_from_civil y m d) else None) ≡ Some z → (up z ≤ down z + 5_000_000) × (down z ≤ up z + 5_000_000)
    by true h f =
        let c = is_civil y m d h in
        subst (λ x. (up x ≤ down x + 5_000_000) × (down x ≤ up x + 5_000_000)) (same_some (days_from_civil y m d) z f) (near_civil y m d c, late_civil y m d c)
    by false h f = cc

read_day_near : (t : List ℕ) (d : ℤ × List ℕ) → read_day t ≡ Some d → (up d.0 ≤ down d.0 + 5_000_000) × (down d.0 ≤ up d.0 + 5_000_000)
unfolding read_day
read_day_near t d e =
    let y = given (four_digits t) _ d e in
    let m = given (next_two 45 100 y.first.1) _ d y.there in
    let n = given (next_two 45 100 m.first.1) _ d m.there in
    let z = given (day_number (pos y.first.0) m.first.0 n.first.0) _ d n.there in
    subst (λ (x : ℤ × List ℕ). (up x.0 ≤ down x.0 + 5_000_000) × (down x.0 ≤ up x.0 + 5_000_000)) (same_some _ d z.there) (day_near (pos y.first.0) m.first.0 n.first.0 z.first z.here)

-- ---- the clock

next_low : (mark limit : ℕ) (t : List ℕ) (n : ℕ × List ℕ) → next_two mark limit t ≡ Some n → n.0 < limit
unfolding next_two
next_low mark limit t n e =
    let u = given (behind mark mark t) _ n e in
    let m = given (two_digits u.first) _ n u.there in
    by m.first (nat_lt m.first.0 limit) refl m.there
  where
    by : (m : ℕ × List ℕ) (b : Bool) → nat_lt m.0 limit ≡ b → (if b then Some m else None) ≡ Some n → n.0 < limit
    by m true h f = subst (λ (x : ℕ × List ℕ). x.0 < limit) (same_some m n f) (ltb-true m.0 limit h)
    by m false h f = cc

minutes_low : (t : List ℕ) (n : ℕ × List ℕ) → read_minutes t ≡ Some n → n.0 < 1440
unfolding read_minutes
minutes_low t n e =
    let h = given (two_digits t) _ n e in
    let m = given (next_two 58 60 h.first.1) _ n h.there in
    by h.first.0 m.first (next_low 58 60 h.first.1 m.first m.here) (nat_lt h.first.0 24) refl m.there
  where
    by : (h : ℕ) (m : ℕ × List ℕ) → m.0 < 60 → (b : Bool) → nat_lt h 24 ≡ b → (if b then Some (h * 60 + m.0, m.1) else None) ≡ Some n → n.0 < 1440
    by h m l true k f = subst (λ (x : ℕ × List ℕ). x.0 < 1440) (same_some _ n f) (let i = ltb-true h 24 k in omega arith)
    by h m l false k f = cc

clock_low : (t : List ℕ) (n : ℕ × List ℕ) → read_clock t ≡ Some n → n.0 < 86_400
unfolding read_clock
clock_low t n e =
    let u = given (behind 84 116 t) _ n e in
    let m = given (read_minutes u.first) _ n u.there in
    let s = given (next_two 58 60 m.first.1) _ n m.there in
    let a = minutes_low u.first m.first m.here in
    let b = next_low 58 60 m.first.1 s.first s.here in
    subst (λ (x : ℕ × List ℕ). x.0 < 86_400) (same_some _ n s.there) (omega arith)

digit_low : (c : ℕ) → is_ascii_digit c ≡ true → digit_value c ≤ 9
digit_low c h = grind arith

worth_low : (w : ℕ) (ds : List ℕ) → all_digits ds ≡ true → digits_worth w ds ≤ 10 * w
worth_low w [] h = omega arith
worth_low w (c ∷ cs) h =
    let p = and_parts (is_ascii_digit c) (all_digits cs) h in
    let r = worth_low (w / 10) cs p.1 in
    let m = mul-le-mul_right w (digit_low c p.0) in
    omega arith

some_low : (p : List ℕ × List ℕ) (n : ℕ × List ℕ) → all_digits p.0 ≡ true → some_digits p ≡ Some n → n.0 ≤ 1_000_000_000
some_low ([], rest) n h e = cc
some_low (c ∷ cs, rest) n h e = subst (λ (x : ℕ × List ℕ). x.0 ≤ 1_000_000_000) (same_some _ n e) (let l = worth_low 100_000_000 (c ∷ cs) h in omega arith)

nanos_low : (t : List ℕ) (o : Option (List ℕ)) (n : ℕ × List ℕ) → nanoseconds t o ≡ Some n → n.0 ≤ 1_000_000_000
nanos_low t None n e = subst (λ (x : ℕ × List ℕ). x.0 ≤ 1_000_000_000) (same_some _ n e) (omega arith)
nanos_low t (Some u) n e = some_low (digit_run u) n (all_digits-digit_run u) e

fraction_low : (t : List ℕ) (n : ℕ × List ℕ) → read_fraction t ≡ Some n → n.0 ≤ 1_000_000_000
unfolding read_fraction
fraction_low t n e = nanos_low t (behind 46 46 t) n e

-- ---- the offset

abbrev IsOffset : ℤ → Type 0
IsOffset z = (up z ≤ 1440) × (down z ≤ 1440)

end_is : (y z : ℤ) (cs : List ℕ) → at_end y cs ≡ Some z → y ≡ z
end_is y z [] e = same_some y z e
end_is y z (c ∷ cs) e = cc

ahead_low : (t : List ℕ) (z : ℤ) → read_ahead t ≡ Some z → IsOffset z
ahead_low t z e =
    let m = given (read_minutes t) _ z e in
    let l = minutes_low t m.first m.here in
    subst IsOffset (end_is (pos m.first.0) z m.first.1 m.there) (omega arith, omega arith)

neg_offset : (n : ℕ) → n < 1440 → IsOffset (neg_ℤ (pos n))
neg_offset zero h = (omega arith, omega arith)
neg_offset (suc n) h = (omega arith, omega arith)

late_low : (t : List ℕ) (z : ℤ) → read_late t ≡ Some z → IsOffset z
late_low t z e =
    let m = given (read_minutes t) _ z e in
    subst IsOffset (end_is (neg_ℤ (pos m.first.0)) z m.first.1 m.there) (neg_offset m.first.0 (minutes_low t m.first m.here))

offset_low : (t : List ℕ) (z : ℤ) → read_offset t ≡ Some z → IsOffset z
unfolding read_offset
offset_low [] z e = cc
offset_low (c ∷ cs) z e = by (c == 90 || c == 122) (c == 43) (c == 45) e
  where
    by : (a b d : Bool) → (if a then at_end (pos 0) cs else if b then read_ahead cs else if d then read_late cs else None) ≡ Some z → IsOffset z
    by true b d f = subst IsOffset (end_is (pos 0) z cs f) (omega arith, omega arith)
    by false true d f = ahead_low cs z f
    by false false true f = late_low cs z f
    by false false false f = cc

-- ---- all together

moment_fits : (d : ℤ) (s : ℕ) (o : ℤ) (n : ℕ) → up d ≤ down d + 5_000_000 → down d ≤ up d + 5_000_000 → s < 86_400 → IsOffset o → n ≤ 1_000_000_000 → FitsSigned w64 (millis_at (utc_second d s o) n)
moment_fits d s o n a b h k l = let p = k.0 in let q = k.1 in omega (arith, signed_arith)

moment_ranged : (t : List ℕ) (z : ℤ) → read_moment t ≡ Some z → FitsSigned w64 z
unfolding read_moment
moment_ranged t z e =
    let d = given (read_day t) _ z e in
    let s = given (read_clock d.first.1) _ z d.there in
    let n = given (read_fraction s.first.1) _ z s.there in
    let o = given (read_offset n.first.1) _ z n.there in
    let r = read_day_near t d.first d.here in
    subst (FitsSigned w64) (same_some _ z o.there)
    (moment_fits d.first.0 s.first.0 o.first n.first.0 r.0 r.1 (clock_low d.first.1 s.first s.here) (offset_low n.first.1 o.first o.here) (fraction_low s.first.1 n.first n.here))

pub date_ranged : (t : List ℕ) (z : ℤ) → date_of t ≡ Ok z → FitsSigned w64 z
date_ranged t z e = by (read_moment t) refl e
  where
    by : (o : Option ℤ) → read_moment t ≡ o → valid o ≡ Ok z → FitsSigned w64 z
    by (Some y) h f = let i : y ≡ z = cc in moment_ranged t z (h ∙ ap Some i)
    by None h f = cc
