-- Steps of the code.
use Rattle.std.proofs.Common.{◌≡◌, ◌≢◌, ◌==◌, ℕ, pos, negsuc, zero, suc, ◌+◌, ◌-◌, ◌*◌, ◌/◌, ◌^◌, ◌<◌, ◌≤◌, Bool, true, false, if◌then◌else◌, List, [], drop, length, Option, Some, None, refl, sym, ap, ◌∙◌, arith, lit<, mul_assoc, of_z, to_z, ℤ, subst, IsTrue}
use Rattle.std.specs.Int.{w64}
use Rattle.std.specs.Prelude.{FitsSigned, nat_le, nat_lt, neg_ℤ, option_and_then}
use Rattle.bson_order.proofs.WholeLemmas.{whole_at_place}
use Rattle.std.specs.Ordering.{is_ge, is_le}
use Rattle.std.specs.declared.cmp.Ordering.{Ordering}
use Rattle.std.specs.declared.cmp.Ordering.TheVariants.{Less, Equal, Greater}
use Rattle.std.proofs.Math.Nat.{add-mul, div-le_self, pow-le-pow_right, pow-succ'}
use Rattle.std.proofs.Math.ListN.{drop_of_length-le}
use Rattle.std.proofs.lemmas.Int.{to_z-of_z}
use Rattle.std.proofs.lemmas.Bool.Decides.{nat_tests}
use Rattle.bson_base.specs.Value.{double, int32, int64, decimal, Value, scalar, levels}
use Rattle.bson_order.specs.Line.{infinite, one_whole, whole_place}
use Rattle.bson_order.specs.Wholes.{in_64_bits, number_place, part_of, toward_zero, whole_part}
use Rattle.bson_order.specs.Order.{order, parts}
use Rattle.bson_order.specs.Shown.{leaf_of}
use Rattle.bson_store.specs.Parts.{IsNumeric, head, held, part, part_at}
use Rattle.bson_store.proofs.PartLemmas.{inside_le, places_rise, turned}
use Rattle.bson_order.proofs.MeaningLemmas.{total_order}

-- ---- numbers that 64 bits have no room for

abbrev pub middle : Value
middle = scalar (int32 (pos 0))

numeric_place : (v : Value) → IsNumeric v → number_place v ≡ Some (parts (leaf_of v)).place
numeric_place (scalar (double n)) e = refl
numeric_place (scalar (int32 z)) e = refl
numeric_place (scalar (int64 z)) e = refl
numeric_place (scalar (decimal bs)) e = refl
numeric_place _ e = absurd (omega (arith, e))

pub numeric_levels : (v : Value) → IsNumeric v → levels v ≤ 200
numeric_levels (scalar s) e = omega arith
numeric_levels _ e = absurd (omega (arith, e))

numeric_part : (v : Value) → IsNumeric v → held (toward_zero (parts (leaf_of v)).place) ≡ part v
numeric_part v e = sym (ap (λ r. part_at r (parts (leaf_of v))) e)

numeric_whole : (v : Value) → IsNumeric v → part_of v ≡ in_64_bits (toward_zero (parts (leaf_of v)).place)
numeric_whole v e = ap (λ o. option_and_then whole_part o) (numeric_place v e)

pub held_some : (z y : ℤ) → in_64_bits z ≡ Some y → y ≡ held z
held_some (pos n) y e = by (nat_lt n (2 ^ 63)) e
  where
    by : (t : Bool) → (if t then Some (pos n) else None) ≡ Some y → y ≡ (if t then pos n else pos (2 ^ 63 - 1))
    by true e = cc
    by false e = absurd cc
held_some (negsuc n) y e = by (nat_lt n (2 ^ 63)) e
  where
    by : (t : Bool) → (if t then Some (negsuc n) else None) ≡ Some y → y ≡ (if t then negsuc n else negsuc (2 ^ 63 - 1))
    by true e = cc
    by false e = absurd cc

held_up : (n : ℕ) → in_64_bits (pos n) ≡ None → pos (2 ^ 63 - 1) ≡ held (pos n)
held_up n e = by (nat_lt n (2 ^ 63)) e
  where
    by : (t : Bool) → (if t then Some (pos n) else None) ≡ None → pos (2 ^ 63 - 1) ≡ (if t then pos n else pos (2 ^ 63 - 1))
    by true e = absurd cc
    by false e = refl

held_down : (n : ℕ) → in_64_bits (neg_ℤ (pos n)) ≡ None → negsuc (2 ^ 63 - 1) ≡ held (neg_ℤ (pos n))
held_down zero e = absurd cc
held_down (suc n) e = by (nat_lt n (2 ^ 63)) e
  where
    by : (t : Bool) → (if t then Some (negsuc n) else None) ≡ None → negsuc (2 ^ 63 - 1) ≡ (if t then negsuc n else negsuc (2 ^ 63 - 1))
    by true e = absurd cc
    by false e = refl

none_there : (n : ℕ) → n ≡ 0 → in_64_bits (pos n) ≡ None → ⊥
none_there n e h = let f : in_64_bits (pos 0) ≡ None = subst (λ m. in_64_bits (pos m) ≡ None) e h in absurd cc

least_held : (p : ℕ) → p ≤ suc infinite → in_64_bits (toward_zero p) ≡ None → negsuc (2 ^ 63 - 1) ≡ held (toward_zero p)
least_held p l e = by (nat_le (suc infinite) p) refl e
  where
    by : (t : Bool) → nat_le (suc infinite) p ≡ t → in_64_bits (if t then pos ((p - suc infinite) / one_whole) else neg_ℤ (pos ((suc infinite - p) / one_whole))) ≡ None
        → negsuc (2 ^ 63 - 1) ≡ held (if t then pos ((p - suc infinite) / one_whole) else neg_ℤ (pos ((suc infinite - p) / one_whole)))
    by true d e = let s = div-le_self (p - suc infinite) one_whole in absurd (none_there ((p - suc infinite) / one_whole) (omega (arith, s, l)) e)
    by false d e = held_down ((suc infinite - p) / one_whole) e

most_held : (p : ℕ) → suc infinite ≤ p → in_64_bits (toward_zero p) ≡ None → pos (2 ^ 63 - 1) ≡ held (toward_zero p)
most_held p l e = by (nat_le (suc infinite) p) refl e
  where
    by : (t : Bool) → nat_le (suc infinite) p ≡ t → in_64_bits (if t then pos ((p - suc infinite) / one_whole) else neg_ℤ (pos ((suc infinite - p) / one_whole))) ≡ None
        → pos (2 ^ 63 - 1) ≡ held (if t then pos ((p - suc infinite) / one_whole) else neg_ℤ (pos ((suc infinite - p) / one_whole)))
    by true d e = held_up ((p - suc infinite) / one_whole) e
    by false d e = absurd (let h : p < suc infinite = grind (arith, nat_tests) in omega (arith, h, l))

places_le : (v w : Value) → IsNumeric v → IsNumeric w → IsTrue (is_le (order v w)) → (parts (leaf_of v)).place ≤ (parts (leaf_of w)).place
places_le (scalar s) (scalar t) e f h = places_rise (parts s) (parts t) (inside_le (scalar s) (scalar t) (e ∙ sym f) h)
places_le _ _ e f h = absurd (omega (arith, e, f))

pub least_part : (v : Value) → IsNumeric v → part_of v ≡ None → order v middle ≡ Less → negsuc (2 ^ 63 - 1) ≡ part v
least_part v n e o =
    let l = places_le v middle n refl (subst (λ r. IsTrue (is_le r)) (sym o) refl) in
    least_held (parts (leaf_of v)).place (omega (arith, l)) (sym (numeric_whole v n) ∙ e) ∙ numeric_part v n

pub most_part : (v : Value) → IsNumeric v → part_of v ≡ None → order v middle ≢ Less → pos (2 ^ 63 - 1) ≡ part v
most_part v n e o =
    let l = places_le middle v refl n (turned (order v middle) (order middle v) (total_order.antisymm v middle) (by (order v middle) o)) in
    most_held (parts (leaf_of v)).place (omega (arith, l)) (sym (numeric_whole v n) ∙ e) ∙ numeric_part v n
  where
    by : (r : Ordering) → r ≢ Less → IsTrue (is_ge r)
    by Less f = absurd (f refl)
    by Equal f = refl
    by Greater f = refl

pub some_part : (v : Value) (z : ℤ) → IsNumeric v → part_of v ≡ Some z → z ≡ part v
some_part v z n e = held_some (toward_zero (parts (leaf_of v)).place) z (sym (numeric_whole v n) ∙ e) ∙ numeric_part v n

-- ---- dates

date_held : (z : ℤ) → FitsSigned w64 z → z ≡ held (toward_zero (whole_place z))
date_held z h = held_some (toward_zero (whole_place z)) z (by (whole_part (whole_place z)) (whole_at_place z h))
  where
    inner : (y : ℤ) (b : Bool) → (if b then Some y else None) ≡ Some z → Some y ≡ Some z
    inner y true e = e
    inner y false e = absurd cc

    by : (o : Option ℤ) → option_and_then (λ y. if whole_place y == whole_place z then Some y else None) o ≡ Some z → o ≡ Some z
    by None e = absurd cc
    by (Some y) e = inner y (whole_place y == whole_place z) e

pub date_result : (r z : ℤ) → FitsSigned w64 r → r ≡ z → to_z w64 (of_z w64 r) ≡ held (toward_zero (whole_place z))
date_result r z h e = to_z-of_z w64 r h ∙ date_held r h ∙ ap (λ y. held (toward_zero (whole_place y))) e

-- ---- texts

pub behind_end : (n i : ℕ) (t : List ℕ) → length t ≤ i → head (suc n) (drop i t) ≡ 0 * 256 ^ n + head n (drop (i + 1) t)
behind_end n i t h =
    let e : drop i t ≡ [] = drop_of_length-le t h in
    let f : drop (i + 1) t ≡ [] = drop_of_length-le t (omega (arith, h)) in
    ap (λ l. head (suc n) l) e ∙ by n ∙ sym (ap (λ l. 0 * 256 ^ n + head n l) f)
  where
    by : (n : ℕ) → 0 ≡ 0 * 256 ^ n + head n []
    by zero = refl
    by (suc n) = omega arith

-- one more byte, with n behind it
turn_next : (part byte whole n : ℕ) (ds es : List ℕ) → part * 256 ^ suc n + head (suc n) ds ≡ whole → head (suc n) ds ≡ byte * 256 ^ n + head n es
    → (part * 256 + byte) * 256 ^ n + head n es ≡ whole
turn_next part byte whole n ds es h e =
    let split : (part * 256 + byte) * 256 ^ n ≡ part * 256 * 256 ^ n + byte * 256 ^ n = add-mul (part * 256) byte (256 ^ n) in
    let up : part * 256 ^ suc n ≡ part * 256 * 256 ^ n = ap (λ x. part * x) (pow-succ' 256 n) ∙ sym (mul_assoc part 256 (256 ^ n)) in
    omega (arith, split, up, h, e)

pub text_turn : (part byte whole i : ℕ) (ds es : List ℕ) → i < 7 → part * 256 ^ (7 - i) + head (7 - i) ds ≡ whole → ((n : ℕ) → head (suc n) ds ≡ byte * 256 ^ n + head n es)
    → (part * 256 + byte) * 256 ^ (7 - (i + 1)) + head (7 - (i + 1)) es ≡ whole
text_turn part byte whole i ds es l h e =
    let next : 7 - i ≡ suc (7 - (i + 1)) = omega (arith, l) in
    turn_next part byte whole (7 - (i + 1)) ds es (subst (λ n. part * 256 ^ n + head n ds ≡ whole) next h) (e (7 - (i + 1)))

pub text_room : (part byte i : ℕ) → part < 256 ^ i → byte < 256 → part * 256 + byte < 256 ^ (i + 1)
text_room part byte i h k =
    let one : i + 1 ≡ suc i = omega arith in
    let next : 256 ^ (i + 1) ≡ 256 * 256 ^ i = ap (λ n. 256 ^ n) one ∙ pow-succ' 256 i in
    omega (arith, next, h, k)

pub text_fits : (part i : ℕ) → i < 7 → part < 256 ^ i → part * 256 + 256 < 2 ^ 63
text_fits part i l h =
    let least : i ≤ 6 = omega (arith, l) in
    let up : 256 ^ i ≤ 256 ^ 6 = pow-le-pow_right (lit< tt) least in
    omega (arith, up, h)

pub text_end : (part i : ℕ) (t : List ℕ) → 7 ≤ i → i ≤ 7 → part < 256 ^ i → part < 2 ^ 63
text_end part i t l u h =
    let e : i ≡ 7 = omega (arith, l, u) in
    let room : part < 256 ^ 7 = subst (λ n. part < 256 ^ n) e h in
    omega (arith, room)

pub text_whole : (part i : ℕ) (t : List ℕ) → 7 ≤ i → i ≤ 7 → part * 256 ^ (7 - i) + head (7 - i) (drop i t) ≡ head 7 t → part ≡ head 7 t
text_whole part i t l u h =
    let e : i ≡ 7 = omega (arith, l, u) in
    let k : part * 256 ^ 0 + head 0 (drop 7 t) ≡ head 7 t = subst (λ n. part * 256 ^ (7 - n) + head (7 - n) (drop n t) ≡ head 7 t) e h in
    omega (arith, k)
