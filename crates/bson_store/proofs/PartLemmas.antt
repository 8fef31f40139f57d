-- What is greater has no smaller part.
use Rattle.std.proofs.Common.{◌≡◌, ◌==◌, ℕ, pos, negsuc, zero, suc, ◌+◌, ◌-◌, ◌*◌, ◌/◌, ◌^◌, ◌<◌, ◌≤◌, ◌≤ℤ◌, Bool, true, false, if◌then◌else◌, List, [], ◌∷◌, ◌++◌, refl, sym, ◌∙◌, arith, lit<, ℤ, subst, IsTrue, le_trans, mul_comm}
use Rattle.std.specs.Int.{w64}
use Rattle.std.specs.Prelude.{FitsSigned, nat_le, nat_lt, neg_ℤ}
use Rattle.std.specs.Cmp.{ranks}
use Rattle.std.specs.Cmp.Lexicographic.{slice_cmp}
use Rattle.std.specs.Ordering.{MatchOrdering, is_ge, is_le, nat_cmp, ordering_reverse, ordering_then}
use Rattle.std.specs.declared.cmp.Ordering.{Ordering}
use Rattle.std.specs.declared.cmp.Ordering.TheVariants.{Less, Equal, Greater}
use Rattle.std.proofs.Math.Nat.{mul-div-le, mul-le-mul_right, pow-succ', suc-mul}
use Rattle.std.proofs.lemmas.Bool.{eqb-true}
use Rattle.std.proofs.lemmas.Bool.Decides.{nat_tests}
use Rattle.std.proofs.lemmas.Int.{ints}
use Rattle.std.proofs.lemmas.Nat.{le-div}
use Rattle.bson_order.specs.Line.{infinite, one_whole}
use Rattle.bson_order.specs.Wholes.{toward_zero}
use Rattle.bson_order.proofs.SizeLemmas.{power_positive}
use Rattle.bson_base.specs.Value.{Scalar, string, symbol, scalar_kind, Value, scalar, array, document, scoped_code, value_kind}
use Rattle.bson_order.specs.Order.{Parts, ended, inside, order, parts, parts_key, rank}
use Rattle.bson_order.specs.Shown.{leaf_of}
use Rattle.bson_order.proofs.MeaningLemmas.{total_order}
use Rattle.bson_store.specs.Parts.{head, held, part, part_at}

-- ---- numbers

whole_positive : 0 < one_whole
unfolding one_whole
whole_positive = power_positive 10 6176 (lit< tt)

quotients : (a b w : ℕ) → 0 < w → a ≤ b → a / w ≤ b / w
quotients a b w h l = le-div (a / w) b w h (le_trans (subst (λ x. x ≤ a) (mul_comm w (a / w)) (mul-div-le a w)) l)

neg_rises : (m n : ℕ) → m ≤ n → neg_ℤ (pos n) ≤ℤ neg_ℤ (pos m)
neg_rises zero zero l = omega (arith, ints)
neg_rises zero (suc n) l = omega (arith, ints)
neg_rises (suc m) zero l = absurd (omega (arith, ints, l))
neg_rises (suc m) (suc n) l = omega (arith, ints, l)

neg_below : (m n : ℕ) → neg_ℤ (pos m) ≤ℤ pos n
neg_below zero n = omega (arith, ints)
neg_below (suc m) n = omega (arith, ints)

pub toward_rises : (p q : ℕ) → p ≤ q → toward_zero p ≤ℤ toward_zero q
toward_rises p q l = by (nat_le (suc infinite) p) (nat_le (suc infinite) q) refl refl
  where
    above : (a b : ℕ) → a ≤ b → pos (a / one_whole) ≤ℤ pos (b / one_whole)
    above a b h = let k = quotients a b one_whole whole_positive h in omega (arith, ints, k)

    below : (a b : ℕ) → a ≤ b → neg_ℤ (pos (b / one_whole)) ≤ℤ neg_ℤ (pos (a / one_whole))
    below a b h = neg_rises (a / one_whole) (b / one_whole) (quotients a b one_whole whole_positive h)

    by : (s t : Bool) → nat_le (suc infinite) p ≡ s → nat_le (suc infinite) q ≡ t
        → (if s then pos ((p - suc infinite) / one_whole) else neg_ℤ (pos ((suc infinite - p) / one_whole)))
        ≤ℤ (if t then pos ((q - suc infinite) / one_whole) else neg_ℤ (pos ((suc infinite - q) / one_whole)))
    by true true a b = above (p - suc infinite) (q - suc infinite) (omega (arith, ints, l))
    by true false a b = let h : suc infinite ≤ p = grind (arith, nat_tests) in let k : q < suc infinite = grind (arith, nat_tests) in absurd (omega (arith, ints, h, k, l))
    by false true a b = neg_below ((suc infinite - p) / one_whole) ((q - suc infinite) / one_whole)
    by false false a b = below (suc infinite - q) (suc infinite - p) (omega (arith, ints, l))

pub held_rises : (y z : ℤ) → y ≤ℤ z → held y ≤ℤ held z
held_rises (pos m) (pos n) l = by (nat_lt m (2 ^ 63)) (nat_lt n (2 ^ 63)) refl refl
  where
    by : (s t : Bool) → nat_lt m (2 ^ 63) ≡ s → nat_lt n (2 ^ 63) ≡ t → (if s then pos m else pos (2 ^ 63 - 1)) ≤ℤ (if t then pos n else pos (2 ^ 63 - 1))
    by true true a b = l
    by true false a b = let h : m < 2 ^ 63 = grind (arith, nat_tests) in omega (arith, ints, h)
    by false true a b = let h : 2 ^ 63 ≤ m = grind (arith, nat_tests) in let k : n < 2 ^ 63 = grind (arith, nat_tests) in absurd (omega (arith, ints, h, k, l))
    by false false a b = omega (arith, ints)
held_rises (pos m) (negsuc n) l = absurd (omega (arith, ints, l))
held_rises (negsuc m) (pos n) l = by (nat_lt m (2 ^ 63)) (nat_lt n (2 ^ 63))
  where
    by : (s t : Bool) → (if s then negsuc m else negsuc (2 ^ 63 - 1)) ≤ℤ (if t then pos n else pos (2 ^ 63 - 1))
    by true true = omega (arith, ints)
    by true false = omega (arith, ints)
    by false true = omega (arith, ints)
    by false false = omega (arith, ints)
held_rises (negsuc m) (negsuc n) l = by (nat_lt m (2 ^ 63)) (nat_lt n (2 ^ 63)) refl refl
  where
    by : (s t : Bool) → nat_lt m (2 ^ 63) ≡ s → nat_lt n (2 ^ 63) ≡ t → (if s then negsuc m else negsuc (2 ^ 63 - 1)) ≤ℤ (if t then negsuc n else negsuc (2 ^ 63 - 1))
    by true true a b = l
    by true false a b = let h : m < 2 ^ 63 = grind (arith, nat_tests) in let k : 2 ^ 63 ≤ n = grind (arith, nat_tests) in absurd (omega (arith, ints, h, k, l))
    by false true a b = let h : n < 2 ^ 63 = grind (arith, nat_tests) in omega (arith, ints, h)
    by false false a b = omega (arith, ints)

-- ---- texts

head_room : (n : ℕ) (t : List ℕ) → head n t < 256 ^ n
head_room zero t = lit< tt
head_room (suc n) [] = power_positive 256 (suc n) (lit< tt)
head_room (suc n) (b ∷ bs) = by (nat_lt b 256) refl (head_room n bs)
  where
    by : (r : Bool) → nat_lt b 256 ≡ r → head n bs < 256 ^ n → (if r then b * 256 ^ n + head n bs else 256 ^ suc n - 1) < 256 ^ suc n
    by true e room =
        let h : b < 256 = grind (arith, nat_tests) in
        let l : suc b ≤ 256 = omega (arith, h) in
        let k = mul-le-mul_right (256 ^ n) l in
        omega (arith, k, room, suc-mul b (256 ^ n), pow-succ' 256 n)
    by false e room = let h = power_positive 256 (suc n) (lit< tt) in omega (arith, h)

abbrev Least : ℕ → ℕ → Ordering → Ordering → Type 0
Least m n r Less = m < n
Least m n r Equal = (m ≡ n) × IsTrue (is_le r)
Least m n r Greater = ⊥

least : (m n : ℕ) (r : Ordering) → IsTrue (is_le (ordering_then (nat_cmp m n) r)) → Least m n r (nat_cmp m n)
least m n r h = by (nat_cmp m n) (ranks m n) h
  where
    by : (o : Ordering) → MatchOrdering o (m < n) (m ≡ n) (n < m) → IsTrue (is_le (ordering_then o r)) → Least m n r o
    by Less k g = k
    by Equal k g = (k, g)
    by Greater k g = absurd cc

-- a text with its end and whatever follows, and one that isn't before it
pub head_rises : (n : ℕ) (t u x y : List ℕ) → IsTrue (is_le (slice_cmp nat_cmp (ended t ++ x) (ended u ++ y))) → head n t ≤ head n u
head_rises zero t u x y h = omega arith
head_rises (suc n) [] u x y h = omega arith
head_rises (suc n) (b ∷ bs) [] x y h = by (nat_cmp (suc b) 0) (ranks (suc b) 0) h
  where
    by : (o : Ordering) → MatchOrdering o (suc b < 0) (suc b ≡ 0) (0 < suc b) → IsTrue (is_le (ordering_then o (slice_cmp nat_cmp (ended bs ++ x) y))) → head (suc n) (b ∷ bs) ≤ 0
    by Less k g = absurd (omega (arith, k))
    by Equal k g = absurd (omega (arith, k))
    by Greater k g = absurd cc
head_rises (suc n) (b ∷ bs) (c ∷ cs) x y h =
    by (nat_cmp (suc b) (suc c)) (least (suc b) (suc c) (slice_cmp nat_cmp (ended bs ++ x) (ended cs ++ y)) h) (λ k. head_rises n bs cs x y k)
  where
    both : (s t : Bool) → nat_lt b 256 ≡ s → nat_lt c 256 ≡ t → b < c
        → (if s then b * 256 ^ n + head n bs else 256 ^ suc n - 1) ≤ (if t then c * 256 ^ n + head n cs else 256 ^ suc n - 1)
    both true true d e l =
        let m : suc b ≤ c = omega (arith, l) in
        let k = mul-le-mul_right (256 ^ n) m in
        let room = head_room n bs in
        omega (arith, k, room, suc-mul b (256 ^ n))
    both true false d e l =
        let h : b < 256 = grind (arith, nat_tests) in
        let m : suc b ≤ 256 = omega (arith, h) in
        let k = mul-le-mul_right (256 ^ n) m in
        let room = head_room n bs in
        omega (arith, k, room, suc-mul b (256 ^ n), pow-succ' 256 n)
    both false true d e l = let h : 256 ≤ b = grind (arith, nat_tests) in let k : c < 256 = grind (arith, nat_tests) in absurd (omega (arith, h, k, l))
    both false false d e l = omega arith

    more : (s : Bool) → head n bs ≤ head n cs → (if s then b * 256 ^ n + head n bs else 256 ^ suc n - 1) ≤ (if s then b * 256 ^ n + head n cs else 256 ^ suc n - 1)
    more true l = omega (arith, l)
    more false l = omega arith

    by : (o : Ordering) → Least (suc b) (suc c) (slice_cmp nat_cmp (ended bs ++ x) (ended cs ++ y)) o
        → (IsTrue (is_le (slice_cmp nat_cmp (ended bs ++ x) (ended cs ++ y))) → head n bs ≤ head n cs) → head (suc n) (b ∷ bs) ≤ head (suc n) (c ∷ cs)
    by Less k f = both (nat_lt b 256) (nat_lt c 256) refl refl (omega (arith, k))
    by Equal k f =
        let e : b ≡ c = omega (arith, k.0) in
        subst (λ m. head (suc n) (b ∷ bs) ≤ head (suc n) (m ∷ cs)) e (more (nat_lt b 256) (f k.1))
    by Greater k f = absurd k

-- ---- values

is_front_less : (m n : ℕ) (xs ys : List ℕ) → IsTrue (is_le (slice_cmp nat_cmp (m ∷ xs) (n ∷ ys))) → m ≤ n
is_front_less m n xs ys h = by (nat_cmp m n) (least m n (slice_cmp nat_cmp xs ys) h)
  where
    by : (o : Ordering) → Least m n (slice_cmp nat_cmp xs ys) o → m ≤ n
    by Less k = omega (arith, k)
    by Equal k = omega (arith, k.0)
    by Greater k = absurd k

is_same_front : (m n : ℕ) (xs ys : List ℕ) → m ≡ n → IsTrue (is_le (slice_cmp nat_cmp (m ∷ xs) (n ∷ ys))) → IsTrue (is_le (slice_cmp nat_cmp xs ys))
is_same_front m n xs ys e h = by (nat_cmp m n) (least m n (slice_cmp nat_cmp xs ys) h)
  where
    by : (o : Ordering) → Least m n (slice_cmp nat_cmp xs ys) o → IsTrue (is_le (slice_cmp nat_cmp xs ys))
    by Less k = absurd (omega (arith, k, e))
    by Equal k = k.1
    by Greater k = absurd k

-- what is compared by its text alone
record IsText (p : Parts) : Type 0 where
  place : p.place ≡ 0
  major : p.major ≡ 0
  minor : p.minor ≡ 0

is_text : (s : Scalar) → rank (scalar_kind s) ≡ 4 → IsText (parts s)
is_text (string t) e = record { place = refl; major = refl; minor = refl }
is_text (symbol t) e = record { place = refl; major = refl; minor = refl }
is_text _ e = absurd (omega (arith, e))

texts_rise : (p q : Parts) → IsText p → IsText q → IsTrue (is_le (slice_cmp nat_cmp (parts_key p) (parts_key q))) → head 7 p.text ≤ head 7 q.text
texts_rise p q a b h =
    let x = ended p.more ++ ended p.id in
    let y = ended q.more ++ ended q.id in
    let xs = ended p.text ++ x in
    let ys = ended q.text ++ y in
    head_rises 7 p.text q.text x y
    (is_same_front p.minor q.minor xs ys (a.minor ∙ sym b.minor)
    (is_same_front p.major q.major (p.minor ∷ xs) (q.minor ∷ ys) (a.major ∙ sym b.major)
    (is_same_front p.place q.place (p.major ∷ p.minor ∷ xs) (q.major ∷ q.minor ∷ ys) (a.place ∙ sym b.place) h)))

pub places_rise : (p q : Parts) → IsTrue (is_le (slice_cmp nat_cmp (parts_key p) (parts_key q))) → p.place ≤ q.place
places_rise p q h = is_front_less p.place q.place (p.major ∷ p.minor ∷ (ended p.text ++ (ended p.more ++ ended p.id))) (q.major ∷ q.minor ∷ (ended q.text ++ (ended q.more ++ ended q.id))) h

numbers_rise : (p q : Parts) → IsTrue (is_le (slice_cmp nat_cmp (parts_key p) (parts_key q))) → held (toward_zero p.place) ≤ℤ held (toward_zero q.place)
numbers_rise p q h = held_rises (toward_zero p.place) (toward_zero q.place) (toward_rises p.place q.place (places_rise p q h))

zero_zero : pos 0 ≤ℤ pos 0
zero_zero = omega (arith, ints)

parts_rise : (r : ℕ) (p q : Parts) → (r ≡ 4 → IsText p × IsText q) → IsTrue (is_le (slice_cmp nat_cmp (parts_key p) (parts_key q))) → part_at r p ≤ℤ part_at r q
parts_rise r p q texts h = by (r == 3) (r == 10) (r == 4) refl
  where
    by : (a b c : Bool) → (r == 4) ≡ c
        → (if a then held (toward_zero p.place) else (if b then held (toward_zero p.place) else (if c then pos (head 7 p.text) else pos 0)))
        ≤ℤ (if a then held (toward_zero q.place) else (if b then held (toward_zero q.place) else (if c then pos (head 7 q.text) else pos 0)))
    by true b c e = numbers_rise p q h
    by false true c e = numbers_rise p q h
    by false false true e = let t = texts (eqb-true r 4 e) in let l = texts_rise p q t.0 t.1 h in omega (arith, ints, l)
    by false false false e = zero_zero

-- what is inside, behind equal ranks
pub inside_le : (v w : Value) → rank (value_kind v) ≡ rank (value_kind w) → IsTrue (is_le (order v w)) → IsTrue (is_le (slice_cmp nat_cmp (inside v) (inside w)))
inside_le v w e h = is_same_front (rank (value_kind v)) (rank (value_kind w)) (inside v) (inside w) e h

pub parts_rises : (v w : Value) → rank (value_kind v) ≡ rank (value_kind w) → IsTrue (is_le (order v w)) → part v ≤ℤ part w
parts_rises (scalar s) (scalar t) e h =
    subst (λ r. part_at (rank (scalar_kind s)) (parts s) ≤ℤ part_at r (parts t)) e
    (parts_rise (rank (scalar_kind s)) (parts s) (parts t) (λ f. (is_text s f, is_text t (sym e ∙ f))) (inside_le (scalar s) (scalar t) e h))
parts_rises v (array ws) e h = subst (λ r. part_at r (parts (leaf_of v)) ≤ℤ pos 0) (sym e) zero_zero
parts_rises v (document ns) e h = subst (λ r. part_at r (parts (leaf_of v)) ≤ℤ pos 0) (sym e) zero_zero
parts_rises v (scoped_code u ns) e h = subst (λ r. part_at r (parts (leaf_of v)) ≤ℤ pos 0) (sym e) zero_zero
parts_rises (array vs) w e h = subst (λ r. pos 0 ≤ℤ part_at r (parts (leaf_of w))) e zero_zero
parts_rises (document ms) w e h = subst (λ r. pos 0 ≤ℤ part_at r (parts (leaf_of w))) e zero_zero
parts_rises (scoped_code t ms) w e h = subst (λ r. pos 0 ≤ℤ part_at r (parts (leaf_of w))) e zero_zero

pub turned : (a b : Ordering) → a ≡ ordering_reverse b → IsTrue (is_ge a) → IsTrue (is_le b)
turned a Less e h = refl
turned a Equal e h = refl
turned a Greater e h = let f : IsTrue false = subst (λ o. IsTrue (is_ge o)) e h in absurd cc

pub parts_falls : (v w : Value) → rank (value_kind v) ≡ rank (value_kind w) → IsTrue (is_ge (order v w)) → part w ≤ℤ part v
parts_falls v w e h = parts_rises w v (sym e) (turned (order v w) (order w v) (total_order.antisymm v w) h)

-- ---- room

held_fits : (z : ℤ) → FitsSigned w64 (held z)
held_fits (pos n) = by (nat_lt n (2 ^ 63)) refl
  where
    by : (t : Bool) → nat_lt n (2 ^ 63) ≡ t → FitsSigned w64 (if t then pos n else pos (2 ^ 63 - 1))
    by true e = record { sfits = let h : n < 2 ^ 63 = grind (arith, nat_tests) in h }
    by false e = record { sfits = lit< tt }
held_fits (negsuc n) = by (nat_lt n (2 ^ 63)) refl
  where
    by : (t : Bool) → nat_lt n (2 ^ 63) ≡ t → FitsSigned w64 (if t then negsuc n else negsuc (2 ^ 63 - 1))
    by true e = record { sfits = let h : n < 2 ^ 63 = grind (arith, nat_tests) in h }
    by false e = record { sfits = lit< tt }

zero_fits : FitsSigned w64 (pos 0)
zero_fits = record { sfits = lit< tt }

pub part_fits : (v : Value) → FitsSigned w64 (part v)
part_fits v = by (rank (value_kind v) == 3) (rank (value_kind v) == 10) (rank (value_kind v) == 4)
  where
    by : (a b c : Bool) → FitsSigned w64 (if a then held (toward_zero (parts (leaf_of v)).place) else (if b then held (toward_zero (parts (leaf_of v)).place) else (if c then pos (head 7 (parts (leaf_of v)).text) else pos 0)))
    by true b c = held_fits (toward_zero (parts (leaf_of v)).place)
    by false true c = held_fits (toward_zero (parts (leaf_of v)).place)
    by false false true = let h : head 7 (parts (leaf_of v)).text < 256 ^ 7 = head_room 7 (parts (leaf_of v)).text in record { sfits = let l : head 7 (parts (leaf_of v)).text < 2 ^ 63 = omega (arith, h) in l }
    by false false false = zero_fits
