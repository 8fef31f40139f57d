-- Numbers as digits of 32 bits.
use Rattle.std.proofs.Common.{◌≡◌, ℕ, zero, suc, ◌+◌, ◌-◌, ◌*◌, ◌/◌, ◌%◌, ◌^◌, ◌<◌, ◌≤◌, List, [], ◌∷◌, ◌++◌, length, take, drop, set, get_or, refl, sym, ap, ◌∙◌, subst, arith, lit<, mul_assoc, mul-add, div-add-mod', lt_of_le_of_lt, le-mul_of_pos_right, add-one}
use Rattle.std.proofs.Math.Nat.{pow-suc, pow-le-pow_right}
use Rattle.std.proofs.lemmas.Nat.{mul-le}
use Rattle.std.proofs.lemmas.List.{take_more, take_more_set, length-take-le, take_all, get_or-drop, drop-set-lt, drop-drop}
use Rattle.std.specs.Cmp.{nat_cmp_is, ranks}
use Rattle.std.specs.Ordering.{MatchOrdering, nat_cmp, ordering_then}
use Rattle.std.specs.declared.cmp.Ordering.{Ordering}
use Rattle.std.specs.declared.cmp.Ordering.TheVariants.{Less, Equal, Greater}
use Rattle.bson_order.specs.Digits.{number_of_digits}

abbrev base : ℕ
base = 2 ^ 32

pub number-append : (xs : List ℕ) (v : ℕ) → number_of_digits (xs ++ v ∷ []) ≡ number_of_digits xs + (2 ^ 32) ^ length xs * v
number-append [] v = grind arith
number-append (x ∷ xs) v =
    let more = number-append xs v in
    let power : (2 ^ 32) ^ suc (length xs) ≡ (2 ^ 32) ^ length xs * 2 ^ 32 = pow-suc (2 ^ 32) (length xs) in
    ap (λ n. x + 2 ^ 32 * n) more ∙ step x (number_of_digits xs) ((2 ^ 32) ^ length xs) v ∙ ap (λ p. x + 2 ^ 32 * number_of_digits xs + p * v) (sym power)
  where
    step : (x n p v : ℕ) → x + 2 ^ 32 * (n + p * v) ≡ x + 2 ^ 32 * n + p * 2 ^ 32 * v
    step x n p v = grind arith

-- ---- in an order

small_apart : (a b p x y : ℕ) → a < p → x < y → a + p * x < b + p * y
small_apart a b p x y h l =
    let step : p * x + p ≤ p * y = subst (λ n. n ≤ p * y) (mul-add p x 1 ∙ ap (λ n. p * x + n) (grind arith)) (mul-le p (x + 1) p y (omega arith) (omega arith)) in
    omega (arith, step, h)

by_digit : (a b p x y : ℕ) (r : Ordering) → a < p → b < p → MatchOrdering r (x < y) (x ≡ y) (y < x)
    → MatchOrdering (ordering_then r (nat_cmp a b)) (a + p * x < b + p * y) (a + p * x ≡ b + p * y) (b + p * y < a + p * x)
by_digit a b p x y Less ha hb l = small_apart a b p x y ha l
by_digit a b p x y Equal ha hb e = subst (λ z. MatchOrdering (nat_cmp a b) (a + p * x < b + p * z) (a + p * x ≡ b + p * z) (b + p * z < a + p * x)) e (shift (nat_cmp a b) (ranks a b))
  where
    shift : (r : Ordering) → MatchOrdering r (a < b) (a ≡ b) (b < a) → MatchOrdering r (a + p * x < b + p * x) (a + p * x ≡ b + p * x) (b + p * x < a + p * x)
    shift Less h = omega (arith, h)
    shift Equal h = ap (λ n. n + p * x) h
    shift Greater h = omega (arith, h)
by_digit a b p x y Greater ha hb g = small_apart b a p y x hb g

pub next_digit : (a b p x y : ℕ) → a < p → b < p → ordering_then (nat_cmp x y) (nat_cmp a b) ≡ nat_cmp (a + p * x) (b + p * y)
next_digit a b p x y ha hb = nat_cmp_is (a + p * x) (b + p * y) (ordering_then (nat_cmp x y) (nat_cmp a b)) (by_digit a b p x y (nat_cmp x y) ha hb (ranks x y))

-- a digit more
pub number_more : (xs : List ℕ) (i : ℕ) → i < length xs → number_of_digits (take (i + 1) xs) ≡ number_of_digits (take i xs) + (2 ^ 32) ^ i * get_or xs i 0
number_more xs i h =
    let size : length (take i xs) ≡ i = length-take-le i xs (omega arith) in
    ap number_of_digits (take_more xs i 0 h) ∙ number-append (take i xs) (get_or xs i 0) ∙ ap (λ n. number_of_digits (take i xs) + (2 ^ 32) ^ n * get_or xs i 0) size

pub number_more_set : (xs : List ℕ) (i v : ℕ) → i < length xs → number_of_digits (take (i + 1) (set xs i v)) ≡ number_of_digits (take i xs) + (2 ^ 32) ^ i * v
number_more_set xs i v h =
    let size : length (take i xs) ≡ i = length-take-le i xs (omega arith) in
    ap number_of_digits (take_more_set xs i v h) ∙ number-append (take i xs) v ∙ ap (λ n. number_of_digits (take i xs) + (2 ^ 32) ^ n * v) size

pub power_more : (i : ℕ) → (2 ^ 32) ^ (i + 1) ≡ (2 ^ 32) ^ i * 2 ^ 32
power_more i = ap (λ n. (2 ^ 32) ^ n) (add-one i) ∙ pow-suc (2 ^ 32) i

pub still_small : (n p d : ℕ) → n < p → d < 2 ^ 32 → n + p * d < p * 2 ^ 32
still_small n p d h l =
    let step : p * (d + 1) ≤ p * 2 ^ 32 = mul-le p (d + 1) p (2 ^ 32) (omega arith) (omega arith) in
    let out : p * (d + 1) ≡ p * d + p = grind arith in
    omega (arith, step, out, h)

-- one turn of the comparison
pub digit_turn : (xs ys : List ℕ) (i : ℕ) (before first after : Ordering) → i < length xs → i < length ys → get_or xs i 0 < 2 ^ 32 → get_or ys i 0 < 2 ^ 32
    → before ≡ nat_cmp (number_of_digits (take i xs)) (number_of_digits (take i ys)) → number_of_digits (take i xs) < (2 ^ 32) ^ i → number_of_digits (take i ys) < (2 ^ 32) ^ i
    → first ≡ nat_cmp (get_or xs i 0) (get_or ys i 0) → after ≡ ordering_then first before
    → (after ≡ nat_cmp (number_of_digits (take (i + 1) xs)) (number_of_digits (take (i + 1) ys))) × (number_of_digits (take (i + 1) xs) < (2 ^ 32) ^ (i + 1)) × (number_of_digits (take (i + 1) ys) < (2 ^ 32) ^ (i + 1))
digit_turn xs ys i before first after hx hy dx dy e sx sy f is =
    let nx = number_more xs i hx in
    let ny = number_more ys i hy in
    let p = (2 ^ 32) ^ i in (
      is ∙ ap (λ r. ordering_then r before) f ∙ ap (λ r. ordering_then (nat_cmp (get_or xs i 0) (get_or ys i 0)) r) e
          ∙ next_digit (number_of_digits (take i xs)) (number_of_digits (take i ys)) ((2 ^ 32) ^ i) (get_or xs i 0) (get_or ys i 0) sx sy
          ∙ ap (λ n. nat_cmp n (number_of_digits (take i ys) + (2 ^ 32) ^ i * get_or ys i 0)) (sym nx) ∙ ap (λ n. nat_cmp (number_of_digits (take (i + 1) xs)) n) (sym ny),
      subst (λ n. n < (2 ^ 32) ^ (i + 1)) (sym nx) (subst (λ n. number_of_digits (take i xs) + (2 ^ 32) ^ i * get_or xs i 0 < n) (sym (power_more i)) (still_small (number_of_digits (take i xs)) ((2 ^ 32) ^ i) (get_or xs i 0) sx dx)),
      subst (λ n. n < (2 ^ 32) ^ (i + 1)) (sym ny) (subst (λ n. number_of_digits (take i ys) + (2 ^ 32) ^ i * get_or ys i 0 < n) (sym (power_more i)) (still_small (number_of_digits (take i ys)) ((2 ^ 32) ^ i) (get_or ys i 0) sy dy)),
    )

-- ---- a product

pub one_more_digit : (n i p old low carry digit factor digit2 carry2 prod : ℕ) → n + p * carry ≡ low * factor → prod ≡ digit * factor + carry → digit2 ≡ prod % 2 ^ 32 → carry2 ≡ prod / 2 ^ 32
    → n + p * digit2 + p * 2 ^ 32 * carry2 ≡ (low + p * digit) * factor
one_more_digit n i p old low carry digit factor digit2 carry2 prod e f g h =
    let split : carry2 * 2 ^ 32 + digit2 ≡ digit * factor + carry = ap (λ c. c * 2 ^ 32 + digit2) h ∙ ap (λ d. prod / 2 ^ 32 * 2 ^ 32 + d) g ∙ div-add-mod' prod (2 ^ 32) ∙ f in
    first n p digit2 carry2 ∙ ap (λ m. n + p * m) split ∙ second n p digit factor carry ∙ ap (λ m. m + p * digit * factor) e ∙ third low p digit factor
  where
    first : (n p d c : ℕ) → n + p * d + p * 2 ^ 32 * c ≡ n + p * (c * 2 ^ 32 + d)
    first n p d c = grind arith

    second : (n p d f c : ℕ) → n + p * (d * f + c) ≡ n + p * c + p * d * f
    second n p d f c = grind arith

    third : (l p d f : ℕ) → l * f + p * d * f ≡ (l + p * d) * f
    third l p d f = grind arith

pub product_turn : (xs olds : List ℕ) (i factor carry prod : ℕ) → i < length xs → i < length olds → drop i xs ≡ drop i olds
    → number_of_digits (take i xs) + (2 ^ 32) ^ i * carry ≡ number_of_digits (take i olds) * factor → prod ≡ get_or xs i 0 * factor + carry
    → number_of_digits (take (i + 1) (set xs i (prod % 2 ^ 32))) + (2 ^ 32) ^ (i + 1) * (prod / 2 ^ 32) ≡ number_of_digits (take (i + 1) olds) * factor
product_turn xs olds i factor carry prod hx ho same e f =
    let here : get_or xs i 0 ≡ get_or olds i 0 = first_same xs olds i same in
    let before = number_more olds i ho in
    let now = number_more_set xs i (prod % 2 ^ 32) hx in
    ap (λ n. n + (2 ^ 32) ^ (i + 1) * (prod / 2 ^ 32)) now ∙ ap (λ q. number_of_digits (take i xs) + (2 ^ 32) ^ i * (prod % 2 ^ 32) + q * (prod / 2 ^ 32)) (power_more i)
    ∙ one_more_digit (number_of_digits (take i xs)) i ((2 ^ 32) ^ i) 0 (number_of_digits (take i olds)) carry (get_or xs i 0) factor (prod % 2 ^ 32) (prod / 2 ^ 32) prod e f refl refl
    ∙ ap (λ d. (number_of_digits (take i olds) + (2 ^ 32) ^ i * d) * factor) here ∙ ap (λ n. n * factor) (sym before)
  where
    first_same : (xs olds : List ℕ) (i : ℕ) → drop i xs ≡ drop i olds → get_or xs i 0 ≡ get_or olds i 0
    first_same xs olds i e =
        let left : get_or (drop i xs) 0 0 ≡ get_or xs (i + 0) 0 = get_or-drop i xs 0 0 in
        let right : get_or (drop i olds) 0 0 ≡ get_or olds (i + 0) 0 = get_or-drop i olds 0 0 in
        let zero_more : i + 0 ≡ i = omega arith in
        ap (λ n. get_or xs n 0) (sym zero_more) ∙ sym left ∙ ap (λ l. get_or l 0 0) e ∙ right ∙ ap (λ n. get_or olds n 0) zero_more

pub drops_on : (xs olds : List ℕ) (i v : ℕ) → i < length xs → drop i xs ≡ drop i olds → drop (i + 1) (set xs i v) ≡ drop (i + 1) olds
drops_on xs olds i v h e = drop-set-lt (i + 1) xs i v (omega arith) ∙ sym (drop-drop 1 i xs) ∙ ap (drop 1) e ∙ drop-drop 1 i olds

pub carry_small : (digit factor carry : ℕ) → digit < 2 ^ 32 → factor < 2 ^ 32 → carry < 2 ^ 32 → digit * factor + carry < 2 ^ 64
carry_small digit factor carry hd hf hc =
    let top : digit * factor ≤ (2 ^ 32 - 1) * (2 ^ 32 - 1) = mul-le digit factor (2 ^ 32 - 1) (2 ^ 32 - 1) (omega arith) (omega arith) in
    omega (arith, top)

-- at the end nothing is left to carry
pub nothing_carried : (xs olds : List ℕ) (i factor carry : ℕ) → i ≡ 40 → length xs ≡ 40 → length olds ≡ 40 → number_of_digits olds * factor < 2 ^ 1280
    → number_of_digits (take i xs) + (2 ^ 32) ^ i * carry ≡ number_of_digits (take i olds) * factor → number_of_digits xs ≡ number_of_digits olds * factor
nothing_carried xs olds i factor carry ei lx lo room e =
    let allx : take i xs ≡ xs = take_all i xs (omega arith) in
    let allo : take i olds ≡ olds = take_all i olds (omega arith) in
    let power : (2 ^ 32) ^ i ≡ 2 ^ 1280 = ap (λ n. (2 ^ 32) ^ n) ei in
    let whole : number_of_digits xs + 2 ^ 1280 * carry ≡ number_of_digits olds * factor = subst (λ p. number_of_digits xs + p * carry ≡ number_of_digits olds * factor) power (subst (λ l. number_of_digits l + (2 ^ 32) ^ i * carry ≡ number_of_digits olds * factor) allx (subst (λ l. number_of_digits (take i xs) + (2 ^ 32) ^ i * carry ≡ number_of_digits l * factor) allo e)) in
    by_carry (number_of_digits xs) (2 ^ 1280) carry (number_of_digits olds * factor) whole room
  where
    by_carry : (n p c m : ℕ) → n + p * c ≡ m → m < p → n ≡ m
    by_carry n p zero m e h = omega (arith, e)
    by_carry n p (suc c) m e h = let more : p ≤ p * suc c = le-mul_of_pos_right p (omega arith) in absurd (omega (arith, e, more, h))

pub fives_room : (a n : ℕ) → a < 2 ^ 113 → n < 360 → a * 5 ^ n < 2 ^ 1280
fives_room a n ha hn =
    let le : n ≤ 359 = omega arith in
    let up : 5 ^ n ≤ 5 ^ 359 = pow-le-pow_right (lit< tt) le in
    let first : a * 5 ^ n ≤ 2 ^ 113 * 5 ^ 359 = mul-le a (5 ^ n) (2 ^ 113) (5 ^ 359) (omega arith) up in
    lt_of_le_of_lt first (lit< tt)

pub twos_room : (a n : ℕ) → a < 2 ^ 113 → n ≤ 1074 → a * 2 ^ n < 2 ^ 1280
twos_room a n ha hn =
    let up : 2 ^ n ≤ 2 ^ 1074 = pow-le-pow_right (lit< tt) hn in
    let first : a * 2 ^ n ≤ 2 ^ 113 * 2 ^ 1074 = mul-le a (2 ^ n) (2 ^ 113) (2 ^ 1074) (omega arith) up in
    lt_of_le_of_lt first (lit< tt)

pub room_so_far : (a f i n : ℕ) → 0 < f → i < n → a * f ^ n < 2 ^ 1280 → a * f ^ i * f < 2 ^ 1280
room_so_far a f i n h lt room =
    let power : f ^ suc i ≡ f ^ i * f = pow-suc f i in
    let up : f ^ suc i ≤ f ^ n = pow-le-pow_right h lt in
    let first : a * f ^ suc i ≤ a * f ^ n = mul-le a (f ^ suc i) a (f ^ n) (omega arith) up in
    let same : a * f ^ i * f ≡ a * f ^ suc i = mul_assoc a (f ^ i) f ∙ ap (λ p. a * p) (sym power) in
    subst (λ m. m < 2 ^ 1280) (sym same) (lt_of_le_of_lt first room)

pub grown_turn : (a f i n m : ℕ) → n ≡ a * f ^ i → m ≡ n * f → m ≡ a * f ^ (i + 1)
grown_turn a f i n m e h = h ∙ ap (λ k. k * f) e ∙ mul_assoc a (f ^ i) f ∙ ap (λ p. a * p) (sym (pow-suc f i)) ∙ ap (λ k. a * f ^ k) (sym (add-one i))
