-- Lists that are compared part by part.
use Rattle.std.proofs.Common.{◌≡◌, ℕ, zero, suc, ◌<◌, List, [], ◌∷◌, ◌++◌, append_assoc, refl, sym, ap, ◌∙◌, subst, arith}
use Rattle.std.specs.Cmp.{nat_cmp_is, ranks}
use Rattle.std.specs.Cmp.Lexicographic.{slice_cmp}
use Rattle.std.specs.Ordering.{MatchOrdering, nat_cmp, ordering_then}
use Rattle.std.specs.declared.cmp.Ordering.{Ordering}
use Rattle.std.specs.declared.cmp.Ordering.TheVariants.{Less, Equal, Greater}
use Rattle.bson_order.specs.Order.{ended, Parts, parts_key}

pub then_assoc : (p q r : Ordering) → ordering_then (ordering_then p q) r ≡ ordering_then p (ordering_then q r)
then_assoc Less q r = refl
then_assoc Equal q r = refl
then_assoc Greater q r = refl

pub less_front : (n : ℕ) → Less ≡ nat_cmp 0 (suc n)
less_front n = nat_cmp_is 0 (suc n) Less (omega arith)

pub greater_front : (n : ℕ) → Greater ≡ nat_cmp (suc n) 0
greater_front n = nat_cmp_is (suc n) 0 Greater (omega arith)

along : {P Q R S T U : Type 0} (r : Ordering) → (P → S) → (Q → T) → (R → U) → MatchOrdering r P Q R → MatchOrdering r S T U
along Less f g h m = f m
along Equal f g h m = g m
along Greater f g h m = h m

pub both_sucs : (m n : ℕ) → nat_cmp m n ≡ nat_cmp (suc m) (suc n)
both_sucs m n = nat_cmp_is (suc m) (suc n) (nat_cmp m n) (along (nat_cmp m n) (λ l. omega (arith, l)) (λ e. ap suc e) (λ g. omega (arith, g)) (ranks m n))

pub equal_numbers : (m n : ℕ) → nat_cmp m n ≡ Equal → m ≡ n
equal_numbers m n e = subst (λ r. MatchOrdering r (m < n) (m ≡ n) (n < m)) e (ranks m n)

-- ---- two lists of which none is the beginning of the other, unless they are equal

abbrev pub Apart : List ℕ → List ℕ → Type 0
Apart a b = (x y : List ℕ) → slice_cmp nat_cmp (a ++ x) (b ++ y) ≡ ordering_then (slice_cmp nat_cmp a b) (slice_cmp nat_cmp x y)

pub nil_apart : Apart [] []
nil_apart x y = refl

pub cons_apart : (m n : ℕ) (a b : List ℕ) → Apart a b → Apart (m ∷ a) (n ∷ b)
cons_apart m n a b h x y = ap (λ r. ordering_then (nat_cmp m n) r) (h x y) ∙ sym (then_assoc (nat_cmp m n) (slice_cmp nat_cmp a b) (slice_cmp nat_cmp x y))

pub append_apart : (a b c d : List ℕ) → Apart a b → Apart c d → Apart (a ++ c) (b ++ d)
append_apart a b c d h k x y =
    ap (λ l. slice_cmp nat_cmp l ((b ++ d) ++ y)) (append_assoc a c x) ∙ ap (λ l. slice_cmp nat_cmp (a ++ (c ++ x)) l) (append_assoc b d y)
    ∙ h (c ++ x) (d ++ y) ∙ ap (λ r. ordering_then (slice_cmp nat_cmp a b) r) (k x y)
    ∙ sym (then_assoc (slice_cmp nat_cmp a b) (slice_cmp nat_cmp c d) (slice_cmp nat_cmp x y))
    ∙ ap (λ r. ordering_then r (slice_cmp nat_cmp x y)) (sym (h c d))

head_by : (a b : List ℕ) (r : Ordering) → (r ≡ Equal → Apart a b) → (x y : List ℕ)
    → ordering_then r (slice_cmp nat_cmp (a ++ x) (b ++ y)) ≡ ordering_then (ordering_then r (slice_cmp nat_cmp a b)) (slice_cmp nat_cmp x y)
head_by a b Less f x y = refl
head_by a b Equal f x y = f refl x y
head_by a b Greater f x y = refl

-- only if the heads are equal
pub head_apart : (m n : ℕ) (a b : List ℕ) → (m ≡ n → Apart a b) → Apart (m ∷ a) (n ∷ b)
head_apart m n a b f x y = head_by a b (nat_cmp m n) (λ e. f (equal_numbers m n e)) x y

pub front_less : (n : ℕ) (a b : List ℕ) → Apart (0 ∷ a) (suc n ∷ b)
front_less n a b x y = subst (λ r. ordering_then r (slice_cmp nat_cmp (a ++ x) (b ++ y)) ≡ ordering_then (ordering_then r (slice_cmp nat_cmp a b)) (slice_cmp nat_cmp x y)) (less_front n) refl

pub front_greater : (n : ℕ) (a b : List ℕ) → Apart (suc n ∷ a) (0 ∷ b)
front_greater n a b x y = subst (λ r. ordering_then r (slice_cmp nat_cmp (a ++ x) (b ++ y)) ≡ ordering_then (ordering_then r (slice_cmp nat_cmp a b)) (slice_cmp nat_cmp x y)) (greater_front n) refl

pub ended_apart : (s t : List ℕ) → Apart (ended s) (ended t)
ended_apart [] [] = cons_apart 0 0 [] [] nil_apart
ended_apart [] (c ∷ t) = front_less c [] (ended t)
ended_apart (b ∷ s) [] = front_greater b (ended s) []
ended_apart (b ∷ s) (c ∷ t) = cons_apart (suc b) (suc c) (ended s) (ended t) (ended_apart s t)

pub ended_same : (s t : List ℕ) → slice_cmp nat_cmp (ended s) (ended t) ≡ slice_cmp nat_cmp s t
ended_same [] [] = refl
ended_same [] (c ∷ t) = subst (λ r. ordering_then r (slice_cmp nat_cmp [] (ended t)) ≡ Less) (less_front c) refl
ended_same (b ∷ s) [] = subst (λ r. ordering_then r (slice_cmp nat_cmp (ended s) []) ≡ Greater) (greater_front b) refl
ended_same (b ∷ s) (c ∷ t) = ap (λ r. ordering_then r (slice_cmp nat_cmp (ended s) (ended t))) (sym (both_sucs b c)) ∙ ap (λ r. ordering_then (nat_cmp b c) r) (ended_same s t)

pub parts_apart : (p q : Parts) → Apart (parts_key p) (parts_key q)
parts_apart p q =
    let tails = append_apart (ended p.more) (ended q.more) (ended p.id) (ended q.id) (ended_apart p.more q.more) (ended_apart p.id q.id) in
    let texts = append_apart (ended p.text) (ended q.text) (ended p.more ++ ended p.id) (ended q.more ++ ended q.id) (ended_apart p.text q.text) tails in
    let all_p = ended p.text ++ (ended p.more ++ ended p.id) in
    let all_q = ended q.text ++ (ended q.more ++ ended q.id) in
    cons_apart p.place q.place (p.major ∷ p.minor ∷ all_p) (q.major ∷ q.minor ∷ all_q) (cons_apart p.major q.major (p.minor ∷ all_p) (q.minor ∷ all_q) (cons_apart p.minor q.minor all_p all_q texts))

-- part by part
pub parts_compared : (p q : Parts) (place major minor text more id : Ordering) → place ≡ nat_cmp p.place q.place → major ≡ nat_cmp p.major q.major → minor ≡ nat_cmp p.minor q.minor
    → text ≡ slice_cmp nat_cmp p.text q.text → more ≡ slice_cmp nat_cmp p.more q.more → id ≡ slice_cmp nat_cmp p.id q.id
    → ordering_then place (ordering_then (ordering_then major minor) (ordering_then (ordering_then text more) id)) ≡ slice_cmp nat_cmp (parts_key p) (parts_key q)
parts_compared p q place major minor text more id e f g h i j =
    let last = ended_apart p.more q.more (ended p.id) (ended q.id) in
    let texts = ended_apart p.text q.text (ended p.more ++ ended p.id) (ended q.more ++ ended q.id) in
    let inner : ordering_then (ordering_then text more) id ≡ slice_cmp nat_cmp (ended p.text ++ (ended p.more ++ ended p.id)) (ended q.text ++ (ended q.more ++ ended q.id)) =
    then_assoc text more id
    ∙ ap (λ r. ordering_then r (ordering_then more id)) (h ∙ sym (ended_same p.text q.text))
    ∙ ap (λ r. ordering_then (slice_cmp nat_cmp (ended p.text) (ended q.text)) (ordering_then r id)) (i ∙ sym (ended_same p.more q.more))
    ∙ ap (λ r. ordering_then (slice_cmp nat_cmp (ended p.text) (ended q.text)) (ordering_then (slice_cmp nat_cmp (ended p.more) (ended q.more)) r)) (j ∙ sym (ended_same p.id q.id))
    ∙ ap (λ r. ordering_then (slice_cmp nat_cmp (ended p.text) (ended q.text)) r) (sym last)
    ∙ sym texts in
    ap (λ r. ordering_then r (ordering_then (ordering_then major minor) (ordering_then (ordering_then text more) id))) e
    ∙ ap (λ r. ordering_then (nat_cmp p.place q.place) r) (then_assoc major minor (ordering_then (ordering_then text more) id))
    ∙ ap (λ r. ordering_then (nat_cmp p.place q.place) (ordering_then r (ordering_then minor (ordering_then (ordering_then text more) id)))) f
    ∙ ap (λ r. ordering_then (nat_cmp p.place q.place) (ordering_then (nat_cmp p.major q.major) (ordering_then r (ordering_then (ordering_then text more) id)))) g
    ∙ ap (λ r. ordering_then (nat_cmp p.place q.place) (ordering_then (nat_cmp p.major q.major) (ordering_then (nat_cmp p.minor q.minor) r))) inner
