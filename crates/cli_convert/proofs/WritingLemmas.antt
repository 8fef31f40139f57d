-- Text that is given to a terminal byte by byte.
use Rattle.std.proofs.Common.{◌≡◌, ℕ, zero, suc, ◌+◌, ◌-◌, ◌<◌, ◌≤◌, Bool, true, false, not, ◌==◌, ◌&&◌, cond, List, [], ◌∷◌, ◌++◌, length, take, drop, get_or, slice_get, slice_range, nat_lt, Option, None, Some, Result, Ok, Err, IfOk, refl, sym, subst, ap, ◌∙◌, append_assoc, arith, rules}
use Rattle.std.specs.Io.{WritesAtMost}
use Rattle.std.specs.Io.KnownBytes.{Appends, Keeps, WriteAppends, append_known}
use Rattle.std.proofs.KnownBytes.{Keeps-trans, append_known-moved}
use Rattle.std.proofs.lemmas.Bool.{and_parts, ltb-true, ne_eqb}
use Rattle.std.proofs.lemmas.List.{append-nil, drop-drop, drop-take, length-take, take-append-drop, take-take}
use Rattle.cli_convert.specs.Terminal.{at_terminal, byte_at_terminal, json_escape}
use Rattle.cli_convert.specs.Writing.{begun}
use Rattle.cli_convert.proofs.HarmlessLemmas.{not_true}

alone : (b : ℕ) (rest : List ℕ) → (b == 194) ≡ false → at_terminal (b ∷ rest) ≡ byte_at_terminal b ++ at_terminal rest
alone b [] e = sym (append-nil (byte_at_terminal b))
alone b (c ∷ rest) e = ap (λ p. cond (p && (nat_lt 127 c && nat_lt c 160)) (json_escape c ++ at_terminal rest) (byte_at_terminal b ++ at_terminal (c ∷ rest))) e

pair : (c : ℕ) (rest : List ℕ) (p : Bool) → (nat_lt 127 c && nat_lt c 160) ≡ p
    → at_terminal (194 ∷ (c ∷ rest)) ≡ cond p (json_escape c ++ at_terminal rest) (194 ∷ at_terminal (c ∷ rest))
pair c rest p e = ap (λ p. cond p (json_escape c ++ at_terminal rest) (194 ∷ at_terminal (c ∷ rest))) e

-- a byte that ends a character from U+0080 to U+009F
pub after_control : (b : Bool) (c : ℕ) (rest : List ℕ) → (b && (nat_lt 127 c && nat_lt c 160)) ≡ true
    → json_escape c ++ at_terminal (begun (c == 194) ++ rest) ≡ at_terminal (begun b ++ (c ∷ rest))
after_control true c rest e =
    let below = ltb-true c 160 (and_parts (nat_lt 127 c) (nat_lt c 160) e).1 in
    let other : (c == 194) ≡ false = ne_eqb c 194 (λ same. absurd (omega (arith, same, below))) in
    ap (λ p. json_escape c ++ at_terminal (begun p ++ rest)) other ∙ sym (pair c rest true e)
after_control false c rest e = absurd (search rules)

first : (b : Bool) (rest : List ℕ) → begun b ++ at_terminal (194 ∷ rest) ≡ at_terminal (begun b ++ (194 ∷ rest))
first true rest = sym (pair 194 rest false refl)
first false rest = refl

-- a byte C2
pub after_first : (b : Bool) (c : ℕ) (rest : List ℕ) → c ≡ 194
    → begun b ++ at_terminal (begun (c == 194) ++ rest) ≡ at_terminal (begun b ++ (c ∷ rest))
after_first b c rest e =
    subst (λ c. begun b ++ at_terminal (begun (c == 194) ++ rest) ≡ at_terminal (begun b ++ (c ∷ rest))) (sym e) (first b rest)

other : (b : Bool) (c : ℕ) (rest : List ℕ) → (b && (nat_lt 127 c && nat_lt c 160)) ≡ false → (c == 194) ≡ false
    → (begun b ++ byte_at_terminal c) ++ at_terminal (begun (c == 194) ++ rest) ≡ at_terminal (begun b ++ (c ∷ rest))
other true c rest e n =
    ap (λ p. (194 ∷ byte_at_terminal c) ++ at_terminal (begun p ++ rest)) n ∙ sym (pair c rest false e ∙ ap (λ t. 194 ∷ t) (alone c rest n))
other false c rest e n = ap (λ p. byte_at_terminal c ++ at_terminal (begun p ++ rest)) n ∙ sym (alone c rest n)

delete : (b : Bool) (rest : List ℕ) → (begun b ++ json_escape 127) ++ at_terminal rest ≡ at_terminal (begun b ++ (127 ∷ rest))
delete true rest = other true 127 rest refl refl
delete false rest = other false 127 rest refl refl

-- U+007F
pub after_delete : (b : Bool) (c : ℕ) (rest : List ℕ) → c ≡ 127
    → (begun b ++ json_escape c) ++ at_terminal (begun (c == 194) ++ rest) ≡ at_terminal (begun b ++ (c ∷ rest))
after_delete b c rest e =
    subst (λ c. (begun b ++ json_escape c) ++ at_terminal (begun (c == 194) ++ rest) ≡ at_terminal (begun b ++ (c ∷ rest))) (sym e) (delete b rest)

-- any other byte
pub after_other : (b : Bool) (c : ℕ) (rest : List ℕ) → (b && (nat_lt 127 c && nat_lt c 160)) ≡ false → (c ≡ 127 → ⊥) → (c ≡ 194 → ⊥)
    → (begun b ++ (c ∷ [])) ++ at_terminal (begun (c == 194) ++ rest) ≡ at_terminal (begun b ++ (c ∷ rest))
after_other b c rest e no_delete no_first =
    ap (λ p. (begun b ++ cond p (json_escape c) (c ∷ [])) ++ at_terminal (begun (c == 194) ++ rest)) (sym (ne_eqb c 127 no_delete))
    ∙ other b c rest e (ne_eqb c 194 no_first)

-- whether a byte is given as it is, whatever is behind it
abbrev is_plain : ℕ → Bool
is_plain b = not (b == 127) && not (b == 194)

one_plain : (b : ℕ) (rest : List ℕ) → is_plain b ≡ true → at_terminal (b ∷ rest) ≡ b ∷ at_terminal rest
one_plain b rest e =
    let parts = and_parts (not (b == 127)) (not (b == 194)) e in
    alone b rest (not_true (b == 194) parts.1) ∙ ap (λ p. cond p (json_escape b) (b ∷ []) ++ at_terminal rest) (not_true (b == 127) parts.0)

-- bytes that are given as they are
plain_front : (n : ℕ) (bytes rest : List ℕ) → ((k : ℕ) → k < n → is_plain (get_or bytes k 0) ≡ true)
    → n ≤ length bytes → at_terminal (take n bytes ++ rest) ≡ take n bytes ++ at_terminal rest
plain_front zero bytes rest plain fits = refl
plain_front (suc n) [] rest plain fits = refl
plain_front (suc n) (b ∷ bytes) rest plain fits =
    one_plain b (take n bytes ++ rest) (plain 0 (omega arith))
    ∙ ap (λ t. b ∷ t) (plain_front n bytes rest (λ k below. plain (suc k) (omega arith)) (omega arith))

-- and so they are if no byte C2 is before them
pub plain_taken : (b : Bool) (n plain : ℕ) (bytes rest : List ℕ) → b ≡ false → ((k : ℕ) → k < plain → is_plain (get_or bytes k 0) ≡ true)
    → n ≤ plain → n ≤ length bytes → at_terminal (begun b ++ (take n bytes ++ rest)) ≡ take n bytes ++ at_terminal (begun b ++ rest)
plain_taken true n plain bytes rest e each within fits = absurd (search rules)
plain_taken false n plain bytes rest e each within fits = plain_front n bytes rest (λ k below. each k (omega arith)) fits

-- a part of what waits was given
pub part_given : (a b : Option (List ℕ)) (bytes : List ℕ) (start count : ℕ) → start + count ≤ 7 → Appends a b (take count (slice_range bytes start 7))
    → Keeps (append_known a (slice_range bytes start 7)) (append_known b (slice_range bytes (start + count) 7))
part_given a b bytes start count within given =
    let text = slice_range bytes start 7 in
    let parts : 7 - start ≡ count + (7 - (start + count)) = omega arith in
    let later : slice_range bytes (start + count) 7 ≡ drop count text =
    sym (ap (λ n. drop count (take n (drop start bytes))) parts ∙ drop-take count _ (drop start bytes)
    ∙ ap (take (7 - (start + count))) (drop-drop count start bytes)) in
    append_known-moved a b (take count text) (slice_range bytes (start + count) 7) text given
    (sym (ap (λ t. take count text ++ t) later ∙ take-append-drop count text))

pub none_left : (bytes : List ℕ) (start : ℕ) → 7 ≤ start → slice_range bytes start 7 ≡ []
none_left bytes start e =
    let none : 7 - start ≡ 0 = omega arith in
    ap (λ n. take n (drop start bytes)) none

-- what waited is given, and `more` is behind what is left of it
pub more_kept : (a b : Option (List ℕ)) (waiting left more : List ℕ) → Keeps (append_known a waiting) (append_known b left)
    → Keeps (append_known a (waiting ++ more)) (append_known b (left ++ more))
more_kept None b waiting left more same = tt
more_kept (Some p) None waiting left more same = same
more_kept (Some p) (Some q) waiting left more same =
    sym (append_assoc q left more) ∙ ap (λ t. t ++ more) same ∙ append_assoc p waiting more

-- and nothing is left of it, and in its place comes what is given for `more`
pub next_kept : (a b : Option (List ℕ)) (waiting left more next : List ℕ) → Keeps (append_known a waiting) (append_known b left)
    → left ≡ [] → next ≡ more → Keeps (append_known a (waiting ++ more)) (append_known b next)
next_kept a b waiting left more next same none e =
    subst (λ t. Keeps (append_known a (waiting ++ more)) (append_known b t)) (ap (λ t. t ++ more) none ∙ sym e) (more_kept a b waiting left more same)

-- and a part of `more` is given, too
pub part_kept : (a b d : Option (List ℕ)) (waiting left front rest more : List ℕ) → Keeps (append_known a waiting) (append_known b left)
    → left ≡ [] → Appends b d front → more ≡ front ++ rest → Keeps (append_known a (waiting ++ more)) (append_known d (left ++ rest))
part_kept a b d waiting left front rest more same none given e =
    Keeps-trans _ _ _ (next_kept a b waiting left more more same none refl)
    (subst (λ t. Keeps (append_known b more) (append_known d (t ++ rest))) (sym none) (append_known-moved b d front rest more given e))

-- a write of the first `plain` bytes took the first ones of all
pub front_taken : {E : Type 0} (a b : Option (List ℕ)) (r : Result ℕ E) (bytes : List ℕ) (plain : ℕ) (P : ℕ → Type 0)
    → WritesAtMost r (take plain bytes) → WriteAppends a b r (take plain bytes)
    → ((n : ℕ) → n ≤ plain → n ≤ length bytes → Appends a b (take n bytes) → P n) → IfOk r P
front_taken a b (Err e) bytes plain P bound given next = tt
front_taken a b (Ok n) bytes plain P bound given next =
    let len = length-take plain bytes in
    let within : n ≤ plain = omega (arith, bound, len) in
    let inside : n ≤ length bytes = omega (arith, bound, len) in
    next n within inside (subst (λ t. Appends a b t) (take-take n plain bytes within) given)

-- the first byte was taken
pub first_taken : (bytes : List ℕ) (b : ℕ) → Some b ≡ slice_get bytes 0 → take 1 bytes ≡ b ∷ []
first_taken [] b e = absurd (search rules)
first_taken (c ∷ bytes) b e = search rules
