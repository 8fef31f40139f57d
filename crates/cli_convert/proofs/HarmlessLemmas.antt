-- What a terminal is given has no character from U+007F to U+009F.
use Rattle.std.proofs.Common.{◌≡◌, ℕ, ◌+◌, ◌/◌, ◌%◌, ◌<◌, Bool, true, false, not, ◌==◌, ◌&&◌, ◌||◌, cond, List, [], ◌∷◌, ◌++◌, nat_lt, refl, ap, ◌∙◌, arith, rules}
use Rattle.std.proofs.lemmas.Bool.{and_from, and_parts, eqb-true, ltb-true, ne_eqb, or_parts}
use Rattle.std.specs.Char.{digit_char}
use Rattle.cli_convert.specs.Terminal.{at_terminal, byte_at_terminal, is_control_pair, is_harmless, json_escape}

and_false : (p : Bool) → (p && false) ≡ false
and_false true = refl
and_false false = refl

-- one byte more in front
put : (b c : ℕ) (rest : List ℕ) → (b == 127) ≡ false → is_control_pair b c ≡ false → is_harmless (c ∷ rest) ≡ true → is_harmless (b ∷ (c ∷ rest)) ≡ true
put b c rest e pair h = and_from (not (b == 127 || is_control_pair b c)) (is_harmless (c ∷ rest))
    (ap (λ p. not (p || is_control_pair b c)) e ∙ ap not pair) h

-- one that isn't C2
put_other : (b : ℕ) (text : List ℕ) → (b == 127) ≡ false → (b == 194) ≡ false → is_harmless text ≡ true → is_harmless (b ∷ text) ≡ true
put_other b [] e n h = ap not e
put_other b (c ∷ rest) e n h = put b c rest e (ap (λ p. p && (nat_lt 127 c && nat_lt c 160)) n) h

below : (p : Bool) (n : ℕ) → n < 16 → cond p (48 + n) (87 + n) < 127
below true n e = omega arith
below false n e = omega arith

put_digit : (n : ℕ) (text : List ℕ) → n < 16 → is_harmless text ≡ true → is_harmless (digit_char n ∷ text) ≡ true
put_digit n text e h =
    let small : digit_char n < 127 = below (nat_lt n 10) n e in
    put_other (digit_char n) text (ne_eqb _ 127 (λ same. absurd (omega (arith, same, small)))) (ne_eqb _ 194 (λ same. absurd (omega (arith, same, small)))) h

put_escape : (c : ℕ) (text : List ℕ) → c < 160 → is_harmless text ≡ true → is_harmless (json_escape c ++ text) ≡ true
put_escape c text e h =
    let high : c / 16 < 16 = omega arith in
    let low : c % 16 < 16 = omega arith in
    let digits = digit_char (c / 16) ∷ (digit_char (c % 16) ∷ text) in
    let digits_harmless = put_digit (c / 16) (digit_char (c % 16) ∷ text) high (put_digit (c % 16) text low h) in
    put_other 92 (117 ∷ (48 ∷ (48 ∷ digits))) refl refl (put_other 117 (48 ∷ (48 ∷ digits)) refl refl
    (put_other 48 (48 ∷ digits) refl refl (put_other 48 digits refl refl digits_harmless)))

put_last : (b c : ℕ) (q : Bool) → (b == 127) ≡ false → is_control_pair b c ≡ false
    → is_harmless (cond q (json_escape c) (c ∷ [])) ≡ true → is_harmless (b ∷ cond q (json_escape c) (c ∷ [])) ≡ true
put_last b c true e pair h = put b 92 (117 ∷ (48 ∷ (48 ∷ (digit_char (c / 16) ∷ (digit_char (c % 16) ∷ []))))) e (and_false (b == 194)) h
put_last b c false e pair h = put b c [] e pair h

put_more : (b c d : ℕ) (xs ys : List ℕ) (p q : Bool) → (b == 127) ≡ false → is_control_pair b c ≡ false
    → is_harmless (cond p (json_escape d ++ xs) (cond q (json_escape c) (c ∷ []) ++ ys)) ≡ true
    → is_harmless (b ∷ cond p (json_escape d ++ xs) (cond q (json_escape c) (c ∷ []) ++ ys)) ≡ true
put_more b c d xs ys true q e pair h = put b 92 (117 ∷ (48 ∷ (48 ∷ (digit_char (d / 16) ∷ (digit_char (d % 16) ∷ xs))))) e (and_false (b == 194)) h
put_more b c d xs ys false true e pair h = put b 92 (117 ∷ (48 ∷ (48 ∷ (digit_char (c / 16) ∷ (digit_char (c % 16) ∷ ys))))) e (and_false (b == 194)) h
put_more b c d xs ys false false e pair h = put b c ys e pair h

put_front : (b c : ℕ) (rest : List ℕ) → (b == 127) ≡ false → is_control_pair b c ≡ false
    → is_harmless (at_terminal (c ∷ rest)) ≡ true → is_harmless (b ∷ at_terminal (c ∷ rest)) ≡ true
put_front b c [] e pair h = put_last b c (c == 127) e pair h
put_front b c (d ∷ rest) e pair h = put_more b c d (at_terminal rest) (at_terminal (d ∷ rest)) (is_control_pair c d) (c == 127) e pair h

one : (b : ℕ) (q : Bool) → (b == 127) ≡ q → is_harmless (cond q (json_escape b) (b ∷ [])) ≡ true
one b true e = put_escape b [] (omega (arith, eqb-true b 127 e)) refl
one b false e = ap not e

byte : (b c : ℕ) (rest : List ℕ) (q : Bool) → (b == 127) ≡ q → is_control_pair b c ≡ false → is_harmless (at_terminal (c ∷ rest)) ≡ true
    → is_harmless (cond q (json_escape b) (b ∷ []) ++ at_terminal (c ∷ rest)) ≡ true
byte b c rest true e pair h = put_escape b (at_terminal (c ∷ rest)) (omega (arith, eqb-true b 127 e)) h
byte b c rest false e pair h = put_front b c rest e pair h

two : (b c : ℕ) (rest : List ℕ) (p : Bool) → is_control_pair b c ≡ p → is_harmless (at_terminal rest) ≡ true → is_harmless (at_terminal (c ∷ rest)) ≡ true
    → is_harmless (cond p (json_escape c ++ at_terminal rest) (byte_at_terminal b ++ at_terminal (c ∷ rest))) ≡ true
two b c rest true pair h more =
    let range = (and_parts (b == 194) (nat_lt 127 c && nat_lt c 160) pair).1 in
    put_escape c (at_terminal rest) (ltb-true c 160 (and_parts (nat_lt 127 c) (nat_lt c 160) range).1) h
two b c rest false pair h more = byte b c rest (b == 127) refl pair more

pub always_harmless : (bytes : List ℕ) → is_harmless (at_terminal bytes) ≡ true
always_harmless [] = refl
always_harmless (b ∷ []) = one b (b == 127) refl
always_harmless (b ∷ (c ∷ rest)) = two b c rest (is_control_pair b c) refl (always_harmless rest) (always_harmless (c ∷ rest))

pub not_true : (p : Bool) → not p ≡ true → p ≡ false
not_true false e = refl
not_true true e = absurd (search rules)

pub as_it_is : (bytes : List ℕ) → is_harmless bytes ≡ true → at_terminal bytes ≡ bytes
as_it_is [] h = refl
as_it_is (b ∷ []) h = ap (λ q. cond q (json_escape b) (b ∷ [])) (not_true (b == 127) h)
as_it_is (b ∷ (c ∷ rest)) h =
    let parts = and_parts (not (b == 127 || is_control_pair b c)) (is_harmless (c ∷ rest)) h in
    let none = or_parts (b == 127) (is_control_pair b c) (not_true (b == 127 || is_control_pair b c) parts.0) in
    ap (λ p. cond p (json_escape c ++ at_terminal rest) (byte_at_terminal b ++ at_terminal (c ∷ rest))) none.1
    ∙ ap (λ q. cond q (json_escape b) (b ∷ []) ++ at_terminal (c ∷ rest)) none.0
    ∙ ap (λ t. b ∷ t) (as_it_is (c ∷ rest) parts.1)
