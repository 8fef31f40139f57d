-- One more byte of a text, and one more text, of those that are left.
use Rattle.std.proofs.Common.{◌≡◌, ◌<◌, ◌≤◌, ◌∙◌, ◌+◌, ◌∷◌, ℕ, suc, List, String, Global, length, drop, get_or, map, max, ap, sym, arith, rules, string_bytes, drop_of_length-le}
use Rattle.std.proofs.Math.Seq.{drop-cons}
use Rattle.bson_store_cli.specs.Levels.{deepest, deepest_from, depth_behind, levels_in, part_behind}
use Rattle.bson_store_cli.specs.declared.levels.Part.{Part}
use Rattle.bson_store_cli.specs.declared.levels.Part.TheVariants as part

next : {A : Type 0} (xs : List A) (i : ℕ) (x : A) → i < length xs → drop i xs ≡ get_or xs i x ∷ drop (i + 1) xs
next xs i x low =
    let e : i + 1 ≡ suc i = omega arith in
    drop-cons xs i x low ∙ ap (λ k. get_or xs i x ∷ drop k xs) (sym e)

pub next_byte : (before after : Part) (depth behind most now i : ℕ) (text : List ℕ) (whole : ℕ) → i < length text
    → after ≡ part_behind before (get_or text i 0) → behind ≡ depth_behind before depth (get_or text i 0) → now ≡ max most behind
    → deepest before depth most (drop i text) ≡ whole → deepest after behind now (drop (i + 1) text) ≡ whole
unfolding deepest
next_byte before after depth behind most now i text whole low a b n kept =
    let rest = drop (i + 1) text in
    let d = depth_behind before depth (get_or text i 0) in
    ap (λ p. deepest p behind now rest) a ∙ ap (λ k. deepest (part_behind before (get_or text i 0)) k now rest) b
    ∙ ap (λ k. deepest (part_behind before (get_or text i 0)) d k rest) (n ∙ ap (λ k. max most k) b)
    ∙ sym (ap (deepest before depth most) (next text i 0 low)) ∙ kept

pub last_byte : (before : Part) (depth most i : ℕ) (text : List ℕ) (whole : ℕ) → length text ≤ i → deepest before depth most (drop i text) ≡ whole → most ≡ whole
unfolding deepest
last_byte before depth most i text whole low kept = sym (ap (deepest before depth most) (drop_of_length-le text low)) ∙ kept

pub one_more : (before : Part) (depth byte : ℕ) → depth_behind before depth byte ≤ depth + 1
one_more part.Outside depth byte = search rules
one_more part.String depth byte = search rules
one_more part.Escape depth byte = search rules

pub next_text : (most now i : ℕ) (texts : List (String Global)) (text : String Global) (whole : ℕ) → i < length texts
    → text ≡ get_or texts i text → now ≡ max most (levels_in (string_bytes text))
    → deepest_from most (map string_bytes (drop i texts)) ≡ whole → deepest_from now (map string_bytes (drop (i + 1) texts)) ≡ whole
unfolding deepest_from
next_text most now i texts text whole low is n kept =
    let rest = drop (i + 1) texts in
    ap (λ k. deepest_from k (map string_bytes rest)) n ∙ ap (λ t. deepest_from most (map string_bytes (t ∷ rest))) is
    ∙ sym (ap (λ ts. deepest_from most (map string_bytes ts)) (next texts i text low)) ∙ kept

pub last_text : (most i : ℕ) (texts : List (String Global)) (whole : ℕ) → length texts ≤ i → deepest_from most (map string_bytes (drop i texts)) ≡ whole → most ≡ whole
unfolding deepest_from
last_text most i texts whole low kept = sym (ap (λ ts. deepest_from most (map string_bytes ts)) (drop_of_length-le texts low)) ∙ kept
