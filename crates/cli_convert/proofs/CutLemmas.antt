-- Bytes cut at their first line feed.
use Rattle.std.proofs.Common.{◌≡◌, ℕ, ◌+◌, ◌-◌, ◌<◌, List, ◌∷◌, ◌++◌, length, take, drop, get_or, Some, None, ap, sym, ◌∙◌, subst, take-append-drop, arith}
use Rattle.std.proofs.lemmas.List.{append-nil, get_or-take, drop_more, drop-take, get_or_default, length-take}
use Rattle.std.proofs.lemmas.Bool.{eqb-true, eq-eqb}
use Rattle.memchr.specs.Find.{IsFirstByte, is_byte}
use Rattle.bson_base.proofs.DeviceLemmas.{drop_drop}
use Rattle.cli_convert.specs.Line.{IsUnbroken}

-- no byte before the first line feed is one
pub before_unbroken : (rest : List ℕ) (n : ℕ) → IsFirstByte (is_byte 10) rest (Some n) → IsUnbroken (take n rest)
before_unbroken rest n h k d within e =
    let low : k < n = grind (arith, length-take, within) in
    let inside : k < length rest = grind (arith, length-take, within) in
    let same : get_or rest k 0 ≡ 10 = get_or_default rest k 0 d inside ∙ sym (get_or-take n rest k d low) ∙ e in
    h.0.before k (omega arith) low (eq-eqb (get_or rest k 0) 10 same)

pub all_unbroken : (rest : List ℕ) → IsFirstByte (is_byte 10) rest None → IsUnbroken rest
all_unbroken rest h k d within e = h k (omega arith) within (eq-eqb (get_or rest k 0) 10 (get_or_default rest k 0 d within ∙ e))

-- what follows n bytes and one more of those from `at` up to `until`
left_behind : (chunk : List ℕ) (at until n : ℕ) → n < until - at → drop (n + 1) (take (until - at) (drop at chunk)) ≡ take (until - (at + (n + 1))) (drop (at + (n + 1)) chunk)
left_behind chunk at until n h =
    let long : until - at ≡ (n + 1) + (until - (at + (n + 1))) = omega (arith, h) in
    ap (λ m. drop (n + 1) (take m (drop at chunk))) long ∙ drop-take (n + 1) (until - (at + (n + 1))) (drop at chunk)
    ∙ ap (take (until - (at + (n + 1)))) (drop_drop at (n + 1) chunk)

-- the piece, the line feed, and the rest
cut_at : (rest : List ℕ) (n : ℕ) → IsFirstByte (is_byte 10) rest (Some n) → rest ≡ take n rest ++ 10 ∷ drop (n + 1) rest
cut_at rest n h =
    let is : get_or rest n 0 ≡ 10 = eqb-true (get_or rest n 0) 10 h.1 in
    sym (take-append-drop n rest) ∙ ap (λ l. take n rest ++ l) (drop_more rest n 0 h.0.high ∙ ap (λ b. b ∷ drop (n + 1) rest) is)

-- so of the bytes of a chunk from `at` up to `until`
pub cut_between : (shown chunk : List ℕ) (at until n : ℕ) → shown ≡ chunk → IsFirstByte (is_byte 10) (take (until - at) (drop at shown)) (Some n)
    → take (until - at) (drop at chunk) ≡ take n (take (until - at) (drop at shown)) ++ 10 ∷ take (until - (at + (n + 1))) (drop (at + (n + 1)) chunk)
cut_between shown chunk at until n e h =
    let rest = take (until - at) (drop at shown) in
    let within : n < until - at = grind (arith, length-take, h.0.high) in
    let cut : rest ≡ take n rest ++ 10 ∷ take (until - (at + (n + 1))) (drop (at + (n + 1)) shown) = cut_at rest n h ∙ ap (λ l. take n rest ++ 10 ∷ l) (left_behind shown at until n within) in
    subst (λ c. take (until - at) (drop at c) ≡ take n rest ++ 10 ∷ take (until - (at + (n + 1))) (drop (at + (n + 1)) c)) e cut

pub all_between : (shown chunk : List ℕ) (at until : ℕ) → shown ≡ chunk → take (until - at) (drop at chunk) ≡ take (until - at) (drop at shown) ++ take (until - until) (drop until chunk)
all_between shown chunk at until e =
    let none : until - until ≡ 0 = omega arith in
    ap (λ c. take (until - at) (drop at c)) (sym e) ∙ sym (ap (λ n. take (until - at) (drop at shown) ++ take n (drop until chunk)) none ∙ append-nil (take (until - at) (drop at shown)))
