-- Paths that are compared key by key.
use Rattle.std.proofs.Common.{◌≡◌, ◌↔◌, ◌<◌, ◌≤◌, ℕ, List, [], ◌∷◌, length, take, Bool, true, IsTrue, String, Global, bytes_eq, string_bytes, ap, ap₂, refl, sym, subst, ◌∙◌, arith}
use Rattle.std.specs.Cmp.Lexicographic.{pointwise}
use Rattle.std.specs.Prelude.{string_eq}
use Rattle.std.proofs.lemmas.Bool.{and_parts, and_from}
use Rattle.std.proofs.lemmas.List.{length-map, take_all, take-map}
use Rattle.bson_base.proofs.MemberLemmas.{equal_keys, same_key}
use Rattle.store_question.specs.Filters.{path_of}
use Rattle.store_model.specs.Filter.{Path}

abbrev pub same_text : String Global → String Global → Bool
same_text = string_eq

pub same_paths : (xs ys : List (String Global)) → pointwise same_text xs ys ≡ true → path_of xs ≡ path_of ys
same_paths [] [] h = refl
same_paths [] (y ∷ ys) h = absurd (cc)
same_paths (x ∷ xs) [] h = absurd (cc)
same_paths (x ∷ xs) (y ∷ ys) h =
    let p = and_parts (same_text x y) (pointwise same_text xs ys) h in
    ap₂ (λ k ks. k ∷ ks) (equal_keys (string_bytes x) (string_bytes y) p.0) (same_paths xs ys p.1)

pub paths_same : (xs ys : List (String Global)) → path_of xs ≡ path_of ys → pointwise same_text xs ys ≡ true
paths_same [] [] h = refl
paths_same [] (y ∷ ys) h = absurd (cc)
paths_same (x ∷ xs) [] h = absurd (cc)
paths_same (x ∷ xs) (y ∷ ys) h =
    let first : string_bytes x ≡ string_bytes y = cc in
    let rest : path_of xs ≡ path_of ys = cc in
    and_from (same_text x y) (pointwise same_text xs ys) (ap (λ k. bytes_eq k (string_bytes y)) first ∙ same_key (string_bytes y)) (paths_same xs ys rest)

-- ---- beginnings

pub begins : (a keys : List (String Global)) (b : Bool) → IsTrue b ↔ (path_of a ≡ path_of (take (length a) keys)) → IsTrue b ↔ (path_of a ≡ take (length a) (path_of keys))
begins a keys b h = subst (λ (q : Path). IsTrue b ↔ (path_of a ≡ q)) (sym (take-map string_bytes (length a) keys)) h

pub too_long : (a keys : List (String Global)) → length keys < length a → path_of a ≡ take (length a) (path_of keys) → ⊥
too_long a keys more h =
    let all : length (path_of keys) ≤ length a = subst (λ (l : ℕ). l ≤ length a) (sym (length-map keys string_bytes)) (omega (arith, more)) in
    let same : length a ≡ length keys = sym (length-map a string_bytes) ∙ ap length (h ∙ take_all (length a) (path_of keys) all) ∙ length-map keys string_bytes in
    absurd (omega (arith, same, more))
