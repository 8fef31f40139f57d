-- How many words are for arguments.
use Rattle.std.proofs.Common.{◌≡◌, ◌≤◌, ◌+◌, ◌-◌, ℕ, List, [], ◌∷◌, ◌++◌, String, Global, string_bytes, length, take, drop, map, ◌∙◌, ap, subst, arith}
use Rattle.std.proofs.lemmas.List.{take_all}
use Rattle.fallowtime_words.specs.Commands.{AreWords}
use Rattle.fallowtime_words.specs.Reading.{MayFollow}
use Rattle.fallowtime_words.specs.declared.table.Argument.{Argument}

-- n is the only number of words that can be for arguments
abbrev pub Only : List Argument → List (List ℕ) → ℕ → Type 0
Only args words n = (taken given : List (List ℕ)) → words ≡ taken ++ given → AreWords args taken → MayFollow given → length taken ≡ n

after_one : (a b : Argument) (more : List Argument) (w : List ℕ) (words : List (List ℕ)) (n : ℕ) → Only (b ∷ more) words n → Only (a ∷ b ∷ more) (w ∷ words) (1 + n)
after_one a b more w words n only taken given e (w', rest, is, h) m =
    let whole : w ∷ words ≡ w' ∷ (rest ++ given) = e ∙ ap (λ x. x ++ given) is in
    let same : words ≡ rest ++ given = cc in
    let many = only rest given same h m in
    omega (arith, ap length is, many)

-- the slice behind the first
behind : {A : Type 0} (x : A) (xs : List A) → take (length (x ∷ xs) - 1) (drop 1 (x ∷ xs)) ≡ xs
behind x xs = take_all (length (x ∷ xs) - 1) xs (omega arith)

pub one_more : (args : List Argument) (ws : List (String Global)) (n : ℕ) → 2 ≤ length args → 1 ≤ length ws
    → Only (take (length args - 1) (drop 1 args)) (map string_bytes (take (length ws - 1) (drop 1 ws))) n → Only args (map string_bytes ws) (1 + n)
one_more [] ws n two one only = absurd (omega (arith, two))
one_more (a ∷ []) ws n two one only = absurd (omega (arith, two))
one_more (a ∷ b ∷ more) [] n two one only = absurd (omega (arith, one))
one_more (a ∷ b ∷ more) (w ∷ ws) n two one only =
    after_one a b more (string_bytes w) (map string_bytes ws) n
    (subst (λ x. Only x (map string_bytes ws) n) (behind a (b ∷ more)) (subst (λ x. Only (take (length (a ∷ b ∷ more) - 1) (drop 1 (a ∷ b ∷ more))) (map string_bytes x) n) (behind w ws) only))
