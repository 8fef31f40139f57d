-- How often characters occur in a text.
use Rattle.std.specs.Prelude.{◌≡◌, ℕ, ◌+◌, List, [], ◌∷◌, ◌==◌, if◌then◌else◌}

-- how often a number occurs in a list
abbrev pub count : ℕ → List ℕ → ℕ
count c [] = 0
count c (d ∷ ds) = (if d == c then 1 else 0) + count c ds

-- each of these numbers occurs equally often in two lists
abbrev pub StandAlike : List ℕ → List ℕ → List ℕ → Type 0
StandAlike xs ys [] = Unit {0}
StandAlike xs ys (c ∷ cs) = (count c xs ≡ count c ys) × StandAlike xs ys cs
