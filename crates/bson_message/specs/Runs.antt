-- Things that stand one after the other in bytes.
use Rattle.std.specs.Prelude.{◌≡◌, ℕ, List, [], ◌∷◌, ◌++◌}

-- bytes are these things, one after the other, each as Is says
abbrev pub AreAll : {T : Type 0} → (List ℕ → T → Type 0) → List ℕ → List T → Type 0
AreAll Is bytes [] = bytes ≡ []
AreAll Is bytes (x ∷ xs) = (front : List ℕ) × (rest : List ℕ) × (bytes ≡ front ++ rest) × Is front x × AreAll Is rest xs

-- such a thing is at the front, and this follows it
abbrev pub BeginsWith : {T : Type 0} → (List ℕ → T → Type 0) → List ℕ → T → List ℕ → Type 0
BeginsWith Is bytes x rest = (front : List ℕ) × (bytes ≡ front ++ rest) × Is front x

-- no such thing is at the front
abbrev pub BeginsWithNone : {T : Type 0} → (List ℕ → T → Type 0) → List ℕ → Type 0
BeginsWithNone {T} Is bytes = (x : T) (rest : List ℕ) → BeginsWith Is bytes x rest → ⊥
