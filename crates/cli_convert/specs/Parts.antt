-- Bytes in parts that follow each other, and what a sink took.
use Rattle.std.specs.Prelude.{◌≡◌, ℕ, List, [], ◌∷◌, ◌++◌}
use Rattle.std.specs.Io.KnownBytes.{Appends}
use Rattle.bson_base.specs.Device.{Tally}

-- the bytes are one part for each of these, in their order, each as P says
abbrev pub InParts : {T : Type 0} → (List ℕ → T → Type 0) → List ℕ → List T → Type 0
InParts P bytes [] = bytes ≡ []
InParts P bytes (x ∷ xs) = (part rest : List ℕ) × (bytes ≡ part ++ rest) × P part x × InParts P rest xs

-- no call failed, and the sink took these bytes
abbrev pub Passed : Tally → Tally → List ℕ → Type 0
Passed old new bytes = (new.failures ≡ old.failures) × Appends old.taken new.taken bytes
