-- The words that aren't in the program's table of commands.
use Rattle.std.specs.Prelude.{◌≡◌, ◌<◌, ◌^◌, ℕ, List, [], ◌∷◌, codes}
use Rattle.cli_commands.specs.Words.{IsFile}
use Rattle.std.specs.Str.Parse.{IsNumeral, digits_value, without_leading_plus}

-- the words begin with `--wait` and a number of seconds
abbrev pub AsksToWait : List (List ℕ) → ℕ → List (List ℕ) → Type 0
AsksToWait words seconds behind = (text : List ℕ) × (words ≡ codes "--wait" ∷ text ∷ behind)
    × IsNumeral 10 (without_leading_plus text) × (digits_value 10 (without_leading_plus text) ≡ seconds) × (seconds < 2 ^ 64)

-- the words are `FILE backup PATH`
abbrev pub AsksForCopy : List (List ℕ) → List ℕ → List ℕ → Type 0
AsksForCopy words file path = IsFile file × (words ≡ file ∷ codes "backup" ∷ path ∷ [])
