-- A line, and what is kept of it.
use Rattle.std.specs.Prelude.{◌≡◌, ◌≢◌, ℕ, ◌<◌, ◌≤◌, List, length}
use Rattle.std.specs.List.{All}
use Rattle.cli_convert.specs.declared.line.TheConstants.{MOST}
use Rattle.cli_convert.specs.declared.line.Kept.{Kept}
use Rattle.cli_convert.specs.declared.line.Kept.TheVariants.{Whole, TooLong, Memory}
use Rattle.cli_convert.specs.declared.line.Line.{Line}

-- no byte of the text is a line feed
abbrev pub IsUnbroken : List ℕ → Type 0
IsUnbroken text = All (λ b. b ≢ 10) text

-- what is kept of a text; there is always memory for one without a byte
abbrev pub KeepsSo : Kept → List ℕ → List ℕ → Type 0
KeepsSo Whole bytes text = (bytes ≡ text) × (length text ≤ MOST)
KeepsSo TooLong bytes text = MOST < length text
KeepsSo Memory bytes text = 0 < length text

abbrev pub Keeps : Line → List ℕ → Type 0
Keeps l text = KeepsSo l.kept l.bytes.items text
