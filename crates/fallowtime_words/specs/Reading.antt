-- The words step by step, as the calls inside take them.
use Rattle.std.specs.Prelude.{◌≡◌, ℕ, List, [], ◌∷◌, codes, if◌then◌else◌, Option, Some, None}
use Rattle.std.specs.Str.{bytes_eq}
use Rattle.fallowtime_words.specs.Commands.{BeginsWith}
use Rattle.fallowtime_words.specs.declared.command.Command.{Command}
use Rattle.fallowtime_words.specs.declared.table.Signature.{Signature}

-- the command of the first of the rows that has this name
abbrev pub command_in : List Signature → List ℕ → Option Command
command_in [] name = None
command_in (row ∷ rows) name = if bytes_eq row.name.now name then Some row.command else command_in rows name

-- no word, or words of which the first begins with two hyphens
abbrev pub MayFollow : List (List ℕ) → Type 0
MayFollow words = (word : List ℕ) (more : List (List ℕ)) → words ≡ word ∷ more → BeginsWith (codes "--") word
