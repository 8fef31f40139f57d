-- What the program says of itself and of its commands.
use Rattle.std.specs.Prelude.{◌≡◌, ℕ, List, [], ◌∷◌, ◌++◌, ◌-◌, codes, length, map, replicate, Bool, true, false, if◌then◌else◌, Option, Some, None}
use Rattle.fallowtime_words.specs.Commands.{commands}
use Rattle.fallowtime_words.specs.declared.command.Command.{Command}
use Rattle.fallowtime_words.specs.declared.table.Place.{Place}
use Rattle.fallowtime_words.specs.declared.table.Place.TheVariants.{Both, CommandLine, Session, Alone, Script}
use Rattle.fallowtime_words.specs.declared.table.Signature.{Signature}
use Rattle.fallowtime_words.specs.Usage.{call_behind, line_text}
use Rattle.fallowtime_words.specs.declared.texts.TheConstants.{BACK, FRONT, VERSION}
use Rattle.fallowtime_words.specs.declared.topic.Topic.{Topic}
use Rattle.fallowtime_words.specs.declared.topic.Topic.TheVariants as topic

-- a text with spaces behind it, up to a column
abbrev pub padded : ℕ → List ℕ → List ℕ
padded column text = text ++ replicate (column - length text) 32

-- whether a command that is one there is done over a file, by a command line
abbrev pub has_file : Place → Bool
has_file Both = true
has_file CommandLine = true
has_file Session = false
has_file Alone = false
has_file Script = true

-- what a command is called with, and what it does, two spaces behind that at the least
abbrev pub row_text : Signature → List ℕ
row_text row = padded 30 (call_behind (codes "  ") row.command ++ codes "  ") ++ row.about.now ++ codes "\n"

abbrev pub rows_text : List Signature → List ℕ
rows_text [] = []
rows_text (row ∷ rows) = (if has_file row.place then row_text row else []) ++ rows_text rows

-- what the program does: between two texts, the rows of all commands, in the order of the table
abbrev pub IsOverview : List ℕ → Type 0
IsOverview text = (rows : List Signature) × (map (λ row. row.command) rows ≡ commands) × (text ≡ FRONT.now ++ rows_text rows ++ BACK.now)

-- what a command takes: its words on the first line, what it does, and what is said of every command
abbrev pub IsHelpOf : Command → List ℕ → Type 0
IsHelpOf c text = (does more : List ℕ) × (text ≡ line_text c ++ codes "\n" ++ does ++ more)

-- what is told of a topic, if anything is
abbrev pub Tells : Topic → Option (List ℕ) → Type 0
Tells topic.Program told = (text : List ℕ) × (told ≡ Some text) × IsOverview text
Tells topic.Version told = told ≡ Some VERSION.now
Tells (topic.Command c) told = (text : List ℕ) × (told ≡ Some text) × IsHelpOf c text
Tells topic.Kinds told = told ≡ None
Tells (topic.Kind kind) told = Unit {0}
