-- What the lines of JSON text stand for that `load` reads.
use Rattle.std.specs.Prelude.{◌≡◌, ◌≢◌, ℕ, ◌+◌, ◌==◌, List, [], ◌∷◌, ◌++◌, Option, Some, None, Result, Ok, Err, length, IsUtf8}
use Rattle.std.specs.List.{slice_split}
use Rattle.serde_json.specs.Data.{Data}
use Rattle.serde_json.specs.Read.{read as data_of_text}
use Rattle.serde_json.specs.View.{view as data_of}
use Rattle.serde_json.specs.declared.value.Value.{Value as Json}
use Rattle.cli_commands.specs.declared.word_texts.TextError.{TextError}
use Rattle.cli_commands.specs.declared.word_texts.TextError.TheVariants.{Unreadable, Memory}

-- ---- one line

-- the line is the text of the tree
abbrev pub IsTreeLine : List ℕ → Data → Type 0
IsTreeLine line j = IsUtf8 line × (data_of_text line ≡ Some j)

-- the line has a byte, and is the text of no tree
abbrev pub IsBadLine : List ℕ → Type 0
IsBadLine line = (line ≢ []) × ((j : Data) → IsTreeLine line j → ⊥)

-- a line without a byte has no tree, and another is the text of one, or of none; or out of memory
abbrev pub AnswersLineTree : List ℕ → Result (Option Json) TextError → Type 0
AnswersLineTree line (Ok None) = line ≡ []
AnswersLineTree line (Ok (Some j)) = (line ≢ []) × IsTreeLine line (data_of j)
AnswersLineTree line (Err Unreadable) = IsBadLine line
AnswersLineTree line (Err Memory) = Unit {0}

-- ---- all lines

-- bytes cut at each line feed
abbrev pub lines_in : List ℕ → List (List ℕ)
lines_in bytes = slice_split (λ b. b == 10) bytes

-- the trees of the lines, in their order
abbrev pub HaveTrees : List (List ℕ) → List Data → Type 0
HaveTrees [] js = js ≡ []
HaveTrees ([] ∷ lines) js = HaveTrees lines js
HaveTrees ((b ∷ bs) ∷ lines) js = (j : Data) × (more : List Data) × (js ≡ j ∷ more) × IsTreeLine (b ∷ bs) j × HaveTrees lines more

-- the line at this place, counted from 1, is the first that can't be read
abbrev pub IsFirstBadLine : List (List ℕ) → ℕ → Type 0
IsFirstBadLine lines n =
    (front : List (List ℕ)) × (line : List ℕ) × (back : List (List ℕ)) × (js : List Data) × (lines ≡ front ++ line ∷ back) × HaveTrees front js × IsBadLine line × (n ≡ length front + 1)
