-- The requests that the lines of an input are, as the text of an array of them.
use Rattle.std.specs.Prelude.{◌≡◌, ◌⊎◌, ℕ, ◌+◌, suc, List, [], ◌∷◌, ◌++◌, Option, Result, Ok, Err, length, string_bytes}
use Rattle.json.specs.Json.{Json}
use Rattle.cli_convert.specs.Line.{IsUnbroken}
use Rattle.fallowtime_commands.specs.ListAnswers.{separated}
use Rattle.fallowtime_commands.specs.Objects.{comma_before}
use Rattle.fallowtime_commands.specs.Places.{place_text}
use Rattle.fallowtime_commands.specs.Turns.{HasNoTree, HasTree, IsEmptyLine}
use Rattle.fallowtime_commands.specs.declared.session.joining.Joined.{Joined}
use Rattle.fallowtime_commands.specs.declared.session.joining.JoinStop.{JoinStop}
use Rattle.fallowtime_commands.specs.declared.session.joining.JoinStop.TheVariants.{Line, Memory}
use Rattle.fallowtime_commands.specs.declared.session.places.Place.{Place}

-- ---- lines

-- the lines, each with its line feed
abbrev pub with_feeds : List (List ℕ) → List ℕ
with_feeds [] = []
with_feeds (l ∷ ls) = l ++ 10 ∷ with_feeds ls

-- the bytes begin with this line, and behind its line feed, if there is one, is the rest
abbrev pub BeginsWithLine : List ℕ → List ℕ → List ℕ → Type 0
BeginsWithLine bytes line rest = IsUnbroken line × ((bytes ≡ line ++ 10 ∷ rest) ⊎ ((bytes ≡ line) × (rest ≡ [])))

-- the text has no tree, as is seen at this place
abbrev pub HasNoTreeAt : List ℕ → List ℕ → Type 0
HasNoTreeAt text place = (id : Option Json) × HasNoTree text id place

-- no line has a line feed
abbrev pub AreUnbroken : List (List ℕ) → Type 0
AreUnbroken [] = Unit {0}
AreUnbroken (l ∷ ls) = IsUnbroken l × AreUnbroken ls

-- these lines come first in the bytes, and behind them is the rest; the last of all may lack its line feed
abbrev pub Begin : List (List ℕ) → List ℕ → List ℕ → Type 0
Begin ls bytes rest = AreUnbroken ls × ((bytes ≡ with_feeds ls ++ rest) ⊎ ((bytes ++ 10 ∷ [] ≡ with_feeds ls) × (rest ≡ [])))

-- ---- what is made of them

-- the texts of the lines that aren't empty, each of which is JSON, and their numbers, of which the first is k
abbrev pub AreTexts : ℕ → List (List ℕ) → List (List ℕ) → List ℕ → Type 0
AreTexts k [] texts numbers = (texts ≡ []) × (numbers ≡ [])
AreTexts k (l ∷ ls) texts numbers =
    (IsEmptyLine l × AreTexts (suc k) ls texts numbers)
    ⊎ (¬ IsEmptyLine l × ((j : Json) × HasTree l j) × ((ts : List (List ℕ)) × (ns : List ℕ) × AreTexts (suc k) ls ts ns × (texts ≡ l ∷ ts) × (numbers ≡ k ∷ ns)))

-- Of all lines the array is made; or these come first, and the next one has no tree.
abbrev pub JoinsAll : List ℕ → Result Joined JoinStop → Type 0
JoinsAll bytes (Ok joined) =
    (ls texts : List (List ℕ)) × Begin ls bytes [] × AreTexts 1 ls texts joined.lines.items × (string_bytes joined.text ≡ 91 ∷ (separated 0 texts ++ 93 ∷ []))
JoinsAll bytes (Err (Line n place)) =
    (ls texts : List (List ℕ)) × (numbers line left rest : List ℕ) × Begin ls bytes left × AreTexts 1 ls texts numbers × BeginsWithLine left line rest × HasNoTreeAt line (place_text place) × (n ≡ length ls + 1)
JoinsAll bytes (Err Memory) = Unit {0}

-- ---- its parts

-- a text is JSON
abbrev pub IsJson : List ℕ → Type 0
IsJson text = (j : Json) × HasTree text j

-- it has no tree, and the line with this number is reported; or it is out of memory
abbrev pub StopsLine : ℕ → List ℕ → JoinStop → Type 0
StopsLine k text (Line n place) = HasNoTreeAt text (place_text place) × (n ≡ k)
StopsLine k text Memory = Unit {0}

-- one more line, with this number, is behind the others, if it isn't empty
abbrev pub TakesLine : ℕ → List ℕ → Joined → Joined → Result (Unit {0}) JoinStop → Type 0
TakesLine k line old new (Ok x) =
    (IsEmptyLine line × (string_bytes new.text ≡ string_bytes old.text) × (new.lines.items ≡ old.lines.items))
    ⊎ (¬ IsEmptyLine line × IsJson line × (string_bytes new.text ≡ string_bytes old.text ++ (comma_before (length old.lines.items) ++ line)) × (new.lines.items ≡ old.lines.items ++ k ∷ []))
TakesLine k line old new (Err stop) = StopsLine k line stop
