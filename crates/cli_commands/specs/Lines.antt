-- The lines that the program prints.
use Rattle.std.specs.Prelude.{ℕ, List, [], ◌∷◌, ◌++◌, Bool, true, false, Option, Some, None, codes, decimal}
use Rattle.std.specs.Fmt.{signed_decimal}
use Rattle.std.specs.Borrow.{Bor}
use Rattle.store_model.specs.Refusal.{kind_name}
use Rattle.store_model.specs.declared.error.ErrorKind.{ErrorKind}
use Rattle.store_model.specs.declared.error.ErrorKind.TheVariants.{BadRow, IdsCollide}
use Rattle.cli_commands.specs.declared.lines.UsageError.{UsageError}
use Rattle.cli_commands.specs.declared.lines.UsageError.TheVariants.{Usage, Json, Id, Filter, Line}

-- the texts one after the other
abbrev pub concatenation : List (Bor (List ℕ)) → List ℕ
concatenation [] = []
concatenation (p ∷ ps) = p.now ++ concatenation ps

-- the text and a line feed
abbrev pub line : List ℕ → List ℕ
line text = text ++ 10 ∷ []

abbrev pub flag_text : Bool → List ℕ
flag_text true = codes "true"
flag_text false = codes "false"

-- the texts of two places
abbrev pub places_text : List ℕ → List ℕ → List ℕ
places_text first second = codes " " ++ (first ++ (codes " " ++ second))

abbrev pub collision_line : List ℕ → List ℕ → List ℕ → List ℕ
collision_line name first second = line (codes "refused: " ++ (name ++ places_text first second))

-- the document that is refused, or the place of a bad row, or those of two documents that collide
abbrev pub place_text : ErrorKind → Option ℕ → List ℕ
place_text k (Some i) = codes " document " ++ decimal i
place_text (BadRow place) None = codes " " ++ signed_decimal place
place_text (IdsCollide first second) None = places_text (signed_decimal first) (signed_decimal second)
place_text k None = []

abbrev pub refusal_line : ErrorKind → Option ℕ → List ℕ
refusal_line k i = line (codes "refused: " ++ (kind_name k ++ place_text k i))

abbrev pub complaint_text : UsageError → List ℕ
complaint_text Usage = codes "usage"
complaint_text Json = codes "JSON"
complaint_text Id = codes "id"
complaint_text Filter = codes "filter"
complaint_text (Line n) = codes "line " ++ decimal n

abbrev pub complaint_line : UsageError → List ℕ
complaint_line c = line (codes "words: " ++ complaint_text c)
