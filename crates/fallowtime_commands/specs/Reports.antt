-- The lines that are reported.
use Rattle.std.specs.Prelude.{ℕ, List, [], ◌++◌, Option, Some, None, String, codes, decimal, string_bytes}
use Rattle.std.specs.Fmt.{signed_decimal}
use Rattle.std.specs.declared.alloc.Global.{Global}
use Rattle.cli_convert.specs.Shown.{shown}
use Rattle.store_model.specs.Refusal.{kind_name}
use Rattle.store_model.specs.declared.error.ErrorKind.{ErrorKind}
use Rattle.store_model.specs.declared.error.ErrorKind.TheVariants.{BadRow, IdsCollide}
use Rattle.store_model.specs.declared.error.StoreError.{StoreError}
use Rattle.store_update.specs.declared.error.UpdateError.{UpdateError}
use Rattle.store_update.specs.declared.error.UpdateError.TheVariants as updates
use Rattle.fallowtime_commands.specs.declared.refusal.Refusal.{Refusal}

-- a refusal without further details
abbrev pub plain : StoreError → Refusal
plain e = record { error = e; update = None; line = None; id = None; key = None }

-- a word and a text after it, if there is one
abbrev pub named_text : List ℕ → Option (String Global) → List ℕ
named_text word None = []
named_text word (Some text) = word ++ string_bytes text

-- a path to a key after its word, as a line may show it, if there is one
abbrev pub key_text : Option (String Global) → List ℕ
key_text None = []
key_text (Some path) = codes " key " ++ shown (string_bytes path)

-- the places of the rows that a kind names
abbrev pub rows_text : ErrorKind → List ℕ
rows_text (BadRow place) = codes " " ++ signed_decimal place
rows_text (IdsCollide first second) = (codes " " ++ signed_decimal first) ++ (codes " " ++ signed_decimal second)
rows_text k = []

abbrev pub document_text : Option ℕ → ErrorKind → List ℕ
document_text (Some i) k = codes " document " ++ decimal i
document_text None k = rows_text k

-- the line of the input, the number of the document, or the places of rows
abbrev pub line_text : Option ℕ → Refusal → List ℕ
line_text (Some n) r = codes " line " ++ decimal n
line_text None r = document_text r.error.document r.error.kind

abbrev pub place_text : Refusal → List ℕ
place_text r = line_text r.line r

-- the names of the refusals of updates
abbrev pub update_name : UpdateError → List ℕ
update_name updates.Memory = codes "Memory"
update_name updates.Id = codes "Id"
update_name updates.Through = codes "Through"
update_name updates.NotANumber = codes "NotANumber"
update_name updates.Decimal = codes "Decimal"
update_name updates.Overflow = codes "Overflow"
update_name updates.NotAnArray = codes "NotAnArray"

-- the name of the kind, or of why an update isn't made
abbrev pub name_by : ErrorKind → Option UpdateError → List ℕ
name_by k None = kind_name k
name_by k (Some e) = update_name e

abbrev pub name_of : Refusal → List ℕ
name_of r = name_by r.error.kind r.update

abbrev pub refusal_text : Refusal → List ℕ
refusal_text r = ((((codes "refused: " ++ name_of r) ++ place_text r) ++ named_text (codes " _id ") r.id) ++ key_text r.key) ++ codes "\n"
