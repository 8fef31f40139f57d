-- The names of the kinds of refusals, and the refusals that calls report.
use Rattle.std.specs.Prelude.{ℕ, List, Some, None, codes}
use Rattle.bson_base.specs.declared.whole.ReadAllError.{ReadAllError}
use Rattle.bson_base.specs.declared.whole.ReadAllError.TheVariants as reads
use Rattle.store_model.specs.declared.error.ErrorKind.{ErrorKind}
use Rattle.store_model.specs.declared.error.ErrorKind.TheVariants as kind
use Rattle.store_model.specs.declared.error.StoreError.{StoreError}

abbrev pub kind_name : ErrorKind → List ℕ
kind_name kind.BadName = codes "BadName"
kind_name kind.BadKey = codes "BadKey"
kind_name kind.NotAnObject = codes "NotAnObject"
kind_name kind.JsonRefused = codes "JsonRefused"
kind_name kind.EndInside = codes "EndInside"
kind_name kind.BadLength = codes "BadLength"
kind_name kind.NotTerminated = codes "NotTerminated"
kind_name kind.Faulty = codes "Faulty"
kind_name kind.TooDeep = codes "TooDeep"
kind_name kind.Nul = codes "Nul"
kind_name kind.NoId = codes "NoId"
kind_name kind.TooLong = codes "TooLong"
kind_name kind.NotFound = codes "NotFound"
kind_name kind.DuplicateId = codes "DuplicateId"
kind_name kind.ReservedKey = codes "ReservedKey"
kind_name kind.FiniteDouble = codes "FiniteDouble"
kind_name kind.NotAStore = codes "NotAStore"
kind_name (kind.BadRow place) = codes "BadRow"
kind_name kind.Memory = codes "Memory"
kind_name kind.Database = codes "Database"
kind_name kind.Places = codes "Places"
kind_name kind.Reader = codes "Reader"
kind_name kind.Writer = codes "Writer"
kind_name (kind.IdsCollide first second) = codes "IdsCollide"

-- a refusal of a call of one document
abbrev pub refusal : ErrorKind → StoreError
refusal k = record { kind = k; document = None }

-- the refusal of the document at a place; Memory has none
abbrev pub refusal_at : ErrorKind → ℕ → StoreError
refusal_at kind.Memory i = refusal kind.Memory
refusal_at k i = record { kind = k; document = Some i }

-- why a source wasn't read to its end
abbrev pub kind_of_reading : ReadAllError → ErrorKind
kind_of_reading reads.Reader = kind.Reader
kind_of_reading reads.Memory = kind.Memory
