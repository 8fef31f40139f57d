-- MongoDB's errors: their numbers and their names (MongoDB's list of error codes).
use Rattle.std.specs.Prelude.{ℤ, pos, ℕ, List, codes}
use Rattle.fallowtime_statements.specs.declared.fault.Code.{Code}
use Rattle.fallowtime_statements.specs.declared.fault.Code.TheVariants as code
use Rattle.store_model.specs.declared.error.ErrorKind.{ErrorKind}
use Rattle.store_model.specs.declared.error.ErrorKind.TheVariants as kind
use Rattle.store_update.specs.declared.error.UpdateError.{UpdateError}
use Rattle.store_update.specs.declared.error.UpdateError.TheVariants as updates

abbrev pub code_number : Code → ℤ
code_number code.InternalError = pos 1
code_number code.BadValue = pos 2
code_number code.TypeMismatch = pos 14
code_number code.ProtocolError = pos 17
code_number code.IllegalOperation = pos 20
code_number code.NamespaceNotFound = pos 26
code_number code.IndexNotFound = pos 27
code_number code.CursorNotFound = pos 43
code_number code.NamespaceExists = pos 48
code_number code.CommandNotFound = pos 59
code_number code.ImmutableField = pos 66
code_number code.InvalidOptions = pos 72
code_number code.InvalidNamespace = pos 73
code_number code.ExceededMemoryLimit = pos 146
code_number code.NotImplemented = pos 238
code_number code.DocumentTooLarge = pos 10334
code_number code.DuplicateKey = pos 11000
code_number code.UnknownField = pos 40415

abbrev pub code_name : Code → List ℕ
code_name code.InternalError = codes "InternalError"
code_name code.BadValue = codes "BadValue"
code_name code.TypeMismatch = codes "TypeMismatch"
code_name code.ProtocolError = codes "ProtocolError"
code_name code.IllegalOperation = codes "IllegalOperation"
code_name code.NamespaceNotFound = codes "NamespaceNotFound"
code_name code.IndexNotFound = codes "IndexNotFound"
code_name code.CursorNotFound = codes "CursorNotFound"
code_name code.NamespaceExists = codes "NamespaceExists"
code_name code.CommandNotFound = codes "CommandNotFound"
code_name code.ImmutableField = codes "ImmutableField"
code_name code.InvalidOptions = codes "InvalidOptions"
code_name code.InvalidNamespace = codes "InvalidNamespace"
code_name code.ExceededMemoryLimit = codes "ExceededMemoryLimit"
code_name code.NotImplemented = codes "NotImplemented"
code_name code.DocumentTooLarge = codes "BSONObjectTooLarge"
code_name code.DuplicateKey = codes "DuplicateKey"
code_name code.UnknownField = codes "Location40415"

-- what a refusal of the store is to MongoDB
abbrev pub code_of : ErrorKind → Code
code_of kind.DuplicateId = code.DuplicateKey
code_of kind.BadName = code.InvalidNamespace
code_of kind.TooLong = code.DocumentTooLarge
code_of kind.BadLength = code.DocumentTooLarge
code_of kind.Memory = code.ExceededMemoryLimit
code_of kind.Database = code.InternalError
code_of k = code.BadValue

-- what it is if a collection doesn't get another name: there are no documents to go, or some where they go to
abbrev pub rename_code : ErrorKind → Code
rename_code kind.NotFound = code.NamespaceNotFound
rename_code kind.DuplicateId = code.NamespaceExists
rename_code k = code_of k

-- what an update that isn't made of a document is
abbrev pub update_code : UpdateError → Code
update_code updates.Id = code.ImmutableField
update_code updates.NotANumber = code.TypeMismatch
update_code updates.Memory = code.ExceededMemoryLimit
update_code e = code.BadValue
