-- What is reported of arguments that can't be read.
use Rattle.std.specs.Prelude.{ℕ, ◌+◌, ◌-◌, ◌^◌, min, List, ◌++◌, codes, decimal, string_bytes}
use Rattle.bson_json_read.specs.declared.error.Error.{Error}
use Rattle.bson_json_read.specs.declared.error.Error.TheVariants as reading
use Rattle.store_question_read.specs.declared.error.QueryError.{QueryError}
use Rattle.store_question_read.specs.declared.error.QueryError.TheVariants as querying
use Rattle.store_question_read.specs.declared.update_error.ReadError.{ReadError}
use Rattle.store_question_read.specs.declared.update_error.ReadError.TheVariants as updating
use Rattle.store_question_read.specs.declared.update_error.Reason.{Reason}
use Rattle.store_question_read.specs.declared.update_error.Reason.TheVariants as reasons
use Rattle.fallowtime_requests.specs.declared.unread.Unread.{Unread}
use Rattle.fallowtime_requests.specs.declared.unread.Unread.TheVariants.{Command, Arguments, Collection, Document, DocumentAt, Id, Key, Value, Query, Update, Equalities, Options, Stages, Fields, Path, Stream}

-- a byte's place, counted from 1
abbrev pub byte_text : ℕ → List ℕ
byte_text n = codes " byte " ++ decimal (min (n + 1) (2 ^ 64 - 1))

abbrev pub error_text : Error → List ℕ
error_text (reading.NotJson n) = byte_text n ++ codes " NotJson"
error_text reading.RepeatedKey = codes " RepeatedKey"
error_text (reading.InvalidObjectId e) = codes " InvalidObjectId"
error_text reading.NumberOutOfRange = codes " NumberOutOfRange"
error_text reading.NotExtendedJson = codes " NotExtendedJson"
error_text reading.Memory = codes " Memory"

abbrev pub query_text : QueryError → List ℕ
query_text (querying.Json n) = byte_text n ++ codes " NotJson"
query_text querying.RepeatedKey = codes " RepeatedKey"
query_text querying.Query = codes " is no object"
query_text (querying.Operator name) = codes " no operator " ++ (string_bytes name ++ codes "")
query_text (querying.Operand key) = codes " " ++ (string_bytes key ++ codes " takes no such value")
query_text querying.Memory = codes " Memory"

abbrev pub reason_text : Reason → List ℕ
reason_text reasons.Path = codes " is no path of keys"
reason_text reasons.Id = codes " is of the _id, which is never changed"
reason_text reasons.Conflict = codes " meets another path"
reason_text reasons.Operand = codes " takes no such value"

-- an operator, a path, and why it isn't made there
abbrev pub fault_text : Reason → List ℕ → List ℕ → List ℕ
fault_text r name path = codes " " ++ (name ++ codes " ") ++ path ++ reason_text r

abbrev pub update_text : ReadError → List ℕ
update_text (updating.Json n) = byte_text n ++ codes " NotJson"
update_text updating.RepeatedKey = codes " RepeatedKey"
update_text updating.Update = codes " is no object"
update_text (updating.Operator name) = codes " no operator " ++ (string_bytes name ++ codes "")
update_text (updating.Fields name) = codes " " ++ (string_bytes name ++ codes " takes an object of paths")
update_text (updating.At r name path) = fault_text r (string_bytes name) (string_bytes path)
update_text updating.Memory = codes " Memory"

-- which of the arguments it is, as the answer to a line has it
abbrev pub at_text : Unread → List ℕ
at_text Command = codes "command"
at_text Arguments = codes "arguments"
at_text Collection = codes "collection"
at_text (Document e) = codes "document"
at_text (DocumentAt i) = codes "document " ++ decimal i
at_text (Id e) = codes "id"
at_text Key = codes "key"
at_text (Value e) = codes "value"
at_text (Query e) = codes "query" ++ query_text e
at_text (Update e) = codes "update" ++ update_text e
at_text (Equalities e) = codes "query" ++ update_text e
at_text Options = codes "options"
at_text Stages = codes "stages"
at_text Fields = codes "fields"
at_text Path = codes "path"
at_text Stream = codes "stream"

-- what can't be read, and why
abbrev pub why_text : Unread → List ℕ
why_text Command = codes "usage"
why_text Arguments = codes "usage"
why_text (Document e) = codes "JSON" ++ error_text e
why_text (Value e) = codes "JSON" ++ error_text e
why_text (Id e) = codes "id" ++ error_text e
why_text u = at_text u

-- the line that the program reports of words
abbrev pub unread_text : Unread → List ℕ
unread_text u = (codes "words: " ++ why_text u) ++ codes "\n"
