-- What the keys of a command's document are to it (MongoDB's manual, the page of each command).
use Rattle.std.specs.Prelude.{◌≡◌, Bool, true, false, ◌||◌, ℕ, List, [], ◌∷◌, codes, Option, Some, None, if◌then◌else◌, string_bytes}
use Rattle.std.specs.Str.{bytes_eq}
use Rattle.bson_base.specs.Value.{Value, Members, array, boolean, document, no_items, no_members, member, null, scalar}
use Rattle.fallowtime_statements.specs.declared.fault.Code.{Code}
use Rattle.fallowtime_statements.specs.declared.fault.Code.TheVariants as code
use Rattle.fallowtime_statements.specs.declared.fault.Fault.{Fault}
use Rattle.fallowtime_statements.specs.declared.fault.Fault.TheVariants.{Memory, Refused}
use Rattle.fallowtime_statements.specs.declared.name.Name.{Name}
use Rattle.fallowtime_statements.specs.declared.name.Name.TheVariants as name
use Rattle.fallowtime_statements.specs.declared.fields.Standing.{Standing}
use Rattle.fallowtime_statements.specs.declared.fields.Standing.TheVariants as standing

abbrev pub is_among : List (List ℕ) → List ℕ → Bool
is_among [] key = false
is_among (k ∷ ks) key = bytes_eq key k || is_among ks key

-- the first key, which names a command
abbrev pub first_key : Members → Option (List ℕ)
first_key no_members = None
first_key (member k v ms) = Some k

-- the names of a command; a statement in a list has none
abbrev pub names_of : Name → List (List ℕ)
names_of name.Hello = codes "hello" ∷ codes "isMaster" ∷ codes "ismaster" ∷ []
names_of name.Ping = codes "ping" ∷ []
names_of name.BuildInfo = codes "buildInfo" ∷ codes "buildinfo" ∷ []
names_of name.EndSessions = codes "endSessions" ∷ []
names_of name.Insert = codes "insert" ∷ []
names_of name.Find = codes "find" ∷ []
names_of name.Count = codes "count" ∷ []
names_of name.Update = codes "update" ∷ []
names_of name.Delete = codes "delete" ∷ []
names_of name.Aggregate = codes "aggregate" ∷ []
names_of name.FindAndModify = codes "findAndModify" ∷ []
names_of name.Distinct = codes "distinct" ∷ []
names_of name.ListCollections = codes "listCollections" ∷ []
names_of name.Create = codes "create" ∷ []
names_of name.Drop = codes "drop" ∷ []
names_of name.RenameCollection = codes "renameCollection" ∷ []
names_of name.CreateIndexes = codes "createIndexes" ∷ []
names_of name.ListIndexes = codes "listIndexes" ∷ []
names_of name.DropIndexes = codes "dropIndexes" ∷ []
names_of name.ListDatabases = codes "listDatabases" ∷ []
names_of name.GetMore = codes "getMore" ∷ []
names_of name.KillCursors = codes "killCursors" ∷ []
names_of n = []

-- the command that a document asks for whose first key this is
abbrev pub named : List ℕ → Option Name
named key =
    if is_among (names_of name.Hello) key then Some name.Hello
    else if is_among (names_of name.Ping) key then Some name.Ping
    else if is_among (names_of name.BuildInfo) key then Some name.BuildInfo
    else if is_among (names_of name.EndSessions) key then Some name.EndSessions
    else if is_among (names_of name.Insert) key then Some name.Insert
    else if is_among (names_of name.Find) key then Some name.Find
    else if is_among (names_of name.Count) key then Some name.Count
    else if is_among (names_of name.Update) key then Some name.Update
    else if is_among (names_of name.Delete) key then Some name.Delete
    else if is_among (names_of name.Aggregate) key then Some name.Aggregate
    else if is_among (names_of name.FindAndModify) key then Some name.FindAndModify
    else if is_among (names_of name.Distinct) key then Some name.Distinct
    else if is_among (names_of name.ListCollections) key then Some name.ListCollections
    else if is_among (names_of name.Create) key then Some name.Create
    else if is_among (names_of name.Drop) key then Some name.Drop
    else if is_among (names_of name.RenameCollection) key then Some name.RenameCollection
    else if is_among (names_of name.CreateIndexes) key then Some name.CreateIndexes
    else if is_among (names_of name.ListIndexes) key then Some name.ListIndexes
    else if is_among (names_of name.DropIndexes) key then Some name.DropIndexes
    else if is_among (names_of name.ListDatabases) key then Some name.ListDatabases
    else if is_among (names_of name.GetMore) key then Some name.GetMore
    else if is_among (names_of name.KillCursors) key then Some name.KillCursors
    else None

-- those that every command may have and that change nothing here: sessions, times, comments, which server reads, indexes
abbrev pub passed_over : List (List ℕ)
passed_over =
    codes "lsid" ∷ codes "$readPreference" ∷ codes "$clusterTime" ∷ codes "readConcern" ∷ codes "writeConcern" ∷ codes "comment" ∷ codes "maxTimeMS"
    ∷ codes "apiVersion" ∷ codes "apiStrict" ∷ codes "apiDeprecationErrors" ∷ codes "hint" ∷ codes "noCursorTimeout" ∷ codes "allowDiskUse"
    ∷ codes "bypassDocumentValidation" ∷ []

-- those that a driver sends as it greets
abbrev pub greeting : List (List ℕ)
greeting =
    codes "client" ∷ codes "compression" ∷ codes "helloOk" ∷ codes "topologyVersion" ∷ codes "maxAwaitTimeMS" ∷ codes "saslSupportedMechs"
    ∷ codes "speculativeAuthenticate" ∷ codes "loadBalanced" ∷ []

-- those of a transaction
abbrev pub of_transactions : List (List ℕ)
of_transactions = codes "txnNumber" ∷ codes "startTransaction" ∷ codes "autocommit" ∷ []

-- those that change what is found and that aren't had, unless they ask for nothing
abbrev pub not_had : List (List ℕ)
not_had =
    codes "collation" ∷ codes "filter" ∷ codes "min" ∷ codes "max" ∷ codes "let" ∷ codes "fields" ∷ codes "returnKey" ∷ codes "showRecordId"
    ∷ codes "tailable" ∷ codes "awaitData" ∷ codes "allowPartialResults" ∷ codes "oplogReplay" ∷ codes "arrayFilters" ∷ []

-- those that would change what a collection or an index stores, of which the same holds
abbrev pub of_stored : List (List ℕ)
of_stored =
    codes "capped" ∷ codes "timeseries" ∷ codes "validator" ∷ codes "viewOn" ∷ codes "unique" ∷ codes "sparse" ∷ codes "hidden" ∷ codes "expireAfterSeconds"
    ∷ codes "partialFilterExpression" ∷ codes "dropTarget" ∷ []

-- those that a command, or a statement in its list, reads, besides its own name
abbrev pub read_by : Name → List (List ℕ)
read_by name.Insert = codes "$db" ∷ codes "documents" ∷ codes "ordered" ∷ []
read_by name.Find = codes "$db" ∷ codes "filter" ∷ codes "sort" ∷ codes "projection" ∷ codes "skip" ∷ codes "limit" ∷ codes "batchSize" ∷ codes "singleBatch" ∷ []
read_by name.Count = codes "$db" ∷ codes "query" ∷ codes "skip" ∷ codes "limit" ∷ []
read_by name.Update = codes "$db" ∷ codes "updates" ∷ codes "ordered" ∷ []
read_by name.Delete = codes "$db" ∷ codes "deletes" ∷ codes "ordered" ∷ []
read_by name.Aggregate = codes "$db" ∷ codes "pipeline" ∷ codes "cursor" ∷ []
read_by name.FindAndModify = codes "$db" ∷ codes "query" ∷ codes "update" ∷ codes "remove" ∷ codes "new" ∷ codes "upsert" ∷ codes "sort" ∷ codes "fields" ∷ []
read_by name.Distinct = codes "$db" ∷ codes "key" ∷ codes "query" ∷ []
read_by name.ListCollections = codes "$db" ∷ codes "filter" ∷ []
read_by name.RenameCollection = codes "$db" ∷ codes "to" ∷ []
read_by name.CreateIndexes = codes "$db" ∷ codes "indexes" ∷ []
read_by name.DropIndexes = codes "$db" ∷ codes "index" ∷ []
read_by name.GetMore = codes "$db" ∷ codes "collection" ∷ codes "batchSize" ∷ []
read_by name.KillCursors = codes "$db" ∷ codes "cursors" ∷ []
read_by name.Change = codes "q" ∷ codes "u" ∷ codes "multi" ∷ codes "upsert" ∷ []
read_by name.Removal = codes "q" ∷ codes "limit" ∷ []
read_by name.Index = codes "key" ∷ codes "name" ∷ []
read_by n = codes "$db" ∷ []

abbrev pub passed_by : Name → List (List ℕ)
passed_by name.Hello = greeting
passed_by name.ListCollections = codes "cursor" ∷ codes "nameOnly" ∷ codes "authorizedCollections" ∷ []
passed_by name.ListIndexes = codes "cursor" ∷ []
passed_by name.ListDatabases = codes "nameOnly" ∷ codes "authorizedDatabases" ∷ []
passed_by name.CreateIndexes = codes "commitQuorum" ∷ []
passed_by name.Index = codes "v" ∷ codes "ns" ∷ codes "background" ∷ []
passed_by n = []

abbrev pub standing_of_other : List ℕ → Standing
standing_of_other key = if is_among of_stored key then standing.Unless else standing.Unknown

-- what a key is to a command
abbrev pub standing_of : Name → List ℕ → Standing
standing_of n key =
    if is_among (names_of n) key || is_among (read_by n) key then standing.Read
    else if is_among (passed_by n) key || is_among passed_over key then standing.Passed
    else if is_among of_transactions key then standing.Transaction
    else if is_among not_had key then standing.Unless
    else standing_of_other key

-- a value that asks for nothing
abbrev pub is_empty : Value → Bool
is_empty (document no_members) = true
is_empty (array no_items) = true
is_empty (scalar (boolean false)) = true
is_empty (scalar null) = true
is_empty v = false

-- why a key with this value keeps the command from being done, if it does
abbrev pub forbids : Standing → Value → Option Code
forbids standing.Read v = None
forbids standing.Passed v = None
forbids standing.Unless v = if is_empty v then None else Some code.NotImplemented
forbids standing.Transaction v = Some code.IllegalOperation
forbids standing.Unknown v = Some code.UnknownField

-- the first key that keeps the command from being done, and why
abbrev pub forbidden_by : Option Code → List ℕ → Option (Code × List ℕ) → Option (Code × List ℕ)
forbidden_by None key behind = behind
forbidden_by (Some c) key behind = Some (c, key)

abbrev pub forbidden : Name → Members → Option (Code × List ℕ)
forbidden n no_members = None
forbidden n (member key v ms) = forbidden_by (forbids (standing_of n key) v) key (forbidden n ms)

-- there is none
abbrev pub AreAllowed : Name → Members → Type 0
AreAllowed n ms = forbidden n ms ≡ None

-- it is named; or memory ran out
abbrev pub IsForbidden : Name → Members → Fault → Type 0
IsForbidden n ms (Refused c text) = forbidden n ms ≡ Some (c, string_bytes text)
IsForbidden n ms Memory = Unit {0}
