-- What a list of commands and its replies say of tables and of plain lists.
use Rattle.std.specs.Prelude.{◌≡◌, ℕ, List, [], ◌∷◌, Option, IsTrue, map, string_bytes}
use Rattle.sqlite.specs.State.{State, HasCleanDisk}
use Rattle.store_table.specs.Moves.{Stands}
use Rattle.serde_json.specs.View.{view as data_of}
use Rattle.store_question.specs.Filters.{filter_of, path_of}
use Rattle.bson_model.specs.View.{view}
use Rattle.store_table.specs.Rows.{TableRow}
use Rattle.store_model.specs.Reading.{Documents, Reading, ReadsBytes, ReadsStream, ReadsTree, ReadsTrees, read_value}
use Rattle.store_model.specs.Same.{SameCommands}
use Rattle.store_model.specs.State as model
use Rattle.store_model.specs.declared.error.ErrorKind.{ErrorKind}
use Rattle.store_model.specs.Run.{Denials, Run, SparesDecided}
use Rattle.store_model.specs.Table.{DocumentTable, IsRefusal, RunThrough, state_of}
use Rattle.bson_store.specs.Shown.{Represents}
use Rattle.bson_store.specs.Calls.{Does}
use Rattle.bson_store.specs.Export.{bytes_of_each}
use Rattle.bson_store.specs.Many.{DoesMany}
use Rattle.bson_store.specs.declared.command.Command.{Command}
use Rattle.bson_store.specs.declared.command.Command.TheVariants.{InsertRaw, InsertJson, ReplaceRaw, ReplaceJson, Set, Unset, Remove, GetRaw, GetJson, Collections, Find, Project, Export, Import, LoadJson, DumpJson}
use Rattle.bson_store.specs.declared.command.Command.TheVariants as commands
use Rattle.bson_store.specs.declared.command.Reply.{Reply}
use Rattle.bson_store.specs.declared.command.Reply.TheVariants.{Done, Flag, Bytes, Json, Count, BytesList, JsonList, Names, Refused}

-- many documents stand for what they read as
abbrev pub AsksMany : List ℕ → (Documents → Option ErrorKind → Type 0) → model.Command → Type 0
AsksMany n Reads c = (ds : Documents) × (stop : Option ErrorKind) × Reads ds stop × (c ≡ model.on n (model.import ds stop))

-- bytes stand for what they read as, and so does JSON
abbrev pub Asks : Command → model.Command → Type 0
Asks (InsertRaw name bytes) c = (a : Reading) × ReadsBytes bytes.items a × (c ≡ model.on (string_bytes name) (model.insert model.in_bytes a))
Asks (InsertJson name json) c = (a : Reading) × ReadsTree (data_of json) a × (c ≡ model.on (string_bytes name) (model.insert model.in_json a))
Asks (ReplaceRaw name bytes) c = (a : Reading) × ReadsBytes bytes.items a × (c ≡ model.on (string_bytes name) (model.replace model.in_bytes a))
Asks (ReplaceJson name json) c = (a : Reading) × ReadsTree (data_of json) a × (c ≡ model.on (string_bytes name) (model.replace model.in_json a))
Asks (Set name id key value) c = c ≡ model.on (string_bytes name) (model.set (view id) (string_bytes key) (read_value (data_of value)))
Asks (Unset name id key) c = c ≡ model.on (string_bytes name) (model.unset (view id) (string_bytes key))
Asks (Remove name id) c = c ≡ model.on (string_bytes name) (model.remove (view id))
Asks (GetRaw name id) c = c ≡ model.on (string_bytes name) (model.get_raw (view id))
Asks (GetJson name id mode) c = c ≡ model.on (string_bytes name) (model.get_json mode (view id))
Asks Collections c = c ≡ model.collections
Asks (Find name filter) c = c ≡ model.on (string_bytes name) (model.find (filter_of filter))
Asks (commands.Count name filter) c = c ≡ model.on (string_bytes name) (model.count (filter_of filter))
Asks (Project name filter keys) c = c ≡ model.on (string_bytes name) (model.project (filter_of filter) (path_of keys.items))
Asks (Export name) c = c ≡ model.on (string_bytes name) model.export
Asks (Import name bytes) c = AsksMany (string_bytes name) (ReadsStream bytes.items) c
Asks (LoadJson name trees) c = AsksMany (string_bytes name) (ReadsTrees (map data_of trees.items)) c
Asks (DumpJson name) c = c ≡ model.on (string_bytes name) model.dump

abbrev pub AsksEach : List Command → List model.Command → Type 0
AsksEach [] [] = Unit {0}
AsksEach (x ∷ xs) (c ∷ cs) = Asks x c × AsksEach xs cs
AsksEach [] (c ∷ cs) = ⊥
AsksEach (x ∷ xs) [] = ⊥

-- whatever the two lists of commands are read as, these are commands as `AreCommands` says, and mean the same
abbrev pub MeanTheSame : List Command → List Command → Type 0
MeanTheSame xs ys = (cs : List model.Command) (ds : List model.Command) → AsksEach xs cs → AsksEach ys ds → SameCommands cs ds × model.AreCommands cs × model.AreCommands ds

abbrev pub reply_of : Reply → model.Reply
reply_of Done = model.done
reply_of (Flag b) = model.flag b
reply_of (Count i) = model.number i
reply_of (Bytes v) = model.bytes v.items
reply_of (BytesList v) = model.bytes_list (bytes_of_each v.items)
reply_of (Json j) = model.json (data_of j)
reply_of (JsonList v) = model.json_list (map data_of v.items)
reply_of (Names v) = model.names (map string_bytes v.items)
reply_of (Refused e) = model.refused e.kind e.document

-- an accepted reply, and a list that ends in one
abbrev pub IsAccepted : Reply → Type 0
IsAccepted r = IsRefusal (reply_of r) → ⊥

abbrev pub EndsAccepted : List Reply → Type 0
EndsAccepted [] = ⊥
EndsAccepted (r ∷ []) = IsAccepted r
EndsAccepted (r ∷ q ∷ rs) = EndsAccepted (q ∷ rs)

-- an accepted command was on an open connection, which stays open
abbrev pub WasOpenFor : Reply → State → State → Type 0
WasOpenFor r old new = IsAccepted r → HasCleanDisk new → (docs : List TableRow) → Stands old docs → IsTrue old.is_open × IsTrue new.is_open

-- if the last command was accepted, the connection is open, so it shows rows
abbrev pub EndsOpen : List Reply → State → State → Type 0
EndsOpen replies old new = EndsAccepted replies → HasCleanDisk new → (docs : List TableRow) → Stands old docs → IsTrue new.is_open

-- an export into memory
abbrev pub Exported : List ℕ → Reply → List TableRow → List TableRow → Type 0
Exported n r = Does (model.on n model.export) (reply_of r)

-- an import from memory
abbrev pub Imported : List ℕ → List ℕ → Reply → List TableRow → List TableRow → Type 0
Imported n bytes r = DoesMany n (ReadsStream bytes) (reply_of r)

-- one of the commands
abbrev pub Obeys : Command → Reply → List TableRow → List TableRow → Type 0
Obeys x r old new = (c : model.Command) × Asks x c × Does c (reply_of r) old new

-- a command whose call is lent all that it names
abbrev pub IsLent : Command → Type 0
IsLent (InsertJson name json) = ⊥
IsLent (ReplaceJson name json) = ⊥
IsLent (Set name id key value) = ⊥
IsLent (LoadJson name trees) = ⊥
IsLent _ = Unit {0}

-- a run of the commands through tables, from a to one that the rows show
pub record RunsFrom (a : DocumentTable) (commands : List Command) (replies : List Reply) (docs : List TableRow) : Type 0 where
  pub b : DocumentTable
  pub shown : Represents docs b
  pub asked : List model.Command
  pub asks : AsksEach commands asked
  pub denials : Denials
  pub run : RunThrough denials 0 a asked (map reply_of replies) b

-- whatever table the rows showed
abbrev pub AnswersThroughTables : List Command → List Reply → List TableRow → List TableRow → Type 0
AnswersThroughTables commands replies old new = (a : DocumentTable) → Represents old a → RunsFrom a commands replies new

-- The same on plain lists: what was denied spares each command that is decided before anything grows.
pub record RunsOnLists (a : DocumentTable) (commands : List Command) (replies : List Reply) (docs : List TableRow) : Type 0 where
  pub b : DocumentTable
  pub shown : Represents docs b
  pub asked : List model.Command
  pub asks : AsksEach commands asked
  pub denials : Denials
  pub spared : SparesDecided denials 0 asked
  pub run : Run denials 0 (state_of a) asked (map reply_of replies) (state_of b)

abbrev pub AnswersAsLists : List Command → List Reply → List TableRow → List TableRow → Type 0
AnswersAsLists commands replies old new = (a : DocumentTable) → Represents old a → RunsOnLists a commands replies new
