-- What a command asks of the store, and how it is answered.
use Rattle.std.specs.Prelude.{◌≡◌, ◌⊎◌, ℕ, Bool, true, false, List, [], ◌∷◌, ◌++◌, codes, Option, Some, None, string_bytes}
use Rattle.std.specs.List.{AllZip}
use Rattle.std.specs.Option.{option_map}
use Rattle.std.specs.Str.{bytes_eq}
use Rattle.bson_base.specs.Value.{Value, Members, array, document, look_up, no_items, scalar, string}
use Rattle.bson_bytes.specs.Encode.{encode}
use Rattle.bson_message.specs.Parts.{AreDocuments}
use Rattle.bson_message.specs.declared.section.Sequence.{Sequence}
use Rattle.bson_model.specs.View.{content, items_of, view}
use Rattle.bson_model.specs.declared.extjson.ser.Mode.TheVariants.{Relaxed}
use Rattle.bson_store.specs.Export.{bytes_of_each}
use Rattle.fallowtime_words.specs.declared.command.Command.TheVariants as command
use Rattle.fallowtime_statements.specs.Batches.{AreNumbers, IsFurther, IsSize, IsSizeIn}
use Rattle.fallowtime_statements.specs.Changes.{IsChangeOf, IsRemovalOf}
use Rattle.fallowtime_statements.specs.Counting.{CountsIn, operand_of}
use Rattle.fallowtime_statements.specs.Fields.{AreAllowed, IsForbidden, first_key, is_empty, named}
use Rattle.fallowtime_statements.specs.Finding.{FindsIn}
use Rattle.fallowtime_statements.specs.Indexing.{ArePlainIndexes, IsToGo}
use Rattle.fallowtime_statements.specs.Lines.{IsCount, IsFind, IsLine, IsPart, IsTruth, IsWhole, line_of_one, line_of_two}
use Rattle.fallowtime_statements.specs.Modifying.{IsDistinct, IsFindAndModify, IsUpsert}
use Rattle.fallowtime_statements.specs.Staging.{IsAggregate}
use Rattle.fallowtime_statements.specs.Told as told
use Rattle.fallowtime_statements.specs.declared.plans.asked.Plan.{Plan}
use Rattle.fallowtime_statements.specs.declared.plans.asked.Plan.TheVariants as plan
use Rattle.fallowtime_statements.specs.declared.statement.Statement.{Statement}
use Rattle.fallowtime_statements.specs.declared.plans.asked.Way.TheVariants as way
use Rattle.fallowtime_statements.specs.declared.fault.Code.TheVariants as code
use Rattle.fallowtime_statements.specs.declared.fault.Fault.{Fault}
use Rattle.fallowtime_statements.specs.declared.fault.Fault.TheVariants.{Memory, Refused}
use Rattle.fallowtime_statements.specs.declared.name.Name.{Name}
use Rattle.fallowtime_statements.specs.declared.name.Name.TheVariants as name

-- the command is of the collection n of this database
abbrev pub IsOf : List ℕ → List ℕ → Members → List ℕ → Type 0
IsOf db key ms n = (look_up (codes "$db") ms ≡ Some (scalar (string db))) × (look_up key ms ≡ Some (scalar (string n)))

-- the name of a collection behind that of its database
abbrev pub namespace : List ℕ → List ℕ → List ℕ
namespace db n = db ++ (codes "." ++ n)

-- a value is that of the collection n
abbrev pub IsSpace : List ℕ → Option Value → List ℕ → Type 0
IsSpace db v n = v ≡ Some (scalar (string (namespace db n)))

-- a filter of collections lets all through, or one alone, by its name
abbrev pub IsWanted : Option Value → Option (List ℕ) → Type 0
IsWanted None None = Unit {0}
IsWanted None (Some n) = ⊥
IsWanted (Some v) None = is_empty v ≡ true
IsWanted (Some v) (Some n) = operand_of (codes "name") v ≡ Some (scalar (string n))

-- ---- lists

-- the written form of a value that is a document
abbrev pub IsWritten : Value → List ℕ → Type 0
IsWritten (document ms) d = d ≡ encode ms
IsWritten v d = ⊥

-- the documents of the list under this key: those of the only sequence beside the command, or of an array in it, and not of both
abbrev pub AreGiven : List ℕ → Members → List Sequence → List (List ℕ) → Type 0
AreGiven key ms [] ds = (vs : List Value) × (look_up key ms ≡ Some (array (items_of vs))) × AllZip IsWritten vs ds
AreGiven key ms (s ∷ []) ds = (s.name.now ≡ key) × AreDocuments s.documents.now ds × (look_up key ms ≡ None)
AreGiven key ms ss ds = ⊥

-- ---- plans

-- statements of this kind, one for each document of the list under a key
abbrev pub AsksWrites : (List ℕ → List ℕ → Statement → Type 0) → List ℕ → List ℕ → List ℕ → Members → List Sequence → List Statement → Bool → Type 0
AsksWrites Is db key items ms ss list ordered =
    (n : List ℕ) × (ds : List (List ℕ)) × IsOf db key ms n × AreGiven items ms ss ds × AllZip (Is n) ds list × IsTruth true (look_up (codes "ordered") ms) ordered

-- a pipeline that counts is the line of `count`
abbrev pub AsksGroup : List ℕ → Members → List ℕ → Value → ℕ → ℕ → Statement → Type 0
AsksGroup db ms space id skip most s =
    (n : List ℕ) × (q : Members) × IsOf db (codes "aggregate") ms n × CountsIn (look_up (codes "pipeline") ms) q skip most id
    × IsLine Relaxed command.Count (line_of_two n q) s × (space ≡ namespace db n)

-- a pipeline that finds is the line of `find`
abbrev pub AsksFinding : List ℕ → Members → List ℕ → Statement → Type 0
AsksFinding db ms space s = (n : List ℕ) × (parts : Members) × IsOf db (codes "aggregate") ms n × FindsIn (look_up (codes "pipeline") ms) parts × (look_up (codes "out") parts ≡ None) × IsFind parts n s × (space ≡ namespace db n)

-- any pipeline is the line of `aggregate`
abbrev pub AsksStages : List ℕ → Members → List ℕ → Statement → Type 0
AsksStages db ms space s = (n : List ℕ) × IsOf db (codes "aggregate") ms n × IsAggregate (look_up (codes "pipeline") ms) n s × (space ≡ namespace db n)

-- what is found goes into a collection: a count of that, and the line of `find`
abbrev pub AreOut : Members → List ℕ → List ℕ → List Statement → Type 0
AreOut parts n target (count ∷ find ∷ []) = IsCount None target count × IsFind parts n find
AreOut parts n target ss = ⊥

abbrev pub is_text : List ℕ → Option Value → Bool
is_text text (Some (scalar (string own))) = bytes_eq own text
is_text text v = false

-- a `readConcern` that no pipeline may have which writes
abbrev pub is_linear : Option Value → Bool
is_linear (Some (document ms)) = is_text (codes "linearizable") (look_up (codes "level") ms)
is_linear v = false

-- a pipeline that ends with `{$out: TARGET}`
abbrev pub AsksOut : List ℕ → Members → List ℕ → List ℕ → List Statement → Type 0
AsksOut db ms target space ss =
    (n : List ℕ) × (parts : Members) × IsOf db (codes "aggregate") ms n × FindsIn (look_up (codes "pipeline") ms) parts × (look_up (codes "out") parts ≡ Some (scalar (string target)))
    × (is_linear (look_up (codes "readConcern") ms) ≡ false) × AreOut parts n target ss × (space ≡ namespace db n)

abbrev pub AsksBy : Name → List ℕ → Members → List Sequence → Plan → Type 0
AsksBy name.Hello db ms ss (plan.Told d) = content d ≡ told.hello
AsksBy name.Ping db ms ss (plan.Told d) = content d ≡ told.ping
AsksBy name.EndSessions db ms ss (plan.Told d) = content d ≡ told.ping
AsksBy name.BuildInfo db ms ss (plan.Told d) = content d ≡ told.build_info
AsksBy name.Count db ms ss (plan.One s (way.Counted skip most)) = (n : List ℕ) × IsOf db (codes "count") ms n × IsCount (look_up (codes "query") ms) n s × IsPart ms skip most
AsksBy name.Find db ms ss (plan.One s (way.Found space size single)) =
    (n : List ℕ) × IsOf db (codes "find") ms n × IsFind ms n s × (string_bytes space ≡ namespace db n) × IsSize (look_up (codes "batchSize") ms) size × IsTruth false (look_up (codes "singleBatch") ms) single
AsksBy name.Insert db ms ss (plan.Inserts n ds ordered) = IsOf db (codes "insert") ms (string_bytes n) × AreGiven (codes "documents") ms ss (bytes_of_each ds.items) × IsTruth true (look_up (codes "ordered") ms) ordered
AsksBy name.Update db ms ss (plan.Writes list ordered changed) = AsksWrites IsChangeOf db (codes "update") (codes "updates") ms ss list.items ordered × (changed ≡ true)
AsksBy name.Delete db ms ss (plan.Writes list ordered changed) = AsksWrites IsRemovalOf db (codes "delete") (codes "deletes") ms ss list.items ordered × (changed ≡ false)
AsksBy name.Aggregate db ms ss (plan.One s (way.Grouped space id skip most)) = AsksGroup db ms (string_bytes space) (view id) skip most s
AsksBy name.Aggregate db ms ss (plan.One s (way.Found space size single)) = (AsksFinding db ms (string_bytes space) s ⊎ AsksStages db ms (string_bytes space) s) × IsSizeIn (look_up (codes "cursor") ms) size × (single ≡ false)
AsksBy name.Aggregate db ms ss (plan.Outs target space list) = AsksOut db ms (string_bytes target) (string_bytes space) list.items
AsksBy name.FindAndModify db ms ss (plan.One s (way.Modified removes)) =
    (n : List ℕ) × IsOf db (codes "findAndModify") ms n × IsTruth false (look_up (codes "remove") ms) removes
    × IsTruth false (look_up (codes "upsert") ms) false × IsFindAndModify removes ms n s
AsksBy name.FindAndModify db ms ss (plan.Upserts list) =
    (n : List ℕ) × IsOf db (codes "findAndModify") ms n × IsTruth false (look_up (codes "remove") ms) false
    × IsTruth false (look_up (codes "upsert") ms) true × IsUpsert ms n list.items
AsksBy name.Distinct db ms ss (plan.One s way.Different) = (n : List ℕ) × IsOf db (codes "distinct") ms n × IsDistinct ms n s
AsksBy name.ListCollections db ms ss (plan.One s (way.Named space only)) =
    (look_up (codes "$db") ms ≡ Some (scalar (string db))) × IsLine Relaxed command.Collections no_items s × (string_bytes space ≡ namespace db (codes "$cmd.listCollections"))
    × IsWanted (look_up (codes "filter") ms) (option_map string_bytes only)
AsksBy name.Create db ms ss (plan.One s way.Made) = (n : List ℕ) × IsOf db (codes "create") ms n × IsCount None n s
AsksBy name.Drop db ms ss (plan.One s (way.Dropped space)) = (n : List ℕ) × IsOf db (codes "drop") ms n × IsLine Relaxed command.Drop (line_of_one n) s × (string_bytes space ≡ namespace db n)
AsksBy name.RenameCollection db ms ss (plan.Renames n new) =
    (look_up (codes "$db") ms ≡ Some (scalar (string (codes "admin")))) × IsSpace db (look_up (codes "renameCollection") ms) (string_bytes n) × IsSpace db (look_up (codes "to") ms) (string_bytes new)
AsksBy name.ListIndexes db ms ss (plan.One s (way.Indexed space)) = (n : List ℕ) × IsOf db (codes "listIndexes") ms n × IsCount None n s × (string_bytes space ≡ namespace db n)
AsksBy name.DropIndexes db ms ss (plan.One s (way.Unindexed all)) = (n : List ℕ) × IsOf db (codes "dropIndexes") ms n × IsCount None n s × IsToGo (look_up (codes "index") ms) all
AsksBy name.CreateIndexes db ms ss (plan.Told d) = (n : List ℕ) × IsOf db (codes "createIndexes") ms n × ArePlainIndexes (look_up (codes "indexes") ms) × (content d ≡ told.indexed)
AsksBy name.ListDatabases db ms ss (plan.Told d) = content d ≡ told.databases db
AsksBy name.GetMore db ms ss (plan.More space id size) =
    (n : List ℕ) × IsOf db (codes "collection") ms n × (string_bytes space ≡ namespace db n) × IsWhole (look_up (codes "getMore") ms) id × IsFurther (look_up (codes "batchSize") ms) size
AsksBy name.KillCursors db ms ss (plan.Closes space ids) =
    (n : List ℕ) × IsOf db (codes "killCursors") ms n × (string_bytes space ≡ namespace db n) × AreNumbers (look_up (codes "cursors") ms) ids.items
AsksBy _ db ms ss p = ⊥

-- The command with these sequences beside it asks for this; no key of it is one that keeps it from being done.
abbrev pub Asks : List ℕ → Members → List Sequence → Plan → Type 0
Asks db ms ss p = (key : List ℕ) × (n : Name) × (first_key ms ≡ Some key) × (named key ≡ Some n) × AreAllowed n ms × AsksBy n db ms ss p

-- ---- refusals

-- no command has the name of the first key, which is named
abbrev pub HasNoName : Members → Fault → Type 0
HasNoName ms Memory = Unit {0}
HasNoName ms (Refused c text) = (c ≡ code.CommandNotFound)
    × (((first_key ms ≡ None) × (string_bytes text ≡ [])) ⊎ ((first_key ms ≡ Some (string_bytes text)) × (named (string_bytes text) ≡ None)))

-- why nothing is asked: there is no such command; a key keeps it from being done; or else a part of it can't be read
abbrev pub IsRefused : Members → Fault → Type 0
IsRefused ms f = HasNoName ms f ⊎ ((key : List ℕ) × (n : Name) × (first_key ms ≡ Some key) × (named key ≡ Some n) × (IsForbidden n ms f ⊎ AreAllowed n ms))
