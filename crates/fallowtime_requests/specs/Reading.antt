-- Why a command with its arguments asks for nothing: the first argument, in the order of the table of commands, that can't
-- be read, and why; or there are too few or too many.
use Rattle.std.specs.Prelude.{◌≡◌, ◌≢◌, ◌⊎◌, ℕ, Bool, List, [], ◌∷◌, Some, None, MatchOption, Ok, Err, Result}
use Rattle.json.specs.Find.{as_array}
use Rattle.json.specs.Json.{Json, Items, no_items, item, no_members, member, document as tree_of}
use Rattle.json.specs.Json as json
use Rattle.bson_base.specs.Value.{Value, Members, scalar, binary}
use Rattle.bson_base.specs.declared.spec.BinarySubtype.TheVariants.{Generic}
use Rattle.bson_json_read.specs.Outcome.{Fails}
use Rattle.bson_json_read.specs.Reading.{read, read_top, ReadsText, ReadsValueText}
use Rattle.bson_json_read.specs.declared.error.Error.{Error}
use Rattle.bson_json_read.specs.declared.error.Error.TheVariants as reading
use Rattle.cli_convert.specs.Ids.{id_of}
use Rattle.cli_convert.specs.Made.{date_of}
use Rattle.cli_convert.specs.declared.made.IdMaker.{IdMaker}
use Rattle.fallowtime_words.specs.Commands.{arguments}
use Rattle.fallowtime_words.specs.declared.command.Command.{Command}
use Rattle.fallowtime_words.specs.declared.command.Command.TheVariants as command
use Rattle.fallowtime_words.specs.declared.table.Argument.{Argument}
use Rattle.fallowtime_words.specs.declared.table.Argument.TheVariants as argument
use Rattle.store_pipeline.specs.declared.stage.Stage.{Stage}
use Rattle.store_question.specs.Asked.{Asked}
use Rattle.store_question.specs.declared.question.Question.{Question as Asking}
use Rattle.store_question_read.specs.Outcome as query_outcome
use Rattle.store_question_read.specs.Outcome.{IsQuery}
use Rattle.store_question_read.specs.Query.{query}
use Rattle.store_question_read.specs.declared.error.QueryError.{QueryError}
use Rattle.store_question_read.specs.declared.error.QueryError.TheVariants as querying
use Rattle.store_update.specs.Plan.{Plan}
use Rattle.store_question_read.specs.UpdateOutcome as update_outcome
use Rattle.store_question_read.specs.Read.{update}
use Rattle.store_question_read.specs.declared.update_error.ReadError.{ReadError}
use Rattle.store_question_read.specs.declared.update_error.ReadError.TheVariants as updating
use Rattle.fallowtime_requests.specs.Inputs.{Given, word, tree, HasQuery, IsAsked, IsDocument, IsId, IsPath, IsText, IsUpdate, IsValue, many_of}
use Rattle.fallowtime_requests.specs.Requests.{Asks, IsFirstUnfit}
use Rattle.fallowtime_requests.specs.Staging.{HasPipeline, IsNamed, IsStage, stage_named}
use Rattle.fallowtime_requests.specs.declared.reading.Question.{Question}
use Rattle.fallowtime_requests.specs.declared.staging.StageName.{StageName}
use Rattle.fallowtime_requests.specs.declared.staging.StageName.TheVariants as name
use Rattle.fallowtime_requests.specs.declared.stop.Stop.{Stop}
use Rattle.fallowtime_requests.specs.declared.stop.Stop.TheVariants.{Words, Memory}
use Rattle.fallowtime_requests.specs.declared.unread.Unread.{Unread}
use Rattle.fallowtime_requests.specs.declared.unread.Unread.TheVariants as unread

-- ---- one argument

abbrev pub StopsText : Unread → Given → Stop → Type 0
StopsText u g s = ((t : List ℕ) → IsText g t → ⊥) × (s ≡ Words u)

-- it can't be read for this reason, and that is reported; or it is out of memory
abbrev pub StopsFor : (Error → Unread) → (Error → Type 0) → Stop → Type 0
StopsFor which Fault (Words u) = (e : Error) × (u ≡ which e) × (e ≢ reading.Memory) × Fault e
StopsFor which Fault Memory = Unit {0}

abbrev pub StopsDocument : Given → Stop → Type 0
StopsDocument (word w) = StopsFor unread.Document (λ e. ReadsText w (Err e))
StopsDocument (tree j) = StopsFor unread.Document (λ e. Fails e (read_top j))

abbrev pub StopsValue : Given → Stop → Type 0
StopsValue (word w) = StopsFor unread.Value (λ e. ReadsValueText w (Err e))
StopsValue (tree j) = StopsFor unread.Value (λ e. Fails e (read j))

abbrev pub StopsId : Given → Stop → Type 0
StopsId (word w) = StopsFor unread.Id (λ e. Fails e (id_of w (tree_of w)))
StopsId (tree j) = StopsFor unread.Id (λ e. Fails e (read j))

abbrev pub StopsQuery : Given → Stop → Type 0
StopsQuery g Memory = Unit {0}
StopsQuery (word w) (Words u) = (e : QueryError) × (u ≡ unread.Query e) × IsQuery w (Err e)
StopsQuery (tree j) (Words u) = (e : QueryError) × (u ≡ unread.Query e) × (e ≢ querying.Memory) × query_outcome.Fails e (query j)

-- out of memory, or it is reported that stages can't be read, for a reason
abbrev pub StopsStages : Type 0 → Stop → Type 0
StopsStages Fault s = (s ≡ Memory) ⊎ (Fault × (s ≡ Words unread.Stages))

-- a `$match` has no query, or it isn't the stage of this name
abbrev pub StopsNamed : StageName → Json → Stop → Type 0
StopsNamed name.Match j s = StopsQuery (tree j) s
StopsNamed n j s = StopsStages ((t : Stage) → IsNamed n j t → ⊥) s

-- it is no stage
abbrev pub StopsStage : Json → Stop → Type 0
StopsStage (json.object (member t j no_members)) s = MatchOption (stage_named t) (s ≡ Words unread.Stages) (λ n. StopsNamed n j s)
StopsStage j s = s ≡ Words unread.Stages

-- the first of them that is none
abbrev pub StopsAmong : Items → Stop → Type 0
StopsAmong no_items s = ⊥
StopsAmong (item j js) s = StopsStage j s ⊎ (((t : Stage) × IsStage j t) × StopsAmong js s)

-- it is no array, or one of its items is no stage
abbrev pub StopsTree : Json → Stop → Type 0
StopsTree (json.array js) s = StopsAmong js s
StopsTree j s = s ≡ Words unread.Stages

-- out of memory, or no text of JSON, or it is no pipeline
abbrev pub StopsPipeline : Given → Stop → Type 0
StopsPipeline g s = StopsStages ((j : Json) → HasQuery g j → ⊥) s ⊎ ((j : Json) × HasQuery g j × StopsTree j s)

abbrev pub StopsUpdate : IdMaker → Given → Stop → Type 0
StopsUpdate m g Memory = Unit {0}
StopsUpdate m (word w) (Words u) = (e : ReadError) × (u ≡ unread.Update e) × update_outcome.IsUpdate (date_of m) w (Err e)
StopsUpdate m (tree j) (Words u) = (e : ReadError) × (u ≡ unread.Update e) × (e ≢ updating.Memory) × update_outcome.Fails e (update (date_of m) j)

abbrev pub StopsOptions : Given → Stop → Type 0
StopsOptions g s = (many_of g ≡ None) × (s ≡ Words unread.Options)

-- the tree is no array and no bytes of subtype 00; or one of the documents of the array is unfit
abbrev pub StopsStream : IdMaker → Given → Stop → Type 0
StopsStream m g Memory = Unit {0}
StopsStream m (word w) (Words u) = u ≡ unread.Stream
StopsStream m (tree j) (Words u) =
    ((as_array j ≡ None) × ((bytes : List ℕ) → read j ≡ Ok (scalar (binary Generic bytes)) → ⊥) × (u ≡ unread.Stream))
    ⊎ ((js : Items) × (i : ℕ) × (as_array j ≡ Some js) × IsFirstUnfit m js i × (u ≡ unread.DocumentAt i))

-- ---- by the table

abbrev pub Stops : IdMaker → Argument → Given → Stop → Type 0
Stops m argument.Collection g s = StopsText unread.Collection g s
Stops m argument.Document g s = StopsDocument g s
Stops m argument.Id g s = StopsId g s
Stops m argument.Key g s = StopsText unread.Key g s
Stops m argument.Value g s = StopsValue g s
Stops m argument.Query g s = StopsQuery g s
Stops m argument.Selection g s = StopsQuery g s
Stops m argument.Update g s = StopsUpdate m g s
Stops m argument.Pipeline g s = StopsPipeline g s
Stops m argument.Options g s = StopsOptions g s
Stops m argument.Documents g s = StopsStream m g s
Stops m argument.IndexPath g s = (s ≡ Memory) ⊎ StopsText unread.Path g s
Stops m argument.NewName g s = StopsText unread.Collection g s
Stops m argument.File g s = ⊥
Stops m argument.Folder g s = ⊥

-- it can be read
abbrev pub IsRead : IdMaker → Argument → Given → Type 0
IsRead m argument.Collection g = (t : List ℕ) × IsText g t
IsRead m argument.Document g = (d : Members) × IsDocument g d
IsRead m argument.Id g = (v : Value) × IsId g v
IsRead m argument.Key g = (t : List ℕ) × IsText g t
IsRead m argument.Value g = (v : Value) × IsValue g v
IsRead m argument.Query g = (a : Asked) × IsAsked g a
IsRead m argument.Selection g = (a : Asked) × IsAsked g a
IsRead m argument.Update g = (plans : List Plan) × IsUpdate m g plans
IsRead m argument.Pipeline g = (q : Asking) × (ss : List Stage) × HasPipeline g q ss
IsRead m argument.Options g = (many : Bool) × (many_of g ≡ Some many)
IsRead m argument.NewName g = (t : List ℕ) × IsText g t
IsRead m argument.IndexPath g = (path : List (List ℕ)) × IsPath g path
IsRead m _ g = ⊥

-- as many as the table has; a QUERY and options may be left out
abbrev pub AsMany : List Argument → List Given → Type 0
AsMany [] [] = Unit {0}
AsMany [] (g ∷ gs) = ⊥
AsMany (k ∷ ks) (g ∷ gs) = AsMany ks gs
AsMany (argument.Query ∷ []) [] = Unit {0}
AsMany (argument.Options ∷ []) [] = Unit {0}
AsMany (k ∷ ks) [] = ⊥

-- those in front of it can be read, and this one can't
abbrev pub IsFirst : IdMaker → List Argument → List Given → Stop → Type 0
IsFirst m (k ∷ ks) (g ∷ gs) s = Stops m k g s ⊎ (IsRead m k g × IsFirst m ks gs s)
IsFirst m _ _ s = ⊥

abbrev pub IsUnread : IdMaker → List Argument → List Given → Stop → Type 0
IsUnread m ks gs s = ((AsMany ks gs → ⊥) × (s ≡ Words unread.Arguments)) ⊎ (AsMany ks gs × IsFirst m ks gs s)

-- words that can't be read leave the maker as it is
abbrev pub KeepsMaker : IdMaker → IdMaker → Stop → Type 0
KeepsMaker m n (Words u) = n ≡ m
KeepsMaker m n Memory = Unit {0}

-- ---- a command

-- why it asks for nothing with more arguments than any has: a command that is none of a session is none with any number of them
abbrev pub beyond : Command → Unread
beyond command.Backup = unread.Command
beyond command.Apply = unread.Command
beyond command.Version = unread.Command
beyond command.ImportAll = unread.Command
beyond command.ExportAll = unread.Command
beyond command.Edit = unread.Command
beyond _ = unread.Arguments

-- what a command with these arguments asks for, or why it asks for nothing; a command that is none of a session is none here
abbrev pub Reads : IdMaker → IdMaker → Command → List Given → Result Question Stop → Type 0
Reads m n c gs (Ok q) = Asks m n c gs q.collection.now q.request q.layout
Reads m n command.Backup gs (Err s) = s ≡ Words unread.Command
Reads m n command.Apply gs (Err s) = s ≡ Words unread.Command
Reads m n command.Version gs (Err s) = s ≡ Words unread.Command
Reads m n command.ImportAll gs (Err s) = s ≡ Words unread.Command
Reads m n command.ExportAll gs (Err s) = s ≡ Words unread.Command
Reads m n command.Edit gs (Err s) = s ≡ Words unread.Command
Reads m n c gs (Err s) = IsUnread m (arguments c) gs s
