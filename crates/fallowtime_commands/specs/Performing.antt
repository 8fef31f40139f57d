-- What a request does to the rows of a store.
use Rattle.std.specs.Prelude.{◌≡◌, ℕ, Bool, List, length, map, Result, Ok, Err, Some, None, string_bytes, ◌⊎◌, true, is_some, Option}
use Rattle.bson_base.specs.Value.{Value}
use Rattle.bson_model.specs.View.{content, view}
use Rattle.bson_model.specs.declared.bson.Bson.{Bson}
use Rattle.store_table.specs.Rows.{TableRow}
use Rattle.store_question.specs.Filters.{path_of}
use Rattle.store_model.specs.State as model
use Rattle.store_model.specs.State.{IsName}
use Rattle.store_model.specs.declared.error.ErrorKind.{ErrorKind}
use Rattle.store_model.specs.declared.error.ErrorKind.TheVariants.{BadKey, BadName, Memory}
use Rattle.store_model.specs.declared.error.StoreError.{StoreError}
use Rattle.store_question.specs.Reads.{form_of}
use Rattle.store_question_read.specs.UpdateOutcome.{plans_of}
use Rattle.bson_store.specs.Calls.{Does, HasIndex}
use Rattle.bson_store.specs.Export.{bytes_of_each}
use Rattle.bson_store.specs.Questions.{Indexed}
use Rattle.bson_store.specs.Refusals.{as_done, reply_by}
use Rattle.bson_store.specs.declared.store.Store.{Store}
use Rattle.fallowtime_commands.specs.declared.answer.Answer.{Answer}
use Rattle.fallowtime_commands.specs.declared.answer.Answer.TheVariants as answer
use Rattle.fallowtime_commands.specs.Aggregating.{Aggregates}
use Rattle.fallowtime_commands.specs.Altering.{Alters, IsAltered}
use Rattle.fallowtime_commands.specs.Asking.{Counts, CountsAll, Differs, Finds}
use Rattle.fallowtime_commands.specs.Finding.{FindsAndChanges, IsFound}
use Rattle.fallowtime_commands.specs.Importing.{Imports}
use Rattle.fallowtime_commands.specs.Setting.{Sets}
use Rattle.fallowtime_commands.specs.Storing.{Puts, Stores}
use Rattle.fallowtime_commands.specs.Changing.{ChangesFound}
use Rattle.fallowtime_commands.specs.Transferring.{Transfers}
use Rattle.fallowtime_commands.specs.Upserting.{UpsertsFound}
use Rattle.fallowtime_requests.specs.declared.request.Otherwise.{Otherwise}
use Rattle.fallowtime_requests.specs.declared.request.Otherwise.TheVariants as otherwise
use Rattle.fallowtime_requests.specs.declared.request.Request.{Request}
use Rattle.fallowtime_requests.specs.declared.request.Request.TheVariants as request
use Rattle.fallowtime_requests.specs.declared.request.Work.{Work}
use Rattle.fallowtime_requests.specs.declared.request.Work.TheVariants as work

-- ---- answers

-- what a command returns as the store's reply; an update that isn't made of a document, or of a query's equality fields, and a
-- sum that isn't calculated, are refused as a key that can't be set
abbrev pub reply_of : Result Answer StoreError → model.Reply
reply_of (Ok answer.Nothing) = model.done
reply_of (Ok (answer.Id v)) = model.done
reply_of (Ok (answer.Flag b)) = model.flag b
reply_of (Ok (answer.Number n)) = model.number n
reply_of (Ok (answer.Document bytes)) = model.bytes bytes.items
reply_of (Ok (answer.Documents bodies)) = model.bytes_list (bytes_of_each bodies.items)
reply_of (Ok (answer.Found None)) = model.done
reply_of (Ok (answer.Found (Some body))) = model.bytes body.items
reply_of (Ok (answer.Names names)) = model.names (map string_bytes names.items)
reply_of (Ok (answer.Values cs counts)) = model.number (length cs.items)
reply_of (Ok (answer.Updated m c)) = model.number m
reply_of (Ok (answer.NotUpdated i e)) = model.refused BadKey (Some i)
reply_of (Ok (answer.Upserted v)) = model.done
reply_of (Ok (answer.NotUpserted e)) = model.refused BadKey None
reply_of (Ok (answer.NotCalculated e)) = model.refused BadKey None
reply_of (Err e) = model.refused e.kind e.document

abbrev pub IsFlag : Answer → Type 0
IsFlag (answer.Flag b) = Unit {0}
IsFlag _ = ⊥

abbrev pub IsNumber : Answer → Type 0
IsNumber (answer.Number n) = Unit {0}
IsNumber _ = ⊥

abbrev pub IsDocument : Answer → Type 0
IsDocument (answer.Document bytes) = Unit {0}
IsDocument _ = ⊥

abbrev pub AreDocuments : Answer → Type 0
AreDocuments (answer.Documents bodies) = Unit {0}
AreDocuments _ = ⊥

abbrev pub AreNames : Answer → Type 0
AreNames (answer.Names names) = Unit {0}
AreNames _ = ⊥

-- different values, and whether they are counted
abbrev pub AreValues : Bool → Answer → Type 0
AreValues counts (answer.Values cs own) = own ≡ counts
AreValues counts _ = ⊥

-- the documents that a pipeline makes, or why a sum or an average isn't calculated
abbrev pub IsAggregate : Answer → Type 0
IsAggregate (answer.Documents bodies) = Unit {0}
IsAggregate (answer.NotCalculated e) = Unit {0}
IsAggregate _ = ⊥

-- how many documents were updated or replaced, or of which one that isn't done
abbrev pub IsUpdate : Answer → Type 0
IsUpdate (answer.Updated m c) = Unit {0}
IsUpdate (answer.NotUpdated i e) = Unit {0}
IsUpdate _ = ⊥

abbrev pub IsChange : Work → Answer → Type 0
IsChange (work.Update steps) a = IsUpdate a
IsChange (work.Replace e) a = IsUpdate a
IsChange work.Remove a = IsNumber a

-- the `_id` of what is put in, or why nothing is
abbrev pub IsEnd : Otherwise → Answer → Type 0
IsEnd (otherwise.Insert id d) a = (own : Bson) × (a ≡ answer.Upserted own) × (view own ≡ view id)
IsEnd (otherwise.Refuse e) a = a ≡ answer.NotUpserted e

-- a change by query, or what is returned if none answers
abbrev pub IsUpsert : Work → Otherwise → Answer → Type 0
IsUpsert w u a = IsChange w a ⊎ IsEnd u a

-- an insertion returns the `_id`, a change by query how many documents it meant, or the one that it found, another change returns nothing, and a question what it asks for
abbrev pub IsAnswerTo : Request → Answer → Type 0
IsAnswerTo (request.Insert id d) a = (own : Bson) × (a ≡ answer.Id own) × (view own ≡ view id)
IsAnswerTo (request.Put d) a = a ≡ answer.Nothing
IsAnswerTo (request.Replace d) a = a ≡ answer.Nothing
IsAnswerTo (request.Get id) a = IsDocument a
IsAnswerTo (request.Set id key v) a = a ≡ answer.Nothing
IsAnswerTo (request.Unset id key) a = IsFlag a
IsAnswerTo (request.Alter id steps told) a = IsAltered told a
IsAnswerTo (request.Change q w many) a = IsChange w a
IsAnswerTo (request.Upsert q w many u) a = IsUpsert w u a
IsAnswerTo (request.Remove id) a = a ≡ answer.Nothing
IsAnswerTo (request.Find q wanted) a = AreDocuments a
IsAnswerTo (request.FindAndChange q w k) a = IsFound k a
IsAnswerTo (request.Count q p) a = IsNumber a
IsAnswerTo (request.Distinct path q counts) a = AreValues counts a
IsAnswerTo (request.Aggregate q stages) a = IsAggregate a
IsAnswerTo (request.Import stream e) a = IsNumber a
IsAnswerTo (request.Transfer how) a = IsNumber a
IsAnswerTo (request.Index path) a = a ≡ answer.Nothing
IsAnswerTo (request.DropIndex path) a = a ≡ answer.Nothing
IsAnswerTo request.Collections a = AreNames a
IsAnswerTo request.Check a = IsNumber a

-- a request that changes nothing
abbrev pub ChangesNothing : Request → Type 0
ChangesNothing (request.Get id) = Unit {0}
ChangesNothing (request.Find q wanted) = Unit {0}
ChangesNothing (request.Count q p) = Unit {0}
ChangesNothing (request.Distinct path q counts) = Unit {0}
ChangesNothing (request.Aggregate q stages) = Unit {0}
ChangesNothing request.Collections = Unit {0}
ChangesNothing request.Check = Unit {0}
ChangesNothing _ = ⊥

-- ---- rows

-- An index is made or dropped: the rows stay. A name that is none is refused as one, and another refusal is for memory or by the
-- database.
abbrev pub Indexes : List ℕ → model.Reply → List TableRow → List TableRow → Type 0
Indexes n r old new = (outcome : Result (Unit {0}) StoreError) × (r ≡ reply_by as_done outcome) × Indexed n outcome old new

-- an index that is to be dropped isn't there any more
abbrev pub Drops : {S : Type 0} {h : _} → Store S h → List ℕ → Request → Type 0
Drops s n (request.DropIndex path) = HasIndex s n (path_of path.items) → ⊥
Drops s n _ = Unit {0}

-- the `_id` of the document that goes in, or that may
abbrev pub inserted_id : Request → Option Value
inserted_id (request.Insert id d) = Some (view id)
inserted_id (request.Upsert q w many (otherwise.Insert id d)) = Some (view id)
inserted_id _ = None

-- a request that may insert is refused before the store is asked: for the name, or for want of memory
abbrev pub IsStoppedEarly : List ℕ → Request → ErrorKind → Type 0
IsStoppedEarly n q k = (is_some (inserted_id q) ≡ true) × (((IsName n → ⊥) × (k ≡ BadName)) ⊎ (IsName n × (k ≡ Memory)))

-- on the collection n, the request does what the store's command does that it stands for, with this outcome
abbrev pub Performs : List ℕ → Request → Result Answer StoreError → List TableRow → List TableRow → Type 0
Performs n (request.Insert id d) o old new = Stores n (model.insert model.in_bytes) (content d) (reply_of o) old new
Performs n (request.Put d) o old new = Puts n (content d) (reply_of o) old new
Performs n (request.Replace d) o old new = Stores n (model.replace model.in_bytes) (content d) (reply_of o) old new
Performs n (request.Get id) o old new = Does (model.on n (model.get_raw (view id))) (reply_of o) old new
Performs n (request.Set id key v) o old new = Sets n (view id) key.now (view v) (reply_of o) old new
Performs n (request.Unset id key) o old new = Does (model.on n (model.unset (view id) key.now)) (reply_of o) old new
Performs n (request.Alter id steps told) o old new = Alters n (view id) (plans_of steps) told o old new
Performs n (request.Change q w many) o old new = ChangesFound n (form_of q) w many o old new
Performs n (request.Upsert q w many u) o old new = UpsertsFound n (form_of q) w many u o (reply_of o) old new
Performs n (request.Remove id) o old new = Does (model.on n (model.remove (view id))) (reply_of o) old new
Performs n (request.Find q w) o old new = Finds n (form_of q) w (reply_of o) old new
Performs n (request.FindAndChange q w k) o old new = FindsAndChanges n (form_of q) w k o old new
Performs n (request.Count q p) o old new = Counts n (form_of q) p (reply_of o) old new
Performs n (request.Distinct path q counts) o old new = Differs n (form_of q) (path_of path.items) counts o old new
Performs n (request.Aggregate q stages) o old new = Aggregates n (form_of q) stages.items o old new
Performs n (request.Import stream e) o old new = Imports e n stream.items o (reply_of o) old new
Performs n (request.Transfer how) o old new = Transfers n how o old new
Performs n (request.Index path) o old new = Indexes n (reply_of o) old new
Performs n (request.DropIndex path) o old new = Indexes n (reply_of o) old new
Performs n request.Collections o old new = Does model.collections (reply_of o) old new
Performs n request.Check o old new = CountsAll (reply_of o) old new
