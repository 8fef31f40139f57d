-- What a command with its arguments asks of a store.
use Rattle.std.specs.Prelude.{◌≡◌, ◌⊎◌, ℕ, zero, suc, Bool, false, ◌||◌, List, [], ◌∷◌, ◌++◌, Some, None, Ok, Err}
use Rattle.json.specs.Find.{as_array}
use Rattle.json.specs.Json.{Json, Items, no_items, item}
use Rattle.bson_base.specs.Value.{Value, Members, document, look_up, scalar, binary}
use Rattle.bson_base.specs.declared.spec.BinarySubtype.TheVariants.{Generic}
use Rattle.bson_bytes.specs.Encode.{encode}
use Rattle.bson_bytes.specs.Writing.{CanBeWritten}
use Rattle.bson_json_read.specs.Reading.{read, read_top}
use Rattle.bson_json_read.specs.declared.error.Error.{Error}
use Rattle.bson_model.specs.View.{content, view}
use Rattle.cli_convert.specs.Made.{identified, maker_after}
use Rattle.cli_convert.specs.declared.made.IdMaker.{IdMaker}
use Rattle.fallowtime_words.specs.declared.command.Command.{Command}
use Rattle.fallowtime_words.specs.declared.command.Command.TheVariants as command
use Rattle.store_question.specs.Filters.{path_of}
use Rattle.store_model.specs.State.{id_key}
use Rattle.store_pipeline.specs.declared.stage.Stage.{Stage}
use Rattle.store_question.specs.Asked.{Asked, all_of, no_asked}
use Rattle.store_question.specs.declared.question.Question.{Question}
use Rattle.store_question_read.specs.Outcome.{Asks as StandsFor}
use Rattle.store_pipeline.specs.Bodies.{keys_of}
use Rattle.store_update.specs.Plan.{Plan}
use Rattle.store_question_read.specs.UpdateOutcome.{plans_of}
use Rattle.fallowtime_requests.specs.Inputs.{Given, word, tree, IsAsked, IsDocument, IsId, IsPath, IsText, IsUpdate, IsValue, many_of}
use Rattle.fallowtime_requests.specs.Staging.{HasPipeline}
use Rattle.fallowtime_requests.specs.declared.reading.Layout.{Layout}
use Rattle.fallowtime_requests.specs.declared.reading.Layout.TheVariants as layout
use Rattle.fallowtime_requests.specs.declared.request.Existing.{Existing}
use Rattle.fallowtime_requests.specs.declared.request.Existing.TheVariants as existing
use Rattle.fallowtime_requests.specs.declared.request.Part.{Part}
use Rattle.fallowtime_requests.specs.declared.request.Request.{Request}
use Rattle.fallowtime_requests.specs.declared.request.Request.TheVariants as request
use Rattle.fallowtime_requests.specs.declared.request.Transfer.{Transfer}
use Rattle.fallowtime_requests.specs.declared.request.Transfer.TheVariants as transfer
use Rattle.fallowtime_requests.specs.declared.request.Wanted.{Wanted}
use Rattle.fallowtime_requests.specs.declared.request.Work.TheVariants as work

-- ---- documents of an array

-- the tree is that of a document, and the bytes are its written form with its `_id`
abbrev pub IsWritten : IdMaker → Json → List ℕ → IdMaker → Type 0
IsWritten m j bytes n =
    (d : Members) × (read_top j ≡ Ok d) × CanBeWritten (document (identified m d)) × (bytes ≡ encode (identified m d)) × (n ≡ maker_after m d)

-- the bytes are those of all these documents, one after the other
abbrev pub AreWritten : IdMaker → Items → List ℕ → IdMaker → Type 0
AreWritten m no_items bytes n = (bytes ≡ []) × (n ≡ m)
AreWritten m (item j js) bytes n =
    (first rest : List ℕ) × (mid : IdMaker) × IsWritten m j first mid × AreWritten mid js rest n × (bytes ≡ first ++ rest)

-- the tree is that of no document, or of one that has no written form with its `_id`
abbrev pub IsUnfit : IdMaker → Json → Type 0
IsUnfit m j = ((e : Error) × (read_top j ≡ Err e)) ⊎ ((d : Members) × (read_top j ≡ Ok d) × (CanBeWritten (document (identified m d)) → ⊥))

-- the first i trees are those of documents, and the next one isn't
abbrev pub IsFirstUnfit : IdMaker → Items → ℕ → Type 0
IsFirstUnfit m no_items i = ⊥
IsFirstUnfit m (item j js) zero = IsUnfit m j
IsFirstUnfit m (item j js) (suc i) = (first : List ℕ) × (mid : IdMaker) × IsWritten m j first mid × IsFirstUnfit mid js i

-- documents of BSON, one after the other: the bytes of a binary value of the subtype 00, or what is written of an array
abbrev pub IsStream : IdMaker → IdMaker → Given → List ℕ → Type 0
IsStream m n (word w) bytes = ⊥
IsStream m n (tree j) bytes =
    ((as_array j ≡ None) × (read j ≡ Ok (scalar (binary Generic bytes))) × (n ≡ m))
    ⊎ ((js : Items) × (as_array j ≡ Some js) × AreWritten m js bytes n)

-- ---- requests

-- what every document answers
abbrev pub everything : Asked
everything = all_of no_asked

-- the name of a collection, and what is after it
abbrev pub NameAlone : List Given → List ℕ → Type 0
NameAlone (c ∷ []) name = IsText c name
NameAlone _ name = ⊥

abbrev pub NameAndDocument : List Given → List ℕ → Members → Type 0
NameAndDocument (c ∷ g ∷ []) name d = IsText c name × IsDocument g d
NameAndDocument _ name d = ⊥

abbrev pub NameAndId : List Given → List ℕ → Value → Type 0
NameAndId (c ∷ g ∷ []) name id = IsText c name × IsId g id
NameAndId _ name id = ⊥

abbrev pub NameIdAndKey : List Given → List ℕ → Value → List ℕ → Type 0
NameIdAndKey (c ∷ g ∷ k ∷ []) name id key = IsText c name × IsId g id × IsText k key
NameIdAndKey _ name id key = ⊥

abbrev pub NameIdKeyAndValue : List Given → List ℕ → Value → List ℕ → Value → Type 0
NameIdKeyAndValue (c ∷ g ∷ k ∷ v ∷ []) name id key value = IsText c name × IsId g id × IsText k key × IsValue v value
NameIdKeyAndValue _ name id key value = ⊥

-- without a query all documents are meant
abbrev pub NameAndQuery : List Given → List ℕ → Question → Type 0
NameAndQuery (c ∷ []) name q = IsText c name × StandsFor q everything
NameAndQuery (c ∷ g ∷ []) name q = IsText c name × ((a : Asked) × IsAsked g a × StandsFor q a)
NameAndQuery _ name q = ⊥

abbrev pub NamePathAndQuery : List Given → List ℕ → List (List ℕ) → Question → Type 0
NamePathAndQuery (c ∷ p ∷ []) name path q = IsText c name × IsPath p path × StandsFor q everything
NamePathAndQuery (c ∷ p ∷ g ∷ []) name path q = IsText c name × IsPath p path × ((a : Asked) × IsAsked g a × StandsFor q a)
NamePathAndQuery _ name path q = ⊥

abbrev pub NameQueryAndUpdate : IdMaker → List Given → List ℕ → Question → List Plan → Type 0
NameQueryAndUpdate m (c ∷ g ∷ u ∷ []) name q plans = IsText c name × ((a : Asked) × IsAsked g a × StandsFor q a) × IsUpdate m u plans
NameQueryAndUpdate m _ name q plans = ⊥

-- without options the first of the documents is meant
abbrev pub NameQueryUpdateAndMany : IdMaker → List Given → List ℕ → Question → List Plan → Bool → Type 0
NameQueryUpdateAndMany m (c ∷ g ∷ u ∷ []) name q plans many = NameQueryAndUpdate m (c ∷ g ∷ u ∷ []) name q plans × (many ≡ false)
NameQueryUpdateAndMany m (c ∷ g ∷ u ∷ o ∷ []) name q plans many = NameQueryAndUpdate m (c ∷ g ∷ u ∷ []) name q plans × (many_of o ≡ Some many)
NameQueryUpdateAndMany m _ name q plans many = ⊥

abbrev pub NameQueryAndMany : List Given → List ℕ → Question → Bool → Type 0
NameQueryAndMany (c ∷ g ∷ []) name q many = IsText c name × ((a : Asked) × IsAsked g a × StandsFor q a) × (many ≡ false)
NameQueryAndMany (c ∷ g ∷ o ∷ []) name q many = IsText c name × ((a : Asked) × IsAsked g a × StandsFor q a) × (many_of o ≡ Some many)
NameQueryAndMany _ name q many = ⊥

-- a replacement has no options: the first of the documents is meant
abbrev pub NameQueryAndDocument : List Given → List ℕ → Question → Members → Type 0
NameQueryAndDocument (c ∷ g ∷ h ∷ []) name q d = IsText c name × ((a : Asked) × IsAsked g a × StandsFor q a) × IsDocument h d
NameQueryAndDocument _ name q d = ⊥

-- a collection, the question of a pipeline, and its stages
abbrev pub NameAndPipeline : List Given → List ℕ → Question → List Stage → Type 0
NameAndPipeline (c ∷ g ∷ []) name q ss = IsText c name × HasPipeline g q ss
NameAndPipeline _ name q ss = ⊥

-- a collection, and a query that may not be left out
abbrev pub NameAndSelection : List Given → List ℕ → Question → Type 0
NameAndSelection (c ∷ g ∷ []) name q = IsText c name × ((a : Asked) × IsAsked g a × StandsFor q a)
NameAndSelection _ name q = ⊥

abbrev pub NameAndStream : IdMaker → IdMaker → List Given → List ℕ → List ℕ → Type 0
NameAndStream m n (c ∷ s ∷ []) name bytes = IsText c name × IsStream m n s bytes
NameAndStream m n _ name bytes = ⊥

abbrev pub NameAndPath : List Given → List ℕ → List (List ℕ) → Type 0
NameAndPath (c ∷ p ∷ []) name path = IsText c name × IsPath p path
NameAndPath _ name path = ⊥

-- a collection, and the name of another
abbrev pub NameAndNew : List Given → List ℕ → List ℕ → Type 0
NameAndNew (c ∷ t ∷ []) name new = IsText c name × IsText t new
NameAndNew _ name new = ⊥

-- all documents, as they come, each whole
abbrev pub WantsAll : Wanted → Type 0
WantsAll w = (keys_of w.arrangement.keys.items ≡ []) × (w.arrangement.skip ≡ 0) × (w.arrangement.limit ≡ None) × (w.fields ≡ None) × (w.after ≡ false)

abbrev pub whole_part : Part
whole_part = record { skip = 0; limit = None }

-- The request for what a command with these arguments asks, of which collection, and how documents are laid out in the
-- answer; and the maker afterwards: documents that come without an `_id` get its next ones, and no other command takes
-- one.
abbrev pub Asks : IdMaker → IdMaker → Command → List Given → List ℕ → Request → Layout → Type 0
Asks m n command.Insert gs name (request.Insert id d) l =
    (e : Members) × NameAndDocument gs name e × (content d ≡ identified m e) × (n ≡ maker_after m e) × (look_up id_key (content d) ≡ Some (view id)) × (l ≡ layout.Each)
Asks m n command.Put gs name (request.Put d) l = NameAndDocument gs name (content d) × (n ≡ m) × (l ≡ layout.Each)
Asks m n command.Replace gs name (request.Replace d) l = NameAndDocument gs name (content d) × (n ≡ m) × (l ≡ layout.Each)
Asks m n command.Get gs name (request.Get id) l = NameAndId gs name (view id) × (n ≡ m) × (l ≡ layout.Each)
Asks m n command.Set gs name (request.Set id key value) l = NameIdKeyAndValue gs name (view id) key.now (view value) × (n ≡ m) × (l ≡ layout.Each)
Asks m n command.Unset gs name (request.Unset id key) l = NameIdAndKey gs name (view id) key.now × (n ≡ m) × (l ≡ layout.Each)
Asks m n command.Update gs name (request.Change q (work.Update steps) many) l = NameQueryUpdateAndMany m gs name q (plans_of steps) many × (n ≡ m) × (l ≡ layout.Each)
Asks m n command.ReplaceOne gs name (request.Change q (work.Replace d) many) l = NameQueryAndDocument gs name q (content d) × (many ≡ false) × (n ≡ m) × (l ≡ layout.Each)
Asks m n command.Delete gs name (request.Change q work.Remove many) l = NameQueryAndMany gs name q many × (n ≡ m) × (l ≡ layout.Each)
Asks m n command.FindAndUpdate gs name (request.FindAndChange q w (work.Update steps)) l = NameQueryAndUpdate m gs name q (plans_of steps) × WantsAll w × (n ≡ m) × (l ≡ layout.Each)
Asks m n command.FindAndReplace gs name (request.FindAndChange q w (work.Replace d)) l = NameQueryAndDocument gs name q (content d) × WantsAll w × (n ≡ m) × (l ≡ layout.Each)
Asks m n command.FindAndDelete gs name (request.FindAndChange q w work.Remove) l = NameAndSelection gs name q × WantsAll w × (n ≡ m) × (l ≡ layout.Each)
Asks m n command.Remove gs name (request.Remove id) l = NameAndId gs name (view id) × (n ≡ m) × (l ≡ layout.Each)
Asks m n command.Find gs name (request.Find q w) l = NameAndQuery gs name q × WantsAll w × (n ≡ m) × (l ≡ layout.Each)
Asks m n command.Count gs name (request.Count q p) l = NameAndQuery gs name q × (p ≡ whole_part) × (n ≡ m) × (l ≡ layout.Each)
Asks m n command.Distinct gs name (request.Distinct path q counts) l = NamePathAndQuery gs name (path_of path.items) q × (counts ≡ false) × (n ≡ m) × (l ≡ layout.Each)
Asks m n command.Aggregate gs name (request.Aggregate q stages) l = NameAndPipeline gs name q stages.items × (n ≡ m) × (l ≡ layout.Each)
Asks m n command.Import gs name (request.Import stream e) l = NameAndStream m n gs name stream.items × (e ≡ existing.Refuse) × (l ≡ layout.Each)
Asks m n command.Export gs name (request.Find q w) l = NameAlone gs name × StandsFor q everything × WantsAll w × (n ≡ m) × (l ≡ layout.Stream)
Asks m n command.Drop gs name (request.Transfer transfer.Drop) l = NameAlone gs name × (n ≡ m) × (l ≡ layout.Each)
Asks m n command.Rename gs name (request.Transfer (transfer.Rename new drops)) l = NameAndNew gs name new.now × (drops ≡ false) × (n ≡ m) × (l ≡ layout.Each)
Asks m n command.Copy gs name (request.Transfer (transfer.Copy new)) l = NameAndNew gs name new.now × (n ≡ m) × (l ≡ layout.Each)
Asks m n command.Index gs name (request.Index path) l = NameAndPath gs name (path_of path.items) × (n ≡ m) × (l ≡ layout.Each)
Asks m n command.DropIndex gs name (request.DropIndex path) l = NameAndPath gs name (path_of path.items) × (n ≡ m) × (l ≡ layout.Each)
Asks m n command.Collections gs name request.Collections l = (gs ≡ []) × (name ≡ []) × (n ≡ m) × (l ≡ layout.Each)
Asks m n command.Check gs name request.Check l = (gs ≡ []) × (name ≡ []) × (n ≡ m) × (l ≡ layout.Each)
Asks m n _ gs _ _ _ = ⊥

-- with the option of a command line a change by query is one of all documents
abbrev pub with_many : Bool → Request → Request
with_many many (request.Change q w all) = request.Change q w (many || all)
with_many many (request.Upsert q w all o) = request.Upsert q w (many || all) o
with_many many r = r

-- with the option of a command line different values are counted
abbrev pub with_counts : Bool → Request → Request
with_counts counts (request.Distinct path q all) = request.Distinct path q (counts || all)
with_counts counts r = r

-- with the option of a command line, or that of an object, a collection may take the name of another one, which is removed
abbrev pub dropping : Bool → Transfer → Transfer
dropping drops (transfer.Rename new was) = transfer.Rename new drops
dropping drops how = how

abbrev pub with_drops : Bool → Request → Request
with_drops drops (request.Transfer how) = request.Transfer (dropping drops how)
with_drops drops r = r

-- with the options of an object an import does this with documents whose id is there
abbrev pub with_existing : Existing → Request → Request
with_existing e (request.Import stream was) = request.Import stream e
with_existing e r = r
