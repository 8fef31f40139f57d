-- Which databases a crash may leave after a request.
use Rattle.std.specs.Prelude.{◌⊎◌, List, [], ◌∷◌, ℕ, Bool, true, false, Option, Some, None, Result, Ok, Err}
use Rattle.sqlite.specs.Effect.{Database}
use Rattle.sqlite.specs.State.{State, Survives}
use Rattle.sqlite_trees.specs.Tree.{Trees}
use Rattle.bson_base.specs.Value.{Members, Value, put}
use Rattle.bson_bytes.specs.Encode.{encode}
use Rattle.bson_model.specs.View.{content, view}
use Rattle.store_model.specs.Left.{LeftBy}
use Rattle.store_model.specs.Reading.{Documents, Reading, ReadsBytes, ReadsStream}
use Rattle.store_model.specs.State as model
use Rattle.store_model.specs.Table.{DocumentTable, IsRefusal, state_of}
use Rattle.store_model.specs.declared.error.ErrorKind.{ErrorKind}
use Rattle.store_update.specs.Plan.{Plan}
use Rattle.store_question_read.specs.UpdateOutcome.{plans_of}
use Rattle.store_question.specs.Asked.{Asked}
use Rattle.store_question.specs.Reads.{Form, Reads, form_of}
use Rattle.store_model.specs.declared.error.StoreError.{StoreError}
use Rattle.bson_store.specs.Drafting.{HasReplaced}
use Rattle.bson_store.specs.Left.{Along, Holds}
use Rattle.bson_store.specs.Whole.{HoldsDone, LeavesWhole}
use Rattle.bson_store.specs.declared.edit.Edit.{Edit}
use Rattle.bson_store.specs.declared.edit.ListRefusal.{ListRefusal}
use Rattle.fallowtime_commands.specs.Changing.{AreEdits, AreMeant, Becomes, Renews, Updates, listed}
use Rattle.fallowtime_commands.specs.Finding.{IsFirstFound}
use Rattle.fallowtime_commands.specs.declared.answer.Answer.{Answer}
use Rattle.fallowtime_commands.specs.Importing.{EnterAll}
use Rattle.fallowtime_commands.specs.Setting.{Gets}
use Rattle.fallowtime_commands.specs.Transferring.{IsReady, transferred}
use Rattle.fallowtime_requests.specs.declared.request.Transfer.{Transfer}
use Rattle.fallowtime_commands.specs.Storing.{FindsNone, IsStopped}
use Rattle.fallowtime_requests.specs.declared.request.Existing.{Existing}
use Rattle.fallowtime_requests.specs.declared.request.Existing.TheVariants as existing
use Rattle.fallowtime_requests.specs.declared.request.Request.{Request}
use Rattle.fallowtime_requests.specs.declared.request.Wanted.{Wanted}
use Rattle.fallowtime_requests.specs.declared.request.Otherwise.{Otherwise}
use Rattle.fallowtime_requests.specs.declared.request.Otherwise.TheVariants as otherwise
use Rattle.fallowtime_requests.specs.declared.request.Work.{Work}
use Rattle.fallowtime_requests.specs.declared.request.Request.TheVariants as request

-- What holds of what is left, by the table a that the rows showed: `From b call`, that it is what the store's call leaves
-- of a table b; `Done b xs`, that it holds the state at the end of all these changes of b; `Has t`, that it holds the
-- state t; and `Was`, that it could be left before.
abbrev pub Ways : Type 1
Ways = (DocumentTable → model.Call → Type 0) → (DocumentTable → List Edit → Type 0) → (model.State → Type 0) → Type 0 → DocumentTable → Type 0

-- what an insertion leaves, if there is one
abbrev pub LeftByOne : (model.Call → Type 0) → Otherwise → Type 0
LeftByOne From (otherwise.Insert id d) = (x : Reading) × ReadsBytes (encode (content d)) x × From (model.insert model.in_bytes x)
LeftByOne From (otherwise.Refuse e) = ⊥

-- what is left of it if these documents are meant: the state at the end of all their changes; or that, if there is none
abbrev pub LeftByUpsert : (model.Call → Type 0) → (List Edit → Type 0) → List ℕ → Work → Otherwise → Documents → Type 0
LeftByUpsert From Done n w u [] = LeftByOne From u
LeftByUpsert From Done n w u (d ∷ ds) = (xs : List Edit) × AreEdits n w (d ∷ ds) xs × Done xs

-- Of a request on the collection n with this reply: `Same`, no more than what could be left before, or `Of` such a way.
module _ (Same : Type 0) (Of : Ways → Type 0) (n : List ℕ) (r : model.Reply) where
  abbrev pub OfCall : model.Call → Type 0
  OfCall call = Of (λ From Done Has Was a. From a call)

  -- an insertion or a replacement, by what the bytes read as
  abbrev pub OfStored : (Reading → model.Call) → Members → Type 0
  OfStored call e = (IsStopped n e r × Same) ⊎ ((x : Reading) → ReadsBytes (encode e) x → OfCall (call x))

  -- a replacement, or an insertion after one that found nothing
  abbrev pub OfPut : Members → Type 0
  OfPut e =
      (IsStopped n e r × Same)
      ⊎ ((HasReplaced r × ((x : Reading) → ReadsBytes (encode e) x → OfCall (model.replace model.in_bytes x)))
      ⊎ Of (λ From Done Has Was a. (b : DocumentTable) × FindsNone n (encode e) a b × ((y : Reading) × ReadsBytes (encode e) y × From b (model.insert model.in_bytes y))))

  -- a value that is set: no more than before, or what the replacement leaves
  abbrev pub OfSet : Value → List ℕ → Value → Type 0
  OfSet id k v = Of (λ From Done Has Was a.
      ((model.IsFreeKey k → ⊥) × From a (model.set id k (Some v)))
      ⊎ ((IsRefusal r × Was)
      ⊎ ((d : Members) × (b : DocumentTable) × Gets n id a d b × ((x : Reading) × ReadsBytes (encode (put k v d)) x × From b (model.replace model.in_bytes x)))))

  -- an update of the document with an id: no more than before, after a refusal; or the state at the end of its change
  abbrev pub OfAlter : Value → List Plan → Type 0
  OfAlter id plans = Of (λ From Done Has Was a.
      (IsRefusal r × Was) ⊎ ((d : Members) × (b : DocumentTable) × (change : Option Edit) × Gets n id a d b × Renews n (Updates plans d) d change × Done b (listed change)))

  -- a change by query: no more than before, and never if it was accepted; or the state at the end of all changes
  abbrev pub OfChange : Form → Work → Bool → Type 0
  OfChange form w many = Of (λ From Done Has Was a.
      (q : Asked) → Reads form q
      → (IsRefusal r × Was) ⊎ ((ds : Documents) × (xs : List Edit) × AreMeant n q many a ds × AreEdits n w ds xs × Done a xs))

  -- a change of the first document that is found: no more than before, and if it was accepted only if none was found; or
  -- the state at the end of the change
  abbrev pub OfFound : Form → Wanted → Work → Type 0
  OfFound form w k = Of (λ From Done Has Was a.
      (q : Asked) → Reads form q
      → ((IsRefusal r ⊎ IsFirstFound n q w.arrangement a []) × Was)
      ⊎ ((d : Members) × (change : Option Edit) × IsFirstFound n q w.arrangement a (d ∷ []) × Becomes n k d change × Done a (listed change)))

  -- the same with a document that is put in if none answers
  abbrev pub OfUpsert : Form → Work → Bool → Otherwise → Type 0
  OfUpsert form w many u = Of (λ From Done Has Was a.
      (q : Asked) → Reads form q
      → (IsRefusal r × Was) ⊎ ((ds : Documents) × AreMeant n q many a ds × LeftByUpsert (From a) (Done a) n w u ds))

  -- a whole collection: no more than before, after a refusal; or the state afterwards, if its documents could go
  abbrev pub OfTransfer : Transfer → Type 0
  OfTransfer how = Of (λ From Done Has Was a. (IsRefusal r × Was) ⊎ (IsReady how n (state_of a) × Has (transferred how n (state_of a))))

  -- an import that replaces or leaves documents out: no more than before, after a refusal; or the state in which all documents of the
  -- stream entered
  abbrev pub OfEntered : Bool → List ℕ → Type 0
  OfEntered stays bytes = Of (λ From Done Has Was a.
      (IsRefusal r × Was) ⊎ ((ds : Documents) × (t : model.State) × ReadsStream bytes ds None × EnterAll stays n ds (state_of a) t × Has t))

  abbrev pub OfImport : Existing → List ℕ → Type 0
  OfImport existing.Refuse bytes = (ds : Documents) (stop : Option ErrorKind) → ReadsStream bytes ds stop → OfCall (model.import ds stop)
  OfImport existing.Replace bytes = OfEntered false bytes
  OfImport existing.Skip bytes = OfEntered true bytes

  -- a question or an index leaves no more than before
  abbrev pub OfRequest : Request → Type 0
  OfRequest (request.Insert id d) = OfStored (model.insert model.in_bytes) (content d)
  OfRequest (request.Put d) = OfPut (content d)
  OfRequest (request.Replace d) = OfStored (model.replace model.in_bytes) (content d)
  OfRequest (request.Set id key v) = OfSet (view id) key.now (view v)
  OfRequest (request.Unset id key) = OfCall (model.unset (view id) key.now)
  OfRequest (request.Alter id steps told) = OfAlter (view id) (plans_of steps)
  OfRequest (request.Change q w many) = OfChange (form_of q) w many
  OfRequest (request.FindAndChange q w k) = OfFound (form_of q) w k
  OfRequest (request.Upsert q w many u) = OfUpsert (form_of q) w many u
  OfRequest (request.Remove id) = OfCall (model.remove (view id))
  OfRequest (request.Import stream e) = OfImport e stream.items
  OfRequest (request.Transfer how) = OfTransfer how
  OfRequest _ = Same

-- ---- of one database, which a crash may leave now; before it they were those of Before, beside the other tables of the first

abbrev pub LeftIn : Database → (Trees → Type 0) → List ℕ → DocumentTable → model.Reply → Trees → Ways → Type 0
LeftIn first Before n a r db P = P (λ b call. LeftBy (Holds first) Before (state_of b) (model.on n call) r db) (λ b xs. HoldsDone first b xs db) (λ t. Holds first db t) (Before db) a

abbrev pub LeftByRequest : Database → (Trees → Type 0) → List ℕ → DocumentTable → Request → model.Reply → Trees → Type 0
LeftByRequest first Before n a q r db = OfRequest (Before db) (LeftIn first Before n a r db) n r q

-- ---- of each, by the connection before and now

abbrev pub Unmoved : State → State → Type 0
Unmoved old new = Survives old new (λ _. ⊥)

abbrev pub LeavesIn : State → State → List ℕ → model.Reply → Ways → Type 0
LeavesIn old new n r P = Along old new (λ first a db. LeftIn first old.may_leave n a r db P)

abbrev pub LeavesStored : List ℕ → (Reading → model.Call) → Members → model.Reply → State → State → Type 0
LeavesStored n call e r old new = OfStored (Unmoved old new) (LeavesIn old new n r) n r call e

abbrev pub LeavesPut : List ℕ → Members → model.Reply → State → State → Type 0
LeavesPut n e r old new = OfPut (Unmoved old new) (LeavesIn old new n r) n r e

abbrev pub LeavesSet : List ℕ → Value → List ℕ → Value → model.Reply → State → State → Type 0
LeavesSet n id k v r old new = OfSet (Unmoved old new) (LeavesIn old new n r) n r id k v

abbrev pub LeavesAltered : List ℕ → Value → List Plan → model.Reply → State → State → Type 0
LeavesAltered n id plans r old new = OfAlter (Unmoved old new) (LeavesIn old new n r) n r id plans

abbrev pub LeavesChange : List ℕ → Form → Work → Bool → model.Reply → State → State → Type 0
LeavesChange n form w many r old new = OfChange (Unmoved old new) (LeavesIn old new n r) n r form w many

abbrev pub LeavesFound : List ℕ → Form → Wanted → Work → model.Reply → State → State → Type 0
LeavesFound n form w k r old new = OfFound (Unmoved old new) (LeavesIn old new n r) n r form w k

abbrev pub LeavesTransfer : List ℕ → Transfer → model.Reply → State → State → Type 0
LeavesTransfer n how r old new = OfTransfer (Unmoved old new) (LeavesIn old new n r) n r how

abbrev pub LeavesOver : Bool → List ℕ → List ℕ → model.Reply → State → State → Type 0
LeavesOver stays n bytes r old new = OfEntered (Unmoved old new) (LeavesIn old new n r) n r stays bytes

abbrev pub LeavesImport : Existing → List ℕ → List ℕ → model.Reply → State → State → Type 0
LeavesImport e n bytes r old new = OfImport (Unmoved old new) (LeavesIn old new n r) n r e bytes

-- if no document answers: what an insertion leaves, or no more than before, after a refusal
abbrev pub LeavesEnd : List ℕ → Otherwise → model.Reply → State → State → Type 0
LeavesEnd n (otherwise.Insert id d) r old new = LeavesStored n (model.insert model.in_bytes) (content d) r old new
LeavesEnd n (otherwise.Refuse e) r old new = IsRefusal r × Unmoved old new

abbrev pub LeavesUpsert : List ℕ → Form → Work → Bool → Otherwise → model.Reply → State → State → Type 0
LeavesUpsert n form w many u r old new = OfUpsert (Unmoved old new) (LeavesIn old new n r) n r form w many u

-- what a crash leaves of a list of changes with this outcome
abbrev pub LeavesApplied : List Edit → Result Answer StoreError → State → State → Type 0
LeavesApplied xs (Ok a) old new = LeavesWhole xs (Ok tt) old new
LeavesApplied xs (Err e) old new = (r : ListRefusal) × LeavesWhole xs (Err r) old new

abbrev pub LeavesRequest : List ℕ → Request → model.Reply → State → State → Type 0
LeavesRequest n q r old new = OfRequest (Unmoved old new) (LeavesIn old new n r) n r q
