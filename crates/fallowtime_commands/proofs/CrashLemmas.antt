-- Which databases a crash may leave after a request.
use Rattle.std.proofs.Common.{Bool, true, false, List, [], ◌∷◌, ℕ, Some, inl, inr}
use Rattle.sqlite.specs.Effect.{Database}
use Rattle.sqlite.specs.State.{State, HasCleanDisk}
use Rattle.sqlite_trees.specs.Tree.{Trees}
use Rattle.bson_base.specs.Value.{Members, Value}
use Rattle.bson_model.specs.View.{content, view}
use Rattle.store_table.specs.Beside.{ShowsOthers}
use Rattle.store_table.specs.Moves.{Stands}
use Rattle.store_table.specs.Rows.{TableRow}
use Rattle.store_model.proofs.LeftLemmas.{left_more}
use Rattle.store_model.specs.Reading.{Documents, Reading}
use Rattle.store_model.specs.State as model
use Rattle.store_model.specs.Table.{DocumentTable, state_of}
use Rattle.store_question.specs.Reads.{Form, form_of}
use Rattle.store_update.specs.Plan.{Plan}
use Rattle.store_question_read.specs.UpdateOutcome.{plans_of}
use Rattle.bson_store.specs.Left.{Holds}
use Rattle.bson_store.specs.Whole.{HoldsDone}
use Rattle.bson_store.specs.declared.edit.Edit.{Edit}
use Rattle.bson_store.specs.Shown.{Represents}
use Rattle.fallowtime_commands.specs.Left.{LeavesIn, LeavesRequest, LeftByRequest, LeftIn, OfCall, OfPut, OfRequest, OfSet, OfStored, OfAlter, OfChange, OfEntered, OfFound, OfImport, OfTransfer, Unmoved, Ways, LeftByUpsert, OfUpsert}
use Rattle.fallowtime_requests.specs.declared.request.Otherwise.{Otherwise}
use Rattle.fallowtime_requests.specs.declared.request.Otherwise.TheVariants as otherwise
use Rattle.fallowtime_requests.specs.declared.request.Existing.{Existing}
use Rattle.fallowtime_requests.specs.declared.request.Existing.TheVariants as existing
use Rattle.fallowtime_requests.specs.declared.request.Request.{Request}
use Rattle.fallowtime_requests.specs.declared.request.Request.TheVariants as request
use Rattle.fallowtime_requests.specs.declared.request.Transfer.{Transfer}
use Rattle.fallowtime_requests.specs.declared.request.Wanted.{Wanted}
use Rattle.fallowtime_requests.specs.declared.request.Work.{Work}

-- where more is left of each call, more is left in this way
abbrev Grows : Ways → Type 1
Grows P = (From Into : DocumentTable → model.Call → Type 0) (Done : DocumentTable → List Edit → Type 0) (Has : model.State → Type 0) (Was Is : Type 0) → ((b : DocumentTable) (call : model.Call) → From b call → Into b call) → (Was → Is) → (a : DocumentTable) → P From Done Has Was a → P Into Done Has Is a

more_left : (From Into : model.Call → Type 0) (Done : List Edit → Type 0) (n : List ℕ) (w : Work) (u : Otherwise) (ds : Documents) → ((call : model.Call) → From call → Into call) → LeftByUpsert From Done n w u ds → LeftByUpsert Into Done n w u ds
more_left From Into Done n w (otherwise.Insert id d) [] each (x, reads, h) = (x, reads, each (model.insert model.in_bytes x) h)
more_left From Into Done n w (otherwise.Refuse e) [] each h = absurd h
more_left From Into Done n w u (d ∷ ds) each h = h

-- so more is left of a request
module _ (Same More : Type 0) (same : Same → More) (Of Then : Ways → Type 0) (goes : (P : Ways) → Grows P → Of P → Then P) (n : List ℕ) (r : model.Reply) where
  of_call : (call : model.Call) → OfCall Same Of n r call → OfCall More Then n r call
  of_call call = goes (λ From Done Has Was a. From a call) (λ From Into Done Has Was Is each was a h. each a call h)

  of_stored : (call : Reading → model.Call) (e : Members) → OfStored Same Of n r call e → OfStored More Then n r call e
  of_stored call e (inl h) = inl (h.0, same h.1)
  of_stored call e (inr h) = inr (λ x reads. of_call (call x) (h x reads))

  of_put : (e : Members) → OfPut Same Of n r e → OfPut More Then n r e
  of_put e (inl h) = inl (h.0, same h.1)
  of_put e (inr (inl h)) = inr (inl (h.0, λ x reads. of_call (model.replace model.in_bytes x) (h.1 x reads)))
  of_put e (inr (inr h)) = inr (inr (goes _ (λ From Into Done Has Was Is each was a (b, none, (y, reads, k)). (b, none, (y, reads, each b (model.insert model.in_bytes y) k))) h))

  of_set : (id : Value) (k : List ℕ) (v : Value) → OfSet Same Of n r id k v → OfSet More Then n r id k v
  of_set id k v h = goes _ (λ From Into Done Has Was Is each was a h. elim h [
    | inl bad ↦ inl (bad.0, each a (model.set id k (Some v)) bad.1)
    | inr rest ↦ elim rest [
      | inl refused ↦ inr (inl (refused.0, was refused.1))
      | inr (d, b, gets, (x, reads, l)) ↦ inr (inr (d, b, gets, (x, reads, each b (model.replace model.in_bytes x) l)))
    ]
  ]) h

  of_alter : (id : Value) (plans : List Plan) → OfAlter Same Of n r id plans → OfAlter More Then n r id plans
  of_alter id plans h = goes _ (λ From Into Done Has Was Is each was a h. elim h [ inl refused ↦ inl (refused.0, was refused.1) | inr done ↦ inr done ]) h

  of_change : (form : Form) (w : Work) (many : Bool) → OfChange Same Of n r form w many → OfChange More Then n r form w many
  of_change form w many h = goes _ (λ From Into Done Has Was Is each was a h q reads. elim (h q reads) [ inl refused ↦ inl (refused.0, was refused.1) | inr done ↦ inr done ]) h

  of_found : (form : Form) (w : Wanted) (k : Work) → OfFound Same Of n r form w k → OfFound More Then n r form w k
  of_found form w k h = goes _ (λ From Into Done Has Was Is each was a h q reads. elim (h q reads) [ inl early ↦ inl (early.0, was early.1) | inr done ↦ inr done ]) h

  of_upsert : (form : Form) (w : Work) (many : Bool) (u : Otherwise) → OfUpsert Same Of n r form w many u → OfUpsert More Then n r form w many u
  of_upsert form w many u h = goes _ (λ From Into Done Has Was Is each was a h q reads. elim (h q reads) [ inl refused ↦ inl (refused.0, was refused.1) | inr (ds, meant, left) ↦ inr (ds, meant, more_left (From a) (Into a) (Done a) n w u ds (each a) left) ]) h

  of_transfer : (how : Transfer) → OfTransfer Same Of n r how → OfTransfer More Then n r how
  of_transfer how h = goes _ (λ From Into Done Has Was Is each was a h. elim h [ inl refused ↦ inl (refused.0, was refused.1) | inr done ↦ inr done ]) h

  of_entered : (stays : Bool) (bytes : List ℕ) → OfEntered Same Of n r stays bytes → OfEntered More Then n r stays bytes
  of_entered stays bytes h = goes _ (λ From Into Done Has Was Is each was a h. elim h [ inl refused ↦ inl (refused.0, was refused.1) | inr done ↦ inr done ]) h

  of_import : (e : Existing) (bytes : List ℕ) → OfImport Same Of n r e bytes → OfImport More Then n r e bytes
  of_import existing.Refuse bytes h = λ ds stop reads. of_call (model.import ds stop) (h ds stop reads)
  of_import existing.Replace bytes h = of_entered false bytes h
  of_import existing.Skip bytes h = of_entered true bytes h

  of_request : (q : Request) → OfRequest Same Of n r q → OfRequest More Then n r q
  of_request (request.Insert id d) h = of_stored (model.insert model.in_bytes) (content d) h
  of_request (request.Put d) h = of_put (content d) h
  of_request (request.Replace d) h = of_stored (model.replace model.in_bytes) (content d) h
  of_request (request.Set id key v) h = of_set (view id) key.now (view v) h
  of_request (request.Unset id key) h = of_call (model.unset (view id) key.now) h
  of_request (request.Alter id steps told) h = of_alter (view id) (plans_of steps) h
  of_request (request.Change q w many) h = of_change (form_of q) w many h
  of_request (request.FindAndChange q w k) h = of_found (form_of q) w k h
  of_request (request.Upsert q w many u) h = of_upsert (form_of q) w many u h
  of_request (request.Remove id) h = of_call (model.remove (view id)) h
  of_request (request.Import stream e) h = of_import e stream.items h
  of_request (request.Transfer how) h = of_transfer how h
  of_request (request.Get id) h = same h
  of_request (request.Find f a) h = same h
  of_request (request.Count f p) h = same h
  of_request (request.Distinct path f counts) h = same h
  of_request (request.Aggregate f stages) h = same h
  of_request (request.Index path) h = same h
  of_request (request.DropIndex path) h = same h
  of_request request.Collections h = same h
  of_request request.Check h = same h

-- what is left is left by the request
module _ (s t : State) (clean : HasCleanDisk t) (first : Database) (docs : List TableRow) (beside : ShowsOthers first s) (stands : Stands s docs) (a : DocumentTable) (shown : Represents docs a) (db : Trees) (may : t.may_leave db) (n : List ℕ) where
  survived : Unmoved s t → s.may_leave db
  survived h = elim (h.crash clean db may) [ inl was ↦ was | inr none ↦ absurd none ]

  pub left_by_request : (q : Request) (r : model.Reply) → LeavesRequest n q r s t → LeftByRequest first s.may_leave n a q r db
  left_by_request q r h = of_request (Unmoved s t) (s.may_leave db) survived (LeavesIn s t n r) (LeftIn first s.may_leave n a r db) (λ P grows k. k clean first docs beside stands a shown db may) n r q h

-- if more could be left before, more is left after it
module _ (first : Database) (Before More : Trees → Type 0) (more : (db : Trees) → Before db → More db) (n : List ℕ) (a : DocumentTable) (db : Trees) where
  pub more_by_request : (q : Request) (r : model.Reply) → LeftByRequest first Before n a q r db → LeftByRequest first More n a q r db
  more_by_request q r h =
      of_request (Before db) (More db) (more db) (LeftIn first Before n a r db) (LeftIn first More n a r db) (λ P grows k. grows _ _ (λ b xs. HoldsDone first b xs db) (λ t. Holds first db t) _ _ (λ b call l. left_more (Holds first) Before More more (state_of b) (model.on n call) r db l) (more db) a k) n r q h
