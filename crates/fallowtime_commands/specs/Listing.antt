-- Lists of requests, done whole or not at all.
use Rattle.std.specs.Prelude.{◌≡◌, ◌⊎◌, ◌++◌, ◌∷◌, [], ℕ, List, length, None, Result, Ok, Err, OnErr, MatchOption, MatchResult, Vec}
use Rattle.std.specs.declared.alloc.Global.{Global}
use Rattle.sqlite.specs.Effect.{Database}
use Rattle.sqlite.specs.State as sqlite
use Rattle.sqlite_trees.specs.Tree.{Trees}
use Rattle.bson_store.specs.Drafted.{IsOver, drafted}
use Rattle.bson_store.specs.declared.draft.Draft.{Draft}
use Rattle.store_model.specs.State.{State}
use Rattle.store_model.specs.Table.{DocumentTable, state_of}
use Rattle.store_model.specs.declared.error.ErrorKind.{ErrorKind}
use Rattle.store_model.specs.declared.error.ErrorKind.TheVariants as kind
use Rattle.store_model.specs.declared.error.StoreError.{StoreError}
use Rattle.store_table.specs.Rows.{TableRow}
use Rattle.bson_store.specs.Left.{Along, Holds, ShowState}
use Rattle.bson_store.specs.Shown.{Represents}
use Rattle.fallowtime_commands.specs.Performing.{IsAnswerTo, Performs}
use Rattle.fallowtime_commands.specs.declared.answer.Answer.{Answer}
use Rattle.fallowtime_commands.specs.declared.answer.Answer.TheVariants as answer
use Rattle.fallowtime_requests.specs.declared.reading.Question.{Question}
use Rattle.fallowtime_requests.specs.declared.request.Request.{Request}
use Rattle.fallowtime_requests.specs.declared.request.Request.TheVariants as request
use Rattle.fallowtime_commands.specs.declared.session.error.ListError.{ListError}
use Rattle.fallowtime_commands.specs.declared.session.error.Reason.{Reason}
use Rattle.fallowtime_commands.specs.declared.session.error.Reason.TheVariants as reason

-- ---- one request

-- The request by itself may have this outcome on rows that show the state s, and leave rows that show t. The places of
-- rows are no part of a state: in a list they may be others than if the requests came one by one.
abbrev pub PerformsIn : List ℕ → Request → Result Answer StoreError → State → State → Type 0
PerformsIn n q o s t = (old new : List TableRow) × ShowState old s × ShowState new t × Performs n q o old new

-- memory ran out, there are no places, or the database refused
abbrev pub IsLack : ErrorKind → Type 0
IsLack kind.Memory = Unit {0}
IsLack kind.Database = Unit {0}
IsLack kind.Places = Unit {0}
IsLack _ = ⊥

abbrev pub IsLacking : Reason → Type 0
IsLacking (reason.Refused e) = IsLack e.kind
IsLacking _ = ⊥

-- the requests that a list may have
abbrev pub CanBeListed : Request → Type 0
CanBeListed (request.Insert id d) = Unit {0}
CanBeListed (request.Put d) = Unit {0}
CanBeListed (request.Replace d) = Unit {0}
CanBeListed (request.Get id) = Unit {0}
CanBeListed (request.Set id key v) = Unit {0}
CanBeListed (request.Unset id key) = Unit {0}
CanBeListed (request.Alter id steps told) = Unit {0}
CanBeListed (request.Change q w many) = Unit {0}
CanBeListed (request.Upsert q w many u) = Unit {0}
CanBeListed (request.Remove id) = Unit {0}
CanBeListed (request.Find q w) = Unit {0}
CanBeListed (request.FindAndChange q w k) = Unit {0}
CanBeListed (request.Count q p) = Unit {0}
CanBeListed (request.Distinct path q counts) = Unit {0}
CanBeListed _ = ⊥

-- the request is refused in the state s, as it is by itself, or because a list has none of its kind
abbrev pub IsRefusedIn : State → List ℕ → Request → Reason → Type 0
IsRefusedIn s n q (reason.Refused e) = PerformsIn n q (Err e) s s
IsRefusedIn s n q (reason.NotUpdated i e) = PerformsIn n q (Ok (answer.NotUpdated i e)) s s
IsRefusedIn s n q (reason.NotUpserted e) = PerformsIn n q (Ok (answer.NotUpserted e)) s s
IsRefusedIn s n q reason.NotInLists = CanBeListed q → ⊥

-- ---- all of them

-- each request is done, with its answer, in the state that those before it leave: the last leaves t
abbrev pub Performed : State → List Question → List Answer → State → Type 0
Performed s [] [] t = t ≡ s
Performed s (q ∷ qs) (x ∷ xs) t = (u : State) × PerformsIn q.collection.now q.request (Ok x) s u × Performed u qs xs t
Performed s _ _ t = ⊥

-- the requests lead from a to a table that the rows show
pub record IsPerformed (a : DocumentTable) (qs : List Question) (xs : List Answer) (docs : List TableRow) : Type 0 where
  pub b : DocumentTable
  pub shown : Represents docs b
  pub run : Performed (state_of a) qs xs (state_of b)

-- those before the position i are done, and the next one is refused in the state that they leave
pub record StopsAt (a : DocumentTable) (qs : List Question) (i : ℕ) (why : Reason) : Type 0 where
  pub front : List Question
  pub q : Question
  pub back : List Question
  pub split : qs ≡ front ++ q ∷ back
  pub at : length front ≡ i
  pub xs : List Answer
  pub s : State
  pub run : Performed (state_of a) front xs s
  pub refuses : IsRefusedIn s q.collection.now q.request why

abbrev pub WhyNone : DocumentTable → List Question → ListError → Type 0
WhyNone a qs e = MatchOption e.request (IsLacking e.reason) (λ i. StopsAt a qs i e.reason)

-- all requests are done, or none, and the error says which is refused and why
pub record PerformsAll (qs : List Question) (result : Result (Vec Answer Global) ListError) (docs after : List TableRow) : Type 0 where
  pub same : OnErr result (after ≡ docs)
  pub told : (a : DocumentTable) → Represents docs a → MatchResult result (λ (xs : Vec Answer Global). IsPerformed a qs xs.items after) (WhyNone a qs)

-- each answer is one to its request
abbrev pub AreAnswersTo : List Question → List Answer → Type 0
AreAnswersTo [] [] = Unit {0}
AreAnswersTo (q ∷ qs) (x ∷ xs) = IsAnswerTo q.request x × AreAnswersTo qs xs
AreAnswersTo _ _ = ⊥

-- ---- what a crash leaves

-- a database holds the state at the end of all requests
pub record HoldsPerformed (first : Database) (a : DocumentTable) (qs : List Question) (xs : List Answer) (db : Trees) : Type 0 where
  pub t : State
  pub run : Performed (state_of a) qs xs t
  pub holds : Holds first db t

abbrev pub LeftByAll : (Trees → Type 0) → Database → DocumentTable → List Question → Result (Vec Answer Global) ListError → Trees → Type 0
LeftByAll before first a qs (Ok xs) db = HoldsPerformed first a qs xs.items db
LeftByAll before first a qs (Err e) db = before db ⊎ ((e.request ≡ None) × ((xs : List Answer) × HoldsPerformed first a qs xs db))

-- After all requests a crash leaves the state at their end and no other; after a refusal what it might leave before,
-- or, if the whole was refused, that state: never one in between.
abbrev pub LeavesAll : List Question → Result (Vec Answer Global) ListError → sqlite.State → sqlite.State → Type 0
LeavesAll qs result old new = Along old new (λ first a db. LeftByAll old.may_leave first a qs result db)

-- ---- on the way

-- One request in a draft, which is over the table still: its change is in the draft; or why it is refused. The rows stay.
pub record PerformsDrafted (n : List ℕ) (q : Request) (result : Result Answer Reason) (old new : Draft) (docs after : List TableRow) : Type 0 where
  pub same : after ≡ docs
  pub told : IsOver old docs → (a : DocumentTable) → Represents (drafted old docs) a
      → MatchResult result
      (λ x. IsOver new docs × ((b : DocumentTable) × Represents (drafted new docs) b × PerformsIn n q (Ok x) (state_of a) (state_of b)))
      (λ why. IsLacking why ⊎ IsRefusedIn (state_of a) n q why)

-- the same of what the store alone refuses
abbrev pub as_reason : Result Answer StoreError → Result Answer Reason
as_reason (Ok x) = Ok x
as_reason (Err e) = Err (reason.Refused e)

-- the draft has the changes so far
pub record DraftsPerformed (qs : List Question) (xs : List Answer) (draft : Draft) (docs : List TableRow) : Type 0 where
  pub over : (a : DocumentTable) → Represents docs a → IsOver draft docs
  pub all : (a : DocumentTable) → Represents docs a → IsPerformed a qs xs (drafted draft docs)

-- one more request, whose answer is behind the others
pub record PerformsNext (q : Question) (xs ys : List Answer) (result : Result (Unit {0}) Reason) (old new : Draft) (docs after : List TableRow) : Type 0 where
  pub same : after ≡ docs
  pub told : IsOver old docs → (a : DocumentTable) → Represents (drafted old docs) a
      → MatchResult result
      (λ _. IsOver new docs × ((x : Answer) × (ys ≡ xs ++ x ∷ []) × ((b : DocumentTable) × Represents (drafted new docs) b × PerformsIn q.collection.now q.request (Ok x) (state_of a) (state_of b))))
      (λ why. IsLacking why ⊎ IsRefusedIn (state_of a) q.collection.now q.request why)

-- The rows stay. From a draft without changes on: it has those of all requests; or why one is refused.
pub record PerformsEach (qs : List Question) (xs : List Answer) (result : Result (Unit {0}) ListError) (old new : Draft) (docs after : List TableRow) : Type 0 where
  pub same : after ≡ docs
  pub told : DraftsPerformed [] [] old docs → MatchResult result (λ _. DraftsPerformed qs xs new docs) (λ e. (a : DocumentTable) → Represents docs a → WhyNone a qs e)
