-- Lists of changes, done whole or not at all.
use Rattle.std.specs.Prelude.{◌≡◌, ◌⊎◌, ◌++◌, ◌∷◌, [], ℕ, List, length, None, Result, Ok, Err, OnErr, MatchOption, MatchResult, string_bytes}
use Rattle.sqlite.specs.State.{State}
use Rattle.sqlite_trees.specs.Tree.{Trees}
use Rattle.sqlite.specs.Effect.{Database}
use Rattle.bson_model.specs.View.{view}
use Rattle.store_table.specs.Rows.{TableRow}
use Rattle.store_model.specs.Reading.{Reading, ReadsBytes, unreadable}
use Rattle.store_model.specs.State as model
use Rattle.store_model.specs.Table.{DocumentTable, Serves, state_of}
use Rattle.store_model.specs.declared.error.ErrorKind.{ErrorKind}
use Rattle.store_model.specs.declared.error.StoreError.{StoreError}
use Rattle.bson_store.specs.Drafting.{EditsTo, IsFault, KeepBy, PutBy}
use Rattle.bson_store.specs.Left.{Along, Holds}
use Rattle.bson_store.specs.Shown.{Represents}
use Rattle.bson_store.specs.declared.draft.Draft.{Draft}
use Rattle.bson_store.specs.Drafted.{IsOver, drafted}
use Rattle.bson_store.specs.declared.edit.Edit.{Edit}
use Rattle.bson_store.specs.declared.edit.Edit.TheVariants.{InsertRaw, ReplaceRaw, PutRaw, KeepRaw, Remove}
use Rattle.bson_store.specs.declared.edit.ListRefusal.{ListRefusal}

-- What a change does by the commands of the store, with bytes by what they read as; `By s c r t`: the command c leads from
-- s to t with the reply r.
abbrev pub EditBy : {X : Type 0} → (X → model.Command → model.Reply → X → Type 0) → Edit → X → model.Reply → X → Type 0
EditBy By (InsertRaw name bytes) s r t = (x : Reading) × ReadsBytes bytes.items x × By s (model.on (string_bytes name) (model.insert model.in_bytes x)) r t
EditBy By (ReplaceRaw name bytes) s r t = (x : Reading) × ReadsBytes bytes.items x × By s (model.on (string_bytes name) (model.replace model.in_bytes x)) r t
EditBy By (PutRaw name bytes) s r t = (x : Reading) × ReadsBytes bytes.items x × PutBy By (string_bytes name) x s r t
EditBy By (KeepRaw name bytes) s r t = (x : Reading) × ReadsBytes bytes.items x × KeepBy By (string_bytes name) x s r t
EditBy By (Remove name id) s r t = By s (model.on (string_bytes name) (model.remove (view id))) r t

-- a change is decided before anything grows: by a bad name, or by bytes that can't be read
abbrev pub IsDecidedBytes : List ℕ → List ℕ → Type 0
IsDecidedBytes n bytes = (model.IsName n → ⊥) ⊎ ((k : ErrorKind) × ReadsBytes bytes (unreadable k))

abbrev pub IsDecidedEdit : Edit → Type 0
IsDecidedEdit (InsertRaw name bytes) = IsDecidedBytes (string_bytes name) bytes.items
IsDecidedEdit (ReplaceRaw name bytes) = IsDecidedBytes (string_bytes name) bytes.items
IsDecidedEdit (PutRaw name bytes) = IsDecidedBytes (string_bytes name) bytes.items
IsDecidedEdit (KeepRaw name bytes) = IsDecidedBytes (string_bytes name) bytes.items
IsDecidedEdit (Remove name id) = model.IsName (string_bytes name) → ⊥

-- each change is accepted, in the state that those before it leave: the last leaves t
abbrev pub Accepted : model.State → List Edit → model.State → Type 0
Accepted s [] t = t ≡ s
Accepted s (x ∷ xs) t = (u : model.State) × EditBy model.Step x s model.done u × Accepted u xs t

-- a change is refused in a state: by itself, or as something is denied to it, and never if it is decided before anything grows
abbrev pub IsRefusedIn : model.State → Edit → StoreError → Type 0
IsRefusedIn s x e = EditBy model.Step x s (model.refused e.kind e.document) s ⊎ (IsFault e × (IsDecidedEdit x → ⊥))

-- the changes lead from a to a table that the rows show
pub record IsDone (a : DocumentTable) (edits : List Edit) (docs : List TableRow) : Type 0 where
  pub b : DocumentTable
  pub shown : Represents docs b
  pub run : Accepted (state_of a) edits (state_of b)

-- those before position i are accepted, and the next one is refused in the state that they leave
pub record StopsAt (a : DocumentTable) (edits : List Edit) (i : ℕ) (e : StoreError) : Type 0 where
  pub front : List Edit
  pub x : Edit
  pub back : List Edit
  pub split : edits ≡ front ++ x ∷ back
  pub at : length front ≡ i
  pub s : model.State
  pub run : Accepted (state_of a) front s
  pub refuses : IsRefusedIn s x e

abbrev pub WhyNot : DocumentTable → List Edit → ListRefusal → Type 0
WhyNot a edits r = MatchOption r.position (IsFault r.error) (λ i. StopsAt a edits i r.error)

-- all changes are done, or none, and the answer says which is refused and why
pub record DoesAll (edits : List Edit) (result : Result (Unit {0}) ListRefusal) (docs after : List TableRow) : Type 0 where
  pub same : OnErr result (after ≡ docs)
  pub told : (a : DocumentTable) → Represents docs a → MatchResult result (λ _. IsDone a edits after) (WhyNot a edits)

-- a database holds the state at the end of all changes
pub record HoldsDone (first : Database) (a : DocumentTable) (edits : List Edit) (db : Trees) : Type 0 where
  pub t : model.State
  pub run : Accepted (state_of a) edits t
  pub holds : Holds first db t

abbrev pub LeftWhole : (Trees → Type 0) → Database → DocumentTable → List Edit → Result (Unit {0}) ListRefusal → Trees → Type 0
LeftWhole before first a edits (Ok x) db = HoldsDone first a edits db
LeftWhole before first a edits (Err r) db = before db ⊎ ((r.position ≡ None) × HoldsDone first a edits db)

-- After all changes a crash leaves the state at their end and no other; after a refusal what it might leave before,
-- or, if the whole was refused, that state: never one in between.
abbrev pub LeavesWhole : List Edit → Result (Unit {0}) ListRefusal → State → State → Type 0
LeavesWhole edits result old new = Along old new (λ first a db. LeftWhole old.may_leave first a edits result db)

-- ---- on the way

-- the changes so far, as the draft has them
pub record SoFar (a : DocumentTable) (edits : List Edit) (draft : Draft) (docs : List TableRow) : Type 0 where
  pub over : IsOver draft docs
  pub all : IsDone a edits (drafted draft docs)

-- the rows stay, and the draft has the changes
pub record DraftsAll (edits : List Edit) (draft : Draft) (docs after : List TableRow) : Type 0 where
  pub same : after ≡ docs
  pub far : (a : DocumentTable) → Represents docs a → SoFar a edits draft docs

-- one change: the draft has it, or why it is refused
abbrev pub EditsOne : Edit → Result (Unit {0}) StoreError → Draft → Draft → List TableRow → List TableRow → Type 0
EditsOne x result = EditsTo (EditBy Serves x) (EditBy model.Step x) (IsDecidedEdit x) result

-- Changes one after the other: the draft has them, or the first that is refused stops it. The rows stay.
pub record EditsAll (edits : List Edit) (result : Result (Unit {0}) ListRefusal) (old new : Draft) (docs after : List TableRow) : Type 0 where
  pub same : after ≡ docs
  pub told : IsOver old docs → (a : DocumentTable) → Represents (drafted old docs) a → MatchResult result (λ _. SoFar a edits new docs) (WhyNot a edits)
