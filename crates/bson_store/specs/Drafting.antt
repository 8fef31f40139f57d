-- What a change does to rows that a draft would make.
use Rattle.std.specs.Prelude.{◌≡◌, ◌≢◌, ◌⊎◌, ℕ, List, Option, None, Result, Ok, Err, IfErr, IfOk, OnOk, OnErr, Vec, map}
use Rattle.std.specs.declared.alloc.Global.{Global}
use Rattle.bson_base.specs.Value.{Members, Value}
use Rattle.bson_bytes.specs.Encode.{encode}
use Rattle.sqlite.specs.State.{State}
use Rattle.store_table.specs.Rows.{TableRow}
use Rattle.store_table.specs.Moves.{FindsRow, Settles}
use Rattle.store_table.specs.declared.fault.Fault.{Fault}
use Rattle.store_table.specs.declared.fault.Fault.TheVariants.{Places}
use Rattle.store_table.specs.declared.row.Found.{Found}
use Rattle.bson_store.specs.Draft.{ShowRows}
use Rattle.bson_store.specs.Drafted.{IsOver, drafted}
use Rattle.bson_store.specs.declared.draft.Draft.{Draft}
use Rattle.store_model.specs.Reading.{Reading, ReadsBytes, readable}
use Rattle.store_model.specs.Refusal.{refusal}
use Rattle.store_model.specs.Run.{IsDecided}
use Rattle.store_model.specs.State as model
use Rattle.store_model.specs.Table.{DocumentTable, Serves, documents_of, state_of}
use Rattle.store_model.specs.declared.error.ErrorKind.TheVariants.{BadName, DuplicateId, NotFound}
use Rattle.store_model.specs.declared.error.StoreError.{StoreError}
use Rattle.bson_store.specs.Calls.{Does, Looks}
use Rattle.bson_store.specs.Export.{bytes_of_each}
use Rattle.bson_store.specs.Refusals.{IsDenied, as_bytes, kind_of_fault, reply_by}
use Rattle.bson_store.specs.Shown.{Represents}
use Rattle.bson_store.specs.declared.edit.DraftedEdits.{DraftedEdits}

-- memory ran out, there were no places, or the database refused
abbrev pub IsFault : StoreError → Type 0
IsFault e = (x : Fault) × (e ≡ refusal (kind_of_fault x))

-- ---- changes that are more than one command

-- there was a document to replace
abbrev pub HasReplaced : model.Reply → Type 0
HasReplaced (model.refused NotFound i) = ⊥
HasReplaced _ = Unit {0}

-- the `_id` wasn't taken
abbrev pub HasInserted : model.Reply → Type 0
HasInserted (model.refused DuplicateId i) = ⊥
HasInserted _ = Unit {0}

-- On the collection n, with what bytes read as; `By s c r t`: the command c leads from s to t with the reply r.
module _ {X : Type 0} (By : X → model.Command → model.Reply → X → Type 0) (n : List ℕ) (x : Reading) where
  -- a replacement, or an insertion after one that found nothing
  abbrev pub PutBy : X → model.Reply → X → Type 0
  PutBy s r t =
      (HasReplaced r × By s (model.on n (model.replace model.in_bytes x)) r t)
      ⊎ ((m : X) × By s (model.on n (model.replace model.in_bytes x)) (model.refused NotFound None) m × By m (model.on n (model.insert model.in_bytes x)) r t)

  -- an insertion, or nothing if the `_id` is taken
  abbrev pub KeepBy : X → model.Reply → X → Type 0
  KeepBy s r t =
      (HasInserted r × By s (model.on n (model.insert model.in_bytes x)) r t)
      ⊎ ((r ≡ model.done) × By s (model.on n (model.insert model.in_bytes x)) (model.refused DuplicateId None) t)

-- ---- what becomes of rows

-- The table that a change leads to is one that rows may show, and these rows show its documents, in its order. Their
-- places may be others: in a draft one that was taken isn't taken again.
pub record Arrives (To : DocumentTable → Type 0) (after : List TableRow) : Type 0 where
  pub rows : List TableRow
  pub there : DocumentTable
  pub shown : Represents rows there
  pub to : To there
  pub b : DocumentTable
  pub seen : Represents after b
  pub same : state_of b ≡ state_of there

-- whatever table was shown, the change leads from it so, and is answered `done`
abbrev pub GoesBy : (DocumentTable → model.Reply → DocumentTable → Type 0) → List TableRow → List TableRow → Type 0
GoesBy On docs after = (a : DocumentTable) → Represents docs a → Arrives (On a model.done) after

abbrev pub Goes : model.Command → List TableRow → List TableRow → Type 0
Goes c = GoesBy (λ a r b. Serves a c r b)

abbrev pub GoesRead : List ℕ → (model.Form → Reading → model.Call) → Members → List TableRow → List TableRow → Type 0
GoesRead n call d docs after = (f : model.Form) → Goes (model.on n (call f (readable d))) docs after

-- It is refused in the state of whatever table is shown: by itself, or as something is denied to it, and never if it is
-- decided before anything grows.
abbrev pub DeclinesBy : (model.State → model.Reply → model.State → Type 0) → Type 0 → StoreError → List TableRow → Type 0
DeclinesBy In Decided e docs = (a : DocumentTable) → Represents docs a → In (state_of a) (model.refused e.kind e.document) (state_of a) ⊎ (IsFault e × (Decided → ⊥))

abbrev pub Declines : model.Command → StoreError → List TableRow → Type 0
Declines c = DeclinesBy (λ s r t. model.Step s c r t) (IsDecided c)

abbrev pub DeclinesRead : List ℕ → (model.Form → Reading → model.Call) → Members → StoreError → List TableRow → Type 0
DeclinesRead n call d e docs = (f : model.Form) → Declines (model.on n (call f (readable d))) e docs

-- ---- in a draft

-- the draft has one change more, which makes these rows of those that it would make, and it is over the table still
pub record Drafts (P : List TableRow → List TableRow → Type 0) (old new : Draft) (docs : List TableRow) : Type 0 where
  pub goes : P (drafted old docs) (drafted new docs)
  pub over : IsOver new docs

-- The rows stay. If the change isn't refused, the draft has it; else why it would be refused.
pub record Edits (P : List TableRow → List TableRow → Type 0) (Refused : StoreError → List TableRow → Type 0) (result : Result (Unit {0}) StoreError) (old new : Draft) (docs after : List TableRow) : Type 0 where
  pub same : after ≡ docs
  pub done : OnOk result (IsOver old docs → Drafts P old new docs)
  pub refused : IfErr result (λ e. IsOver old docs → Refused e (drafted old docs))

abbrev pub EditsTo : (DocumentTable → model.Reply → DocumentTable → Type 0) → (model.State → model.Reply → model.State → Type 0) → Type 0 → Result (Unit {0}) StoreError → Draft → Draft → List TableRow → List TableRow → Type 0
EditsTo On In Decided result = Edits (GoesBy On) (DeclinesBy In Decided) result

abbrev pub EditsBy : model.Command → Result (Unit {0}) StoreError → Draft → Draft → List TableRow → List TableRow → Type 0
EditsBy c result = Edits (Goes c) (Declines c) result

abbrev pub EditsRead : List ℕ → (model.Form → Reading → model.Call) → Members → Result (Unit {0}) StoreError → Draft → Draft → List TableRow → List TableRow → Type 0
EditsRead n call d result = Edits (GoesRead n call d) (DeclinesRead n call d) result

abbrev pub EditsPut : List ℕ → Reading → Result (Unit {0}) StoreError → Draft → Draft → List TableRow → List TableRow → Type 0
EditsPut n x result = EditsTo (PutBy Serves n x) (PutBy model.Step n x) (IsDecided (model.on n (model.replace model.in_bytes x))) result

abbrev pub EditsKept : List ℕ → Reading → Result (Unit {0}) StoreError → Draft → Draft → List TableRow → List TableRow → Type 0
EditsKept n x result = EditsTo (KeepBy Serves n x) (KeepBy model.Step n x) (IsDecided (model.on n (model.insert model.in_bytes x))) result

-- the same with what bytes read as
abbrev pub EditsBytes : (Reading → Result (Unit {0}) StoreError → Draft → Draft → List TableRow → List TableRow → Type 0) → List ℕ → Result (Unit {0}) StoreError → Draft → Draft → List TableRow → List TableRow → Type 0
EditsBytes By bytes result old new docs after = (x : Reading) × ReadsBytes bytes x × By x result old new docs after

-- the first row of a collection under a key in the rows that a draft would make
pub record FindsDrafted (coll idkey : List ℕ) (draft : Draft) (result : Result (Option Found) Fault) (docs after : List TableRow) : Type 0 where
  pub same : after ≡ docs
  pub found : IsOver draft docs → FindsRow coll idkey result (drafted draft docs) (drafted draft docs)

-- the row of the document with an id in those rows
pub record LooksDrafted (n : List ℕ) (id : Value) (draft : Draft) (result : Result (Option Found) StoreError) (docs after : List TableRow) : Type 0 where
  pub same : after ≡ docs
  pub looks : IsOver draft docs → Looks n id result (drafted draft docs) (drafted draft docs)

-- the written form of that document
pub record GetsDrafted (n : List ℕ) (id : Value) (draft : Draft) (result : Result (Vec ℕ Global) StoreError) (docs after : List TableRow) : Type 0 where
  pub same : after ≡ docs
  pub got : IsOver draft docs → Does (model.on n (model.get_raw id)) (reply_by as_bytes result) (drafted draft docs) (drafted draft docs)

-- ---- all documents of a collection in those rows

-- the rows of a collection are held
pub record HoldsRows (coll : List ℕ) (result : Result (Vec Found Global) Fault) (docs after : List TableRow) : Type 0 where
  pub same : after ≡ docs
  pub rows : IfOk result (λ v. ShowRows coll v.items docs)
  pub faults : IfErr result (λ e. e ≢ Places)

-- whatever table the rows show that a draft would make, the written forms of a collection's documents are held
pub record HeldDrafted (draft : Draft) (n : List ℕ) (result : Result (Vec (Vec ℕ Global) Global) StoreError) (docs after : List TableRow) : Type 0 where
  pub same : after ≡ docs
  pub bodies : (a : DocumentTable) → Represents (drafted draft docs) a → IfOk result (λ v. bytes_of_each v.items ≡ map encode (documents_of a n))
  pub denied : IfErr result IsDenied

-- the same of any name: one that is bad is refused
abbrev pub HoldsDrafted : Draft → List ℕ → Result (Vec (Vec ℕ Global) Global) StoreError → List TableRow → List TableRow → Type 0
HoldsDrafted draft n result docs after = (model.IsName n × HeldDrafted draft n result docs after) ⊎ ((model.IsName n → ⊥) × (result ≡ Err (refusal BadName)) × (after ≡ docs))

-- ---- its beginning and its end

-- a draft without changes is over whatever table is shown
pub record BeginsDraft (result : Result DraftedEdits StoreError) (docs after : List TableRow) : Type 0 where
  pub same : after ≡ docs
  pub begun : IfOk result (λ x. (drafted x.draft docs ≡ docs) × ((a : DocumentTable) → Represents docs a → IsOver x.draft docs))
  pub denied : IfErr result IsDenied

-- the changes of a draft are made, all of them or none
pub record MakesDrafted (draft : Draft) (result : Result (Unit {0}) StoreError) (docs after : List TableRow) : Type 0 where
  pub done : OnOk result (after ≡ drafted draft docs)
  pub refused : OnErr result (after ≡ docs)
  pub denied : IfErr result IsDenied

-- after that a crash leaves only the rows that the draft makes
abbrev pub SettlesDrafted : Draft → State → State → Type 0
SettlesDrafted draft old new = Settles {A = Unit {0}} (drafted draft) old new (Ok tt)
