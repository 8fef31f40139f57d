-- What calls over a writer do to the rows that it serves, and what a crash leaves of them.
use Rattle.std.specs.Prelude.{◌≡◌, ℕ, List, Result, Ok, Err, IfErr, IsTrue, OnOk}
use Rattle.sqlite_disk.specs.declared.Disk.{Ghosts}
use Rattle.sqlite_wal.specs.Recovery.{Image}
use Rattle.sqlite_pool.specs.Stored.{Keeps}
use Rattle.sqlite.specs.Effect.{Database}
use Rattle.store_table.specs.Rows.{TableRow}
use Rattle.store_table.specs.declared.fault.Fault.{Fault}
use Rattle.store_table.specs.declared.fault.Fault.TheVariants.{Places}
use Rattle.store_model.specs.Left.{LeftBy}
use Rattle.store_model.specs.Reading.{Reading, ReadsBytes}
use Rattle.store_model.specs.Refusal.{refusal}
use Rattle.store_model.specs.State as model
use Rattle.store_model.specs.Table.{DocumentTable, state_of as lists_of}
use Rattle.store_model.specs.declared.error.ErrorKind.TheVariants.{NotFound}
use Rattle.store_model.specs.declared.error.StoreError.{StoreError}
use Rattle.bson_store.specs.Left.{ShowState}
use Rattle.bson_store.specs.Refusals.{kind_of_fault}
use Rattle.bson_store.specs.Shown.{Represents}
use Rattle.store_table.specs.Store.{HoldRows}
use Rattle.store_table.specs.Writer.{Leaves, LeavesEither, Serves, size_of, state_of}
use Rattle.store_table.specs.declared.pages.writer.Writer.{Writer}

-- a fault as the store's refusal
abbrev pub outcome : Result (Unit {0}) Fault → Result (Unit {0}) StoreError
outcome (Ok x) = Ok x
outcome (Err e) = Err (refusal (kind_of_fault e))

abbrev pub IsUnfound : {A : Type 0} → Result A StoreError → Type 0
IsUnfound (Ok x) = ⊥
IsUnfound (Err e) = e.kind ≡ NotFound

-- files with rows that show this state
abbrev pub HoldState : Database → ℕ → Image → model.State → Type 0
HoldState first size image s = ∥ ((docs : List TableRow) × HoldRows first size image docs × ShowState docs s) ∥₁

module _ {D : Type 0} {g : Ghosts D} where
  -- whatever rows the writer served, it serves them still
  abbrev pub Stays : Writer D g → Writer D g → Type 0
  Stays old new = Keeps (state_of old) (state_of new) × (IsTrue (state_of new).is_clean → (first : Database) (docs : List TableRow) → Serves first old docs → Serves first new docs)

  -- and R relates them to themselves
  abbrev pub Reads : Writer D g → Writer D g → (List TableRow → List TableRow → Type 0) → Type 0
  Reads old new R = IsTrue (state_of new).is_clean → (first : Database) (docs : List TableRow) → Serves first old docs → R docs docs × Serves first new docs

  -- A change was committed: a crash leaves the changed rows alone. Or that was refused, and a crash leaves the rows of
  -- before or those; only those of before, if there was no place.
  pub record Committed (first : Database) (old new : Writer D g) (result : Result (Unit {0}) Fault) (docs made : List TableRow) : Type 0 where
    pub done : OnOk result (Leaves first new made)
    pub crash : IfErr result (λ e. Leaves first old docs → LeavesEither first new docs made)
    pub full : IfErr result (λ e. e ≡ Places → Leaves first old docs → Leaves first new docs)

  -- an accepted call relates the rows to others, which a crash then leaves; a refused one, to themselves
  abbrev pub Turned : {A : Type 0} → Database → Writer D g → Writer D g → Result A StoreError → (List TableRow → List TableRow → Type 0) → List TableRow → Type 0
  Turned first old new (Ok x) R docs = (made : List TableRow) × R docs made × (Leaves first old docs → Leaves first new made)
  Turned first old new (Err e) R docs = R docs docs

  -- so does it whatever rows the writer served, if no wrong answer of the disk was taken as true
  abbrev pub Turns : {A : Type 0} → Writer D g → Writer D g → Result A StoreError → (List TableRow → List TableRow → Type 0) → Type 0
  Turns old new result R = IsTrue (state_of new).is_clean → (first : Database) (docs : List TableRow) → Serves first old docs → Turned first old new result R docs

  -- Whatever rows the writer served, and whatever table they showed, if a crash left these alone: P holds of whatever a
  -- crash leaves now.
  abbrev pub Along : Writer D g → Writer D g → (Database → DocumentTable → Image → Type 0) → Type 0
  Along old new P =
      IsTrue (state_of new).is_clean → (first : Database) (docs : List TableRow) → Serves first old docs → Leaves first old docs → (a : DocumentTable) → Represents docs a
      → (left : Image) → (state_of new).may_leave left → P first a left

  -- it is what the store's call leaves of the lists of the table
  abbrev pub IsLeftBy : Writer D g → model.Command → model.Reply → Database → DocumentTable → Image → Type 0
  IsLeftBy new c r first a left = LeftBy (HoldState first (size_of new)) (λ x. HoldState first (size_of new) x (lists_of a)) (lists_of a) c r left

  abbrev pub LeavesCall : Writer D g → Writer D g → List ℕ → model.Call → model.Reply → Type 0
  LeavesCall old new n call r = Along old new (IsLeftBy new (model.on n call) r)

  -- the same of a call with bytes, whatever they read as
  abbrev pub LeavesBytes : Writer D g → Writer D g → List ℕ → (Reading → model.Call) → List ℕ → model.Reply → Type 0
  LeavesBytes old new n call bytes r = (x : Reading) → ReadsBytes bytes x → LeavesCall old new n (call x) r
