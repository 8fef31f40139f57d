-- What one request has done on a store.
use Rattle.std.specs.Prelude.{◌≡◌, ℕ, List, Option, None, Some, Result, Bool, IsTrue, OnOk}
use Rattle.sqlite.specs.Effect.{Database}
use Rattle.sqlite.specs.State.{State, Survives}
use Rattle.sqlite.specs.Tree.{Trees}
use Rattle.store_table.specs.Moves.{Moves, WasOpen}
use Rattle.store_table.specs.Rows.{TableRow}
use Rattle.store_model.specs.Table.{DocumentTable}
use Rattle.store_model.specs.declared.error.StoreError.{StoreError}
use Rattle.bson_store.specs.Shown.{Represents}
use Rattle.fallowtime_commands.specs.Left.{LeavesRequest, LeftByRequest}
use Rattle.fallowtime_commands.specs.Performing.{Performs, reply_of}
use Rattle.fallowtime_commands.specs.declared.answer.Answer.{Answer}
use Rattle.fallowtime_requests.specs.declared.request.Request.{Request}

-- a request that was done on the collection of this name, and its outcome
pub record Deed : Type 0 where
  pub name : List ℕ
  pub request : Request
  pub outcome : Result Answer StoreError

-- what it did to the rows; if there is none, they are as they were
abbrev pub Changes : Option Deed → List TableRow → List TableRow → Type 0
Changes None docs after = after ≡ docs
Changes (Some d) docs after = Performs d.name d.request d.outcome docs after

-- if it was accepted, the connection is open
abbrev pub IsOpenFor : Option Deed → Bool → Type 0
IsOpenFor None is_open = Unit {0}
IsOpenFor (Some d) is_open = OnOk d.outcome (IsTrue is_open)

-- and was before
abbrev pub WasOpenFor : Option Deed → State → State → Type 0
WasOpenFor None old new = Unit {0}
WasOpenFor (Some d) old new = WasOpen old new d.outcome

-- what a crash leaves of it
abbrev pub LeavesDeed : Option Deed → State → State → Type 0
LeavesDeed None old new = Survives old new (λ _. ⊥)
LeavesDeed (Some d) old new = LeavesRequest d.name d.request (reply_of d.outcome) old new

-- which databases that is, over these rows, beside the other tables of the first; before it they were those of Before
abbrev pub LeftByDeed : Database → (Trees → Type 0) → List TableRow → Option Deed → Trees → Type 0
LeftByDeed first Before docs None db = Before db
LeftByDeed first Before docs (Some d) db = (a : DocumentTable) → Represents docs a → LeftByRequest first Before d.name a d.request (reply_of d.outcome) db

-- it, and nothing else, was done
pub record Did (deed : Option Deed) (old new : State) : Type 0 where
  pub moves : Moves old new (Changes deed)
  pub stays : WasOpenFor deed old new
  pub crash : LeavesDeed deed old new
