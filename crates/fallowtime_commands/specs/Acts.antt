-- What a line has done on a store: one request, or nothing; or a list of requests.
use Rattle.std.specs.Prelude.{List, Option, Result, Bool, IsTrue, OnOk, Vec}
use Rattle.std.specs.declared.alloc.Global.{Global}
use Rattle.sqlite.specs.Effect.{Database}
use Rattle.sqlite.specs.State.{State}
use Rattle.sqlite.specs.Tree.{Trees}
use Rattle.store_table.specs.Moves.{Moves, WasOpen}
use Rattle.store_table.specs.Rows.{TableRow}
use Rattle.store_model.specs.Table.{DocumentTable}
use Rattle.bson_store.specs.Shown.{Represents}
use Rattle.fallowtime_commands.specs.declared.answer.Answer.{Answer}
use Rattle.fallowtime_commands.specs.Listing.{LeavesAll, LeftByAll, PerformsAll}
use Rattle.fallowtime_commands.specs.declared.session.error.ListError.{ListError}
use Rattle.fallowtime_requests.specs.declared.reading.Question.{Question}
use Rattle.fallowtime_commands.specs.Deeds.{Changes, Deed, IsOpenFor, LeavesDeed, LeftByDeed, WasOpenFor}

-- a request, if there was one, or a list of them, and its outcome
pub data Act : Type 0 where
  single : Option Deed → Act
  list : (questions : List Question) (outcome : Result (Vec Answer Global) ListError) → Act

-- what it did to the rows
abbrev pub ChangesBy : Act → List TableRow → List TableRow → Type 0
ChangesBy (single deed) docs after = Changes deed docs after
ChangesBy (list qs o) docs after = PerformsAll qs o docs after

-- if it was accepted, the connection is open
abbrev pub IsOpenAfter : Act → Bool → Type 0
IsOpenAfter (single deed) is_open = IsOpenFor deed is_open
IsOpenAfter (list qs o) is_open = OnOk o (IsTrue is_open)

-- and was before
abbrev pub WasOpenBy : Act → State → State → Type 0
WasOpenBy (single deed) old new = WasOpenFor deed old new
WasOpenBy (list qs o) old new = WasOpen old new o

-- what a crash leaves of it
abbrev pub LeavesAct : Act → State → State → Type 0
LeavesAct (single deed) old new = LeavesDeed deed old new
LeavesAct (list qs o) old new = LeavesAll qs o old new

-- which databases that is, over these rows, beside the other tables of the first; before it they were those of Before
abbrev pub LeftByAct : Database → (Trees → Type 0) → List TableRow → Act → Trees → Type 0
LeftByAct first Before docs (single deed) db = LeftByDeed first Before docs deed db
LeftByAct first Before docs (list qs o) db = (a : DocumentTable) → Represents docs a → LeftByAll Before first a qs o db

-- it, and nothing else, was done
pub record Acted (act : Act) (old new : State) : Type 0 where
  pub moves : Moves old new (ChangesBy act)
  pub stays : WasOpenBy act old new
  pub crash : LeavesAct act old new

-- so of one of which this holds
abbrev pub DoesOne : (Act → Type 0) → State → State → Type 0
DoesOne Is old new = (act : Act) × Is act × Acted act old new
