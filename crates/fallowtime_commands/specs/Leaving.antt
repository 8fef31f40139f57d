-- What a crash leaves of a session.
use Rattle.std.specs.Prelude.{◌≡◌, List, [], ◌∷◌, Bool, IsTrue}
use Rattle.sqlite.specs.Effect.{Database}
use Rattle.sqlite.specs.State.{State}
use Rattle.sqlite.specs.Tree.{Trees}
use Rattle.store_table.specs.Beside.{ShowsOthers}
use Rattle.store_table.specs.Rows.{TableRow}
use Rattle.cli_convert.specs.declared.made.IdMaker.{IdMaker}
use Rattle.fallowtime_commands.specs.Acts.{IsOpenAfter, LeftByAct}
use Rattle.fallowtime_commands.specs.Sessions.{Holds, Turn}

-- Which databases a crash may leave along the lines: each begins with those that it may leave after the one before.
abbrev pub LeftAlong : Database → (Trees → Type 0) → (m n : IdMaker) (turns : List Turn) (docs after : List TableRow) → Holds m n turns docs after → Trees → Type 0
LeftAlong first Before m n [] docs after holds = Before
LeftAlong first Before m n (t ∷ ts) docs after (next, mid, answers, changes, holds) = LeftAlong first (LeftByAct first Before docs t.act) next n ts mid after holds

-- Whether the connection is open, line by line: it is if a request was accepted, and once shut it stays shut.
abbrev pub IsOpenAlong : Bool → List Turn → Bool → Type 0
IsOpenAlong was_open [] is_open = is_open ≡ was_open
IsOpenAlong was_open (t ∷ ts) is_open = (mid : Bool) × (IsTrue mid → IsTrue was_open) × IsOpenAfter t.act mid × IsOpenAlong mid ts is_open

-- The lines are answered one after the other, along these rows; and each database that a crash may leave now is left along them,
-- with the other tables as they were.
pub record LeavesTurns (m n : IdMaker) (turns : List Turn) (old new : State) (docs after : List TableRow) : Type 0 where
  pub holds : Holds m n turns docs after
  pub opens : IsOpenAlong old.is_open turns new.is_open
  pub left : (first : Database) → ShowsOthers first old → (db : Trees) → new.may_leave db → LeftAlong first old.may_leave m n turns docs after holds db
