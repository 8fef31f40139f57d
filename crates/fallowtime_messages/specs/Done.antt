-- Requests that were done on a store, one after the other (as the lines of a session, `Deeds` of fallowtime_commands).
use Rattle.std.specs.Prelude.{◌≡◌, List, [], ◌∷◌, Bool, IsTrue, Some}
use Rattle.sqlite.specs.Effect.{Database}
use Rattle.sqlite.specs.State.{State}
use Rattle.sqlite.specs.Tree.{Trees}
use Rattle.store_table.specs.Beside.{ShowsOthers}
use Rattle.store_table.specs.Moves.{Moves}
use Rattle.store_table.specs.Rows.{TableRow}
use Rattle.fallowtime_commands.specs.Deeds.{Changes, Deed, IsOpenFor, LeftByDeed}

-- each over the rows that the one before it left
abbrev pub AreDone : List Deed → List TableRow → List TableRow → Type 0
AreDone [] docs after = after ≡ docs
AreDone (d ∷ ds) docs after = (mid : List TableRow) × Changes (Some d) docs mid × AreDone ds mid after

-- which databases a crash may leave along them: each begins with those that it may leave after the one before
abbrev pub LeftAlong : Database → (Trees → Type 0) → (ds : List Deed) (docs after : List TableRow) → AreDone ds docs after → Trees → Type 0
LeftAlong first Before [] docs after done = Before
LeftAlong first Before (d ∷ ds) docs after (mid, changes, done) = LeftAlong first (LeftByDeed first Before docs (Some d)) ds mid after done

-- whether the connection is open: it is if a request was accepted, and once shut it stays shut
abbrev pub IsOpenAlong : Bool → List Deed → Bool → Type 0
IsOpenAlong was_open [] is_open = is_open ≡ was_open
IsOpenAlong was_open (d ∷ ds) is_open = (mid : Bool) × (IsTrue mid → IsTrue was_open) × IsOpenFor (Some d) mid × IsOpenAlong mid ds is_open

-- They are done along these rows; and each database that a crash may leave now is left along them, with the other tables as they were.
pub record LeavesDeeds (ds : List Deed) (old new : State) (docs after : List TableRow) : Type 0 where
  pub done : AreDone ds docs after
  pub opens : IsOpenAlong old.is_open ds new.is_open
  pub left : (first : Database) → ShowsOthers first old → (db : Trees) → new.may_leave db → LeftAlong first old.may_leave ds docs after done db

-- these, and nothing else, were done
abbrev pub DidAll : List Deed → State → State → Type 0
DidAll ds old new = Moves old new (LeavesDeeds ds old new)

-- so of some of which this holds
abbrev pub DoesAll : (List Deed → Type 0) → State → State → Type 0
DoesAll Is old new = (ds : List Deed) × Is ds × DidAll ds old new
