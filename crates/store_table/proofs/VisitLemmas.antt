-- Rows that are taken one at a time.
use Rattle.std.proofs.Common.{◌≡◌, inr, ℕ, List, Ok, sym, subst}
use Rattle.sqlite.specs.Order.{Row}
use Rattle.sqlite.specs.Effect.{Database}
use Rattle.sqlite.specs.Listing.{understood, reads_listing, IsSourceOf}
use Rattle.sqlite.specs.Held.{Held, state}
use Rattle.sqlite.specs.Given.{HasGiven}
use Rattle.sqlite_trees.specs.declared.store.Store as store
use Rattle.sqlite.specs.State.{State, Shown, ShowsRows, Begins, IsUnchanged}
use Rattle.sqlite.specs.Clock.{timed}
use Rattle.sqlite.proofs.Callers.{given_begin, unchanged_then}
use Rattle.store_table.specs.Visit.{IsSelect, TookSome}
use Rattle.store_table.proofs.AnyLemmas.{bare}

-- a prefix stays one if nothing has changed
begins_before : (sql : List ℕ) (params : Row) (old new : State) (rows : List Row) → IsUnchanged old new → Begins sql params new rows → Begins sql params old rows
unfolding Begins
begins_before sql params old new rows same h =
    let is = same.0.now_is in (
      h.0,
      record { is = subst (λ (d : Database). understood d.schema sql ≡ Ok h.0) is h.1.is; whole = h.1.whole; given = h.1.given; now = h.1.now },
      h.2,
      h.3,
      subst (λ (d : Database). IsSourceOf (reads_listing d.schema sql) d h.3) is h.4,
      h.5,
    )

pub took_some : {S V : Type 0} (g : store.Ghosts S) (took : V → List Row → Type 0) (v : V) (sql : List ℕ) (params : Row) (old : State) (h : Held S) (given : List Row)
    → HasGiven g sql params h given → IsUnchanged old (state g h) → took v given → TookSome took v sql params old
took_some g took v sql params old h given has same t = (given, inr (same.0.was_open, begins_before sql params old (state g h) given same (given_begin g sql params h given has)), t)

-- the result is seen from the state before the query
pub shown_before : (sql : List ℕ) (params : Row) (old mid new : State) (rows : List Row) → IsSelect sql → IsUnchanged old mid → Shown sql params mid new rows → Shown sql params old new rows
unfolding Shown
shown_before sql params old mid new rows asked same h =
    let is = same.0.now_is in
    let none = (bare sql asked mid.now.schema h.0 h.1.is).0 in
    let it = subst (λ k. ShowsRows mid new sql h.0 (timed params h.0.formats h.1.now) rows k) none h.2 in (
      h.0,
      record { is = subst (λ (d : Database). understood d.schema sql ≡ Ok h.0) is h.1.is; whole = h.1.whole; given = h.1.given; now = h.1.now },
      subst (λ k. ShowsRows old new sql h.0 (timed params h.0.formats h.1.now) rows k) (sym none) (it.0, subst (λ (d : Database). IsSourceOf (reads_listing d.schema sql) d it.0) is it.1, it.2, unchanged_then old mid new same it.3),
    )
