-- What an open learns from the rows that were read one after the other.
use Rattle.std.proofs.Common.{inr, ℕ, ℤ, List, [], map, Result, Ok, Err, OnOk, IfErr, IsOk, refl}
use Rattle.sqlite.specs.Order.{Row}
use Rattle.sqlite.specs.State.{State, Shown, IsUnchanged}
use Rattle.store_table.specs.declared.opening.OpenError.{OpenError}
use Rattle.store_table.specs.declared.opening.OpenError.TheVariants.{NotAStore, BadRow, IdsCollide, Memory, Database}
use Rattle.store_table.specs.Cells.{doc_of}
use Rattle.store_table.specs.Open.{all_text, Reads, RefusesOpening, PassesOpening}
use Rattle.store_table.specs.Rows.{TableRow}
use Rattle.store_table.specs.Check.{AreGood}
use Rattle.store_table.specs.Seen.{Pair}
use Rattle.store_table.specs.Judged.{JudgesRow}
use Rattle.store_table.proofs.PlainLemmas.{all_asks, listed_same}
use Rattle.store_table.proofs.VisitLemmas.{shown_before}

module _ (accepts : List ℕ → List ℕ → List ℕ → Type 0) (old mid new : State) (rows : List Row) (same : IsUnchanged old mid) (shown : Shown all_text [] mid new rows) where
  whole : Shown all_text [] old new rows
  whole = shown_before all_text [] old mid new rows all_asks same shown

  pub told_made : (is_made : List TableRow → Type 0) (keys : List Pair) (last : ℤ) (verdict : Result (Unit {0}) OpenError) → JudgesRow accepts keys last rows verdict → (IsOk verdict → is_made (map doc_of rows))
      → OnOk verdict ((docs : List TableRow) × Reads old new docs × AreGood accepts docs × is_made docs)
  told_made is_made keys last (Ok done) h made = (map doc_of rows, record { rows = rows; answered = whole; typed = h.typed; same = refl; unchanged = listed_same old new rows whole }, h.good, made refl)
  told_made is_made keys last (Err error) h made = tt

  pub told_refuses : (keys : List Pair) (last : ℤ) (verdict : Result (Unit {0}) OpenError) → JudgesRow accepts keys last rows verdict → IfErr verdict (RefusesOpening accepts old new)
  told_refuses keys last (Ok done) h = tt
  told_refuses keys last (Err NotAStore) h = (inr (rows, whole, h), listed_same old new rows whole)
  told_refuses keys last (Err (BadRow place)) h = (map doc_of rows, record { rows = rows; answered = whole; typed = h.typed; same = refl; unchanged = listed_same old new rows whole }, h.first)
  told_refuses keys last (Err (IdsCollide first second)) h = absurd h
  told_refuses keys last (Err Memory) h = tt
  told_refuses keys last (Err Database) h = tt

-- a table that was tested alone
pub only_passed : (P : List TableRow → Type 0) (accepts : List ℕ → List ℕ → List ℕ → Type 0) (old new : State) (verdict : Result (Unit {0}) OpenError)
    → OnOk verdict ((docs : List TableRow) × Reads old new docs × AreGood accepts docs × P docs) → OnOk verdict (PassesOpening accepts old new)
only_passed P accepts old new (Ok done) h = (h.0, h.1, h.2)
only_passed P accepts old new (Err error) h = tt
