-- What is found of rows that are read one after the other.
use Rattle.std.specs.Prelude.{◌≡◌, ℕ, ℤ, List, map, true, false, Result, Ok, Err}
use Rattle.std.specs.List.{list_all}
use Rattle.sqlite_value.specs.Order.{Row}
use Rattle.store_table.specs.declared.opening.OpenError.{OpenError}
use Rattle.store_table.specs.declared.opening.OpenError.TheVariants.{NotAStore, BadRow, IdsCollide, Memory, Database}
use Rattle.store_table.specs.Rows.{last_place}
use Rattle.store_table.specs.Cells.{is_listed, doc_of}
use Rattle.store_table.specs.Check.{AreGood, IsFirstBad}
use Rattle.store_table.specs.Seen.{Pair, HasSeen}

module _ (accepts : List ℕ → List ℕ → List ℕ → Type 0) where
  -- the rows have the types and are good, with these pairs of keys and names and this last place
  pub record ArePassed (keys : List Pair) (last : ℤ) (rows : List Row) : Type 0 where
    pub typed : list_all is_listed rows ≡ true
    pub good : AreGood accepts (map doc_of rows)
    pub seen : HasSeen keys (map doc_of rows)
    pub place : last ≡ last_place (map doc_of rows)

  -- the rows have the types, and the first bad one is at this place
  pub record AreBad (rows : List Row) (place : ℤ) : Type 0 where
    pub typed : list_all is_listed rows ≡ true
    pub first : IsFirstBad accepts (map doc_of rows) place

  -- what is reported of the rows: a wrong type of any one of them, or else the first bad one, or else that they pass
  abbrev pub JudgesRow : List Pair → ℤ → List Row → Result (Unit {0}) OpenError → Type 0
  JudgesRow keys last rows (Ok done) = ArePassed keys last rows
  JudgesRow keys last rows (Err NotAStore) = list_all is_listed rows ≡ false
  JudgesRow keys last rows (Err (BadRow place)) = AreBad rows place
  JudgesRow keys last rows (Err (IdsCollide first second)) = ⊥
  JudgesRow keys last rows (Err Memory) = ⊥
  JudgesRow keys last rows (Err Database) = ⊥
