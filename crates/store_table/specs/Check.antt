-- Which rows a store can have written.
use Rattle.std.specs.Prelude.{◌≡◌, ◌++◌, ◌∷◌, [], ◌<ℤ◌, ℕ, ℤ, List, false}
use Rattle.std.specs.List.{list_any}
use Rattle.store_table.specs.Rows.{TableRow, is_row_named, last_place}

module _ (accepts : List ℕ → List ℕ → List ℕ → Type 0) where
  -- after these rows: it has a greater place, its collection and key are new, and what it holds is accepted
  pub record IsGoodAfter (seen : List TableRow) (d : TableRow) : Type 0 where
    pub above : last_place seen <ℤ d.place
    pub fresh : list_any (is_row_named d.coll d.idkey) seen ≡ false
    pub accepted : accepts d.coll d.idkey d.body

  abbrev pub AreGoodAfter : List TableRow → List TableRow → Type 0
  AreGoodAfter seen [] = Unit {0}
  AreGoodAfter seen (d ∷ docs) = IsGoodAfter seen d × AreGoodAfter (seen ++ d ∷ []) docs

  -- each row is good after those before it; the first has a place above 0
  abbrev pub AreGood : List TableRow → Type 0
  AreGood docs = AreGoodAfter [] docs

  -- the first row that a store can't have written is at this place
  pub record IsFirstBad (docs : List TableRow) (place : ℤ) : Type 0 where
    pub front : List TableRow
    pub bad : TableRow
    pub back : List TableRow
    pub all : docs ≡ front ++ bad ∷ back
    pub good : AreGood front
    pub refused : ¬ IsGoodAfter front bad
    pub is : bad.place ≡ place
