-- How an index is made.
use Rattle.std.specs.Prelude.{◌≡◌, ◌≢◌, ℕ, ℤ, List, Bool, false, filter, Result, IfOk, IfErr}
use Rattle.std.specs.List.{AllByRecursion}
use Rattle.bson_store.specs.Find.{FindsIn, IsOn, MissesIn}
use Rattle.store_model.specs.Filter.{Path}
use Rattle.bson_store.specs.declared.indexed.index.Index.{Index}
use Rattle.store_table.specs.Rows.{TableRow, is_in}
use Rattle.store_table.specs.declared.fault.Fault.{Fault}
use Rattle.store_table.specs.declared.fault.Fault.TheVariants.{Places}

-- the index finds the documents at these places with these bodies, unless memory was refused
abbrev pub Gathers : Index → List (ℤ × List ℕ) → Bool → Type 0
Gathers ix rows failed = failed ≡ false → AllByRecursion (λ (r : ℤ × List ℕ). FindsIn ix r.0 r.1) rows

-- and it has noted no other places: what was missed at those is missed
abbrev pub NotesOnly : Index → Index → List (ℤ × List ℕ) → Bool → Type 0
NotesOnly first ix rows failed = failed ≡ false → (p : ℤ) (b : List ℕ) → AllByRecursion (λ (r : ℤ × List ℕ). r.0 ≢ p) rows → MissesIn first p b → MissesIn ix p b

-- no row has this place
abbrev pub HasNoneAt : ℤ → List TableRow → Type 0
HasNoneAt place = AllByRecursion (λ (d : TableRow). d.place ≢ place)

-- An index of a collection on a path was made, which finds the documents of all its rows, and has no place but theirs; the
-- rows stay.
pub record MakesIndex (coll : List ℕ) (path : Path) (result : Result Index Fault) (docs after : List TableRow) : Type 0 where
  pub same : after ≡ docs
  pub on : IfOk result (λ ix. IsOn ix coll path)
  pub made : IfOk result (λ ix. AllByRecursion (λ (d : TableRow). FindsIn ix d.place d.body) (filter (is_in coll) docs))
  pub only : IfOk result (λ ix. (p : ℤ) (b : List ℕ) → HasNoneAt p (filter (is_in coll) docs) → MissesIn ix p b)
  pub faults : IfErr result (λ e. e ≢ Places)
