-- What a call of the table does to its rows.
use Rattle.std.specs.Prelude.{◌≡◌, ◌≢◌, ◌↔◌, ◌+ℤ◌, ◌<ℤ◌, ◌^◌, ◌++◌, ◌∷◌, [], ℕ, ℤ, pos, List, map, filter, find, if◌then◌else◌, Option, None, Some, option_map, Result, Bool, IsTrue, IfOk, IfErr, OnOk, OnErr, Vec}
use Rattle.std.specs.List.{list_any}
use Rattle.std.specs.declared.alloc.Global.{Global}
use Rattle.std.specs.BTreeSet.{BTreeSet}
use Rattle.sqlite.specs.State.{State, HasCleanDisk}
use Rattle.sqlite.specs.Tree.{Trees}
use Rattle.sqlite.specs.Effect.{Database}
use Rattle.store_table.specs.declared.fault.Fault.{Fault}
use Rattle.store_table.specs.declared.fault.Fault.TheVariants.{Places}
use Rattle.store_table.specs.declared.row.Found.{Found}
use Rattle.store_table.specs.declared.row.NewRow.{NewRow}
use Rattle.store_table.specs.Rows.{TableRow, HoldsRows, HasRows, is_at, is_row_named, is_in, last_place, docs_from}
use Rattle.store_table.specs.Names.{has_name}
use Rattle.store_table.specs.Beside.{KeepsOthers, ShowsOthers}

-- what a connection shows while it is open
abbrev pub Stands : State → List TableRow → Type 0
Stands s docs = IsTrue s.is_open → HoldsRows s docs

-- on a disk that returns what was written, P holds of the rows before and the rows now, and the schema and the other
-- tables are as they were
abbrev pub Moves : State → State → (List TableRow → List TableRow → Type 0) → Type 0
Moves old new P = HasCleanDisk new → HasCleanDisk old × ((docs : List TableRow) → Stands old docs → (after : List TableRow) × Stands new after × P docs after × KeepsOthers old new)

-- a call is accepted only on an open connection, which stays open
abbrev pub WasOpen : {A E : Type 0} → State → State → Result A E → Type 0
WasOpen old new result = HasCleanDisk new → (docs : List TableRow) → Stands old docs → OnOk result (IsTrue old.is_open × IsTrue new.is_open)

-- a crash may leave the rows changed this way, and the schema and the other tables as they were
abbrev pub MayLeave : (List TableRow → List TableRow) → State → Trees → Type 0
MayLeave change old trees = (first : Database) (docs : List TableRow) → ShowsOthers first old → Stands old docs → HasRows first trees (change docs)

-- after a call that was accepted a crash leaves only the rows changed this way, and the schema and the other tables as
-- they were
abbrev pub Settles : {A : Type 0} → (List TableRow → List TableRow) → State → State → Result A Fault → Type 0
Settles change old new result =
    HasCleanDisk new → (first : Database) (docs : List TableRow) → ShowsOthers first old → Stands old docs → OnOk result ((db : Trees) → new.may_leave db → HasRows first db (change docs))

-- there are n places after the greatest one
abbrev pub IsRoomFor : ℕ → List TableRow → Type 0
IsRoomFor n docs = (last_place docs +ℤ pos n) <ℤ pos (2 ^ 63)

-- one more row, after the greatest place
abbrev pub with_row : List ℕ → List ℕ → List ℕ → List TableRow → List TableRow
with_row coll idkey body docs = docs ++ record { place = last_place docs +ℤ pos 1; coll = coll; idkey = idkey; body = body } ∷ []

abbrev pub with_rows : List ℕ → List NewRow → List TableRow → List TableRow
with_rows coll rows docs = docs ++ docs_from (last_place docs +ℤ pos 1) coll rows

abbrev pub parts_of_found : Found → ℤ × List ℕ
parts_of_found f = (f.place, f.body.items)

abbrev pub parts_of_row : TableRow → ℤ × List ℕ
parts_of_row d = (d.place, d.body)

-- the rows stay
pub record Keeps {A : Type 0} (result : Result A Fault) (docs after : List TableRow) : Type 0 where
  pub same : after ≡ docs
  pub faults : IfErr result (λ e. e ≢ Places)

-- the first row with this collection and key is found, or it is found that there is none
pub record FindsRow (coll idkey : List ℕ) (result : Result (Option Found) Fault) (docs after : List TableRow) : Type 0 where
  pub same : after ≡ docs
  pub found : IfOk result (λ f. option_map parts_of_found f ≡ option_map parts_of_row (find (is_row_named coll idkey) docs))
  pub faults : IfErr result (λ e. e ≢ Places)

-- the collection of the row at this place is found, or it is found that there is none
pub record FindsCollection (place : ℤ) (result : Result (Option (Vec ℕ Global)) Fault) (docs after : List TableRow) : Type 0 where
  pub same : after ≡ docs
  pub found : IfOk result (λ c. option_map (λ (v : Vec ℕ Global). v.items) c ≡ option_map (λ (d : TableRow). d.coll) (find (is_at place) docs))
  pub faults : IfErr result (λ e. e ≢ Places)

-- it is reported whether there is no row
pub record FindsNone (result : Result Bool Fault) (docs after : List TableRow) : Type 0 where
  pub same : after ≡ docs
  pub none : IfOk result (λ none. IsTrue none ↔ (docs ≡ []))
  pub faults : IfErr result (λ e. e ≢ Places)

-- the place of the first row with this collection and key is found, or it is found that there is none
pub record FindsPlace (coll idkey : List ℕ) (result : Result (Option ℤ) Fault) (docs after : List TableRow) : Type 0 where
  pub same : after ≡ docs
  pub found : IfOk result (λ p. p ≡ option_map (λ (d : TableRow). d.place) (find (is_row_named coll idkey) docs))
  pub faults : IfErr result (λ e. e ≢ Places)

-- the rows are changed this way, or the call is refused
pub record Changes (change : List TableRow → List TableRow) (result : Result (Unit {0}) Fault) (docs after : List TableRow) : Type 0 where
  pub done : OnOk result (after ≡ change docs)
  pub refused : OnErr result (after ≡ docs)
  pub faults : IfErr result (λ e. e ≢ Places)

-- n rows come after the others, or the call is refused
pub record AddsBehind {A : Type 0} (n : ℕ) (change : List TableRow → List TableRow) (result : Result A Fault) (docs after : List TableRow) : Type 0 where
  pub done : OnOk result (after ≡ change docs)
  pub room : OnOk result (IsRoomFor n docs)
  pub refused : OnErr result (after ≡ docs)
  pub full : IfErr result (λ e. e ≡ Places → ¬ IsRoomFor n docs)

abbrev pub AddsRows : ℕ → (List TableRow → List TableRow) → Result (Unit {0}) Fault → List TableRow → List TableRow → Type 0
AddsRows n change result docs after = AddsBehind n change result docs after

-- the collections that have a row
pub record Lists (result : Result (BTreeSet (Vec ℕ Global)) Fault) (docs after : List TableRow) : Type 0 where
  pub same : after ≡ docs
  pub names : IfOk result (λ names. (c : List ℕ) → has_name names.keys c ≡ list_any (is_in c) docs)
  pub faults : IfErr result (λ e. e ≢ Places)

-- the bodies of a collection, in order of place
abbrev pub bodies_of : List ℕ → List TableRow → List (List ℕ)
bodies_of coll docs = map (λ (d : TableRow). d.body) (filter (is_in coll) docs)

-- a visitor has taken the bodies of a collection in order, all of them or the first ones
pub record Visits {V : Type 0} (took : V → List (List ℕ) → Type 0) (first last : V) (coll : List ℕ) (result : Result Bool Fault) (docs after : List TableRow) : Type 0 where
  pub same : after ≡ docs
  pub whole : took first [] → IfOk result (λ all. IsTrue all → took last (bodies_of coll docs))
  pub some : took first [] → (taken : List (List ℕ)) × (rest : List (List ℕ)) × (taken ++ rest ≡ bodies_of coll docs) × took last taken
  pub faults : IfErr result (λ e. e ≢ Places)

-- the body of the row at a place, if it is one of the collection
abbrev pub body_if_in : List ℕ → Option TableRow → List (List ℕ)
body_if_in coll None = []
body_if_in coll (Some d) = if is_in coll d then d.body ∷ [] else []

-- a visitor has gone on by the body of the row at a place, if it is one of the collection
pub record VisitsAt {V : Type 0} (took : V → V → List (List ℕ) → Type 0) (old new : V) (coll : List ℕ) (place : ℤ) (result : Result Bool Fault) (docs after : List TableRow) : Type 0 where
  pub same : after ≡ docs
  pub on : (first : V) (bodies : List (List ℕ)) → took first old bodies → OnOk result (took first new (bodies ++ body_if_in coll (find (is_at place) docs)))
  pub faults : IfErr result (λ e. e ≢ Places)

-- the places and bodies of a collection, in order of place
abbrev pub placed_of : List ℕ → List TableRow → List (ℤ × List ℕ)
placed_of coll docs = map parts_of_row (filter (is_in coll) docs)

-- a visitor has taken the places and bodies of a collection in order, all of them or a beginning
pub record VisitsPlaced {V : Type 0} (took : V → List (ℤ × List ℕ) → Type 0) (first last : V) (coll : List ℕ) (result : Result Bool Fault) (docs after : List TableRow) : Type 0 where
  pub same : after ≡ docs
  pub whole : took first [] → IfOk result (λ all. IsTrue all → took last (placed_of coll docs))
  pub some : took first [] → (taken : List (ℤ × List ℕ)) × (rest : List (ℤ × List ℕ)) × (taken ++ rest ≡ placed_of coll docs) × took last taken
  pub faults : IfErr result (λ e. e ≢ Places)
