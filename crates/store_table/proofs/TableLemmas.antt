-- What the calls of the table say of its rows.
use Rattle.std.proofs.Common.{◌≡◌, ◌≢◌, inl, inr, Bool, ◌+ℤ◌, ◌++◌, ◌∷◌, [], ℕ, ℤ, pos, List, map, Option, Some, None, option_map, Vec, Global, bytes_eq, cond, if◌then◌else◌, Result, Ok, Err, OnOk, IsTrue, IsErrAnd, refl, sym, ap, ap₂, subst, ◌∙◌, arith}
use Rattle.sqlite.specs.declared.types.Value.TheVariants.{Text}
use Rattle.sqlite.specs.declared.error.Error.{Error}
use Rattle.sqlite.specs.declared.error.Error.TheVariants.{SqliteFailure}
use Rattle.sqlite.specs.declared.error.ErrorCode.TheVariants.{OutOfMemory}
use Rattle.sqlite.specs.Order.{Row, column}
use Rattle.sqlite.specs.Effect.{Database}
use Rattle.sqlite.specs.Tree.{Trees}
use Rattle.sqlite.specs.State.{State, HasCleanDisk, Survives, IsUnchanged}
use Rattle.sqlite.proofs.StateLemmas.{survives_then}
use Rattle.store_table.specs.declared.fault.Fault.TheVariants.{Places}
use Rattle.store_table.specs.declared.row.Found.{Found}
use Rattle.store_table.specs.Fault.{fault_of}
use Rattle.store_table.specs.Rows.{TableRow, RowsIn, HasRows, HoldsRows, AreBelow, last_place}
use Rattle.store_table.specs.Cells.{int_in, bytes_in}
use Rattle.store_table.specs.Moves.{Stands, MayLeave, Visits, VisitsPlaced, placed_of, Changes, AddsBehind, with_row, bodies_of, parts_of_found, parts_of_row, body_if_in}
use Rattle.store_table.specs.Visit.{TookSome, first_value, scan_text, placed, placed_text}
use Rattle.store_table.specs.declared.fault.Fault.{Fault}
use Rattle.store_table.proofs.ScanLemmas.{some_scan, some_placed}
use Rattle.store_table.proofs.StatementLemmas.{unchanged_shows, seen}
use Rattle.store_table.proofs.OthersLemmas.{trees_have, left_beside, shows_then, still_others}
use Rattle.store_table.specs.Beside.{SparesOthers, ShowsOthers}
use Rattle.store_table.specs.Open.{IsSettled, KeepsAll}
use Rattle.store_table.specs.Written.{WritesRows}
use Rattle.store_table.proofs.LastPlaceLemmas.{below_next}
use Rattle.store_table.proofs.ReadLemmas.{found_row, found_place, at_row}

pub not_places : (e : Error) → fault_of e ≢ Places
not_places (SqliteFailure OutOfMemory) h = cc
not_places _ h = cc

shows_back : (old new : State) (docs : List TableRow) → IsUnchanged old new → HoldsRows new docs → HoldsRows old docs
shows_back old new docs u h = record {
  is_open = u.0.was_open;
  autocommit = sym u.0.mode ∙ h.autocommit;
  settled = sym u.0.now_is ∙ h.settled ∙ u.0.committed_is;
  table = subst (λ (d : Database). RowsIn d docs) u.0.now_is h.table;
}

-- if a crash leaves the last commit, it leaves the rows that are shown, and all else that is
pub left_rows : (first : Database) (s : State) (docs : List TableRow) (db : Trees) → HoldsRows s docs → SparesOthers first s.now → db ≡ s.committed.trees → HasRows first db docs
left_rows first s docs db h spared is = subst (λ (t : Trees). HasRows first t docs) (sym (is ∙ sym (ap (λ (d : Database). d.trees) h.settled))) (trees_have first s.now docs h.table spared)

-- after a write
pub left_written : {A E : Type 0} (first : Database) (old new : State) (change : List TableRow → List TableRow) (result : Result A E) (docs : List TableRow) → ShowsOthers first old → Stands old docs → WritesRows old new change result
    → OnOk result ((db : Trees) → (IsTrue new.is_open → db ≡ new.committed.trees) → HasRows first db (change docs))
left_written first old new change (Err e) docs beside stands w = tt
left_written first old new change (Ok x) docs beside stands w = λ db settled.
    let shows = w.done.1 docs (stands w.done.0) in
    left_rows first new (change docs) db shows (shows_then first old new beside (w.others docs stands) shows.is_open) (settled shows.is_open)

module _ (old new : State) where
  pub stands_still : (docs : List TableRow) → IsUnchanged old new → Stands old docs → Stands new docs
  stands_still docs u stands still = unchanged_shows old new docs (stands u.0.was_open) u

  -- the place after the greatest one that was read is above all
  pub below_greatest : (last : ℤ) → IsUnchanged old new → ((docs : List TableRow) → HoldsRows old docs → last ≡ last_place docs) → (docs : List TableRow) → HoldsRows new docs → AreBelow (last +ℤ pos 1) docs
  below_greatest last u is docs h = subst (λ (p : ℤ). AreBelow (p +ℤ pos 1) docs) (sym (is docs (shows_back old new docs u h))) (below_next docs (seen h.table).rising)

pub found_is : (o : Option TableRow) (row : Row) (f : Found) → option_map found_row o ≡ Some row → f.place ≡ int_in (column row 0) → f.body.items ≡ bytes_in (column row 1) → option_map parts_of_found (Some f) ≡ option_map parts_of_row o
found_is None row f e p b = absurd (cc)
found_is (Some d) row f e p b =
    let same : found_row d ≡ row = cc in
    ap₂ (λ (x : ℤ) (y : List ℕ). Some (x, y)) (p ∙ ap (λ (r : Row). int_in (column r 0)) (sym same)) (b ∙ ap (λ (r : Row). bytes_in (column r 1)) (sym same))

pub place_is : (o : Option TableRow) (row : Row) → option_map found_place o ≡ Some row → Some (int_in (column row 0)) ≡ option_map (λ (d : TableRow). d.place) o
place_is None row e = absurd (cc)
place_is (Some d) row e =
    let same : found_place d ≡ row = cc in
    ap (λ (r : Row). Some (int_in (column r 0))) (sym same)

pub place_none : (o : Option TableRow) → option_map found_place o ≡ None → None ≡ option_map (λ (d : TableRow). d.place) o
place_none None e = refl
place_none (Some d) e = absurd (cc)

pub found_none : (o : Option TableRow) → option_map found_row o ≡ None → option_map parts_of_found None ≡ option_map parts_of_row o
found_none None e = refl
found_none (Some d) e = absurd (cc)

pub collection_is : (o : Option TableRow) (row : Row) (v : Vec ℕ Global) → option_map at_row o ≡ Some row → v.items ≡ bytes_in (column row 0) → option_map (λ (w : Vec ℕ Global). w.items) (Some v) ≡ option_map (λ (d : TableRow). d.coll) o
collection_is None row v e h = absurd (cc)
collection_is (Some d) row v e h =
    let same : at_row d ≡ row = cc in
    ap (λ (c : List ℕ). Some c) (h ∙ ap (λ (r : Row). bytes_in (column r 0)) (sym same))

pub collection_none : (o : Option TableRow) → option_map at_row o ≡ None → option_map (λ (w : Vec ℕ Global). w.items) None ≡ option_map (λ (d : TableRow). d.coll) o
collection_none None e = refl
collection_none (Some d) e = absurd (cc)

pub body_is : (coll : List ℕ) (o : Option TableRow) (row : Row) → option_map at_row o ≡ Some row → (if bytes_eq (bytes_in (column row 0)) coll then bytes_in (column row 1) ∷ [] else []) ≡ body_if_in coll o
body_is coll None row e = absurd (cc)
body_is coll (Some d) row e =
    let same : at_row d ≡ row = cc in
    ap (λ (r : Row). cond (bytes_eq (bytes_in (column r 0)) coll) (bytes_in (column r 1) ∷ []) []) (sym same)

pub body_none : (coll : List ℕ) (o : Option TableRow) → option_map at_row o ≡ None → body_if_in coll o ≡ []
body_none coll None e = refl
body_none coll (Some d) e = absurd (cc)

-- a read and then a write of the rows: what a crash may leave
pub crash_written : (old mid new : State) (change made : List TableRow → List TableRow) → (HasCleanDisk mid → IsUnchanged old mid) → Survives old mid (λ _. ⊥)
    → Survives mid new (λ trees. (docs : List TableRow) → HoldsRows mid docs → HasRows mid.now trees (made docs)) → (HasCleanDisk mid → (docs : List TableRow) → HoldsRows old docs → made docs ≡ change docs)
    → Survives old new (MayLeave change old)
crash_written old mid new change made same before later is =
    survives_then old mid new (λ _. ⊥) (λ trees. (docs : List TableRow) → HoldsRows mid docs → HasRows mid.now trees (made docs)) (MayLeave change old) (λ _ db none. absurd none)
    (λ clean db commits first docs beside stands.
    let early : HasCleanDisk mid = omega (arith, clean, later.clean) in
    let u = same early in
    let h = stands u.0.was_open in
    let made_so = subst (λ (ds : List TableRow). HasRows mid.now db ds) (is early docs h) (commits docs (unchanged_shows old mid docs h u)) in
    left_beside first mid.now db (change docs) (shows_then first old mid beside (still_others old mid u) u.0.is_open) made_so) before later

-- a visit that is refused: whatever was taken is a beginning
pub visits_refused : {V : Type 0} (took : V → List (List ℕ) → Type 0) (first last : V) (coll : List ℕ) (old : State) (docs : List TableRow) → Stands old docs → (r : Result Bool Fault) (why : Error) → IsErrAnd r (λ e. e ≡ fault_of why)
    → (took first [] → TookSome (λ w rows. took w (map first_value rows)) last scan_text (Text coll ∷ []) old) → Visits took first last coll r docs docs
visits_refused took first last coll old docs stands (Ok all) why is some = absurd is
visits_refused took first last coll old docs stands (Err e) why is some = record {
  same = refl;
  whole = λ none. tt;
  some = λ none. begun (some none);
  faults = λ places. not_places why (sym is ∙ places);
}
  where
    begun : TookSome (λ w rows. took w (map first_value rows)) last scan_text (Text coll ∷ []) old → (taken : List (List ℕ)) × (rest : List (List ℕ)) × (taken ++ rest ≡ bodies_of coll docs) × took last taken
    begun (rows, inl none, t) = ([], bodies_of coll docs, refl, subst (λ (rs : List Row). took last (map first_value rs)) none t)
    begun (rows, inr given, t) = some_scan took last coll old docs (stands given.0) (rows, inr given, t)

-- a visit that is refused: whatever was taken is a beginning
pub placed_refused : {V : Type 0} (took : V → List (ℤ × List ℕ) → Type 0) (first last : V) (coll : List ℕ) (old : State) (docs : List TableRow) → Stands old docs → (r : Result Bool Fault) (why : Error) → IsErrAnd r (λ e. e ≡ fault_of why)
    → (took first [] → TookSome (λ w rows. took w (map placed rows)) last placed_text (Text coll ∷ []) old) → VisitsPlaced took first last coll r docs docs
placed_refused took first last coll old docs stands (Ok all) why is some = absurd is
placed_refused took first last coll old docs stands (Err e) why is some = record {
  same = refl;
  whole = λ none. tt;
  some = λ none. begun (some none);
  faults = λ places. not_places why (sym is ∙ places);
}
  where
    begun : TookSome (λ w rows. took w (map placed rows)) last placed_text (Text coll ∷ []) old → (taken : List (ℤ × List ℕ)) × (rest : List (ℤ × List ℕ)) × (taken ++ rest ≡ placed_of coll docs) × took last taken
    begun (rows, inl none, t) = ([], placed_of coll docs, refl, subst (λ (rs : List Row). took last (map placed rs)) none t)
    begun (rows, inr given, t) = some_placed took last coll old docs (stands given.0) (rows, inr given, t)

pub appends_err : {A : Type 0} (n : ℕ) (change : List TableRow → List TableRow) (docs : List TableRow) (r : Result A Fault) (why : Error) → IsErrAnd r (λ e. e ≡ fault_of why) → AddsBehind n change r docs docs
appends_err n change docs (Ok u) why is = absurd is
appends_err n change docs (Err e) why is = record { done = tt; room = tt; refused = refl; full = λ places. absurd (not_places why (sym is ∙ places)) }

pub changes_err : (change : List TableRow → List TableRow) (docs : List TableRow) (r : Result (Unit {0}) Fault) (why : Error) → IsErrAnd r (λ e. e ≡ fault_of why) → Changes change r docs docs
changes_err change docs (Ok u) why is = absurd is
changes_err change docs (Err e) why is = record { done = tt; refused = refl; faults = λ places. not_places why (sym is ∙ places) }

-- a row at the place after the greatest one that was read
pub added_shows : (old mid new : State) (last place : ℤ) (coll idkey body : List ℕ) (docs : List TableRow) → IsUnchanged old mid → HoldsRows old docs → last ≡ last_place docs → place ≡ (last +ℤ pos 1)
    → (HoldsRows mid docs → HoldsRows new (docs ++ record { place = place; coll = coll; idkey = idkey; body = body } ∷ [])) → HoldsRows new (with_row coll idkey body docs)
added_shows old mid new last place coll idkey body docs u h greatest next added =
    let is : place ≡ (last_place docs +ℤ pos 1) = next ∙ ap (λ (p : ℤ). p +ℤ pos 1) greatest in
    subst (λ (p : ℤ). HoldsRows new (docs ++ record { place = p; coll = coll; idkey = idkey; body = body } ∷ [])) is (added (unchanged_shows old mid docs h u))

-- ---- a look at all rows

-- rows stand behind a refusal that keeps all
pub stands_kept : (old new : State) (docs : List TableRow) → IsSettled old → (IsSettled old → KeepsAll old new) → Stands old docs → Stands new docs
stands_kept old new docs settled keeps stands still =
    let s = keeps settled still in
    let h = stands s.was_open in
    record { is_open = still; autocommit = s.mode ∙ h.autocommit; settled = s.now_is ∙ h.settled ∙ sym s.committed_is; table = subst (λ (d : Database). RowsIn d docs) (sym s.now_is) h.table }
