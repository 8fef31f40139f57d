-- An index is made of rows, one after the other.
use Rattle.std.proofs.Common.{◌≡◌, ◌≢◌, ◌++◌, ◌∷◌, [], ℕ, ℤ, List, map, filter, Bool, true, false, cond, bytes_eq, Ok, String, Global, Vec, string_bytes, refl, sym, ap, ◌∙◌}
use Rattle.std.specs.List.{AllByRecursion}
use Rattle.bson_base.proofs.MemberLemmas.{same_key}
use Rattle.store_question.specs.Filters.{path_of}
use Rattle.store_model.specs.Filter.{Path}
use Rattle.bson_store.specs.Find.{FindsIn, FindsOf, Finds, IsAsBefore, IsOn, MissesIn}
use Rattle.bson_store.specs.declared.indexed.index.Index.{Index}
use Rattle.bson_store.specs.declared.indexed.indexes.Indexes.{Indexes}
use Rattle.store_table.specs.Moves.{VisitsPlaced, parts_of_row}
use Rattle.store_table.specs.Rows.{TableRow, is_in}
use Rattle.bson_store.specs.Gathering.{Gathers, HasNoneAt, MakesIndex, NotesOnly}
use Rattle.bson_store.specs.Kept.{FindsRows}
use Rattle.bson_store.specs.declared.indexed.gathering.Gatherer.{Gatherer}

all_more : (old new : Index) (rows : List (ℤ × List ℕ)) (p : ℤ) (b : List ℕ) → ((q : ℤ) (c : List ℕ) → FindsIn old q c → FindsIn new q c) → FindsIn new p b
    → AllByRecursion (λ (r : ℤ × List ℕ). FindsIn old r.0 r.1) rows → AllByRecursion (λ (r : ℤ × List ℕ). FindsIn new r.0 r.1) (rows ++ (p, b) ∷ [])
all_more old new [] p b kept one h = (one, tt)
all_more old new (r ∷ rows) p b kept one h = (kept r.0 r.1 h.0, all_more old new rows p b kept one h.1)

pub only_more : (first old new : Index) (rows : List (ℤ × List ℕ)) (p : ℤ) (b : List ℕ) (failed : Bool) → ((q : ℤ) (c : List ℕ) → q ≢ p → MissesIn old q c → MissesIn new q c) → NotesOnly first old rows failed → NotesOnly first new (rows ++ (p, b) ∷ []) failed
only_more first old new rows p b failed others h well q c far missed =
    let parts = split rows far in
    others q c (λ e. parts.1 (sym e)) (h well q c parts.0 missed)
  where
    split : (xs : List (ℤ × List ℕ)) → AllByRecursion (λ (r : ℤ × List ℕ). r.0 ≢ q) (xs ++ (p, b) ∷ []) → AllByRecursion (λ (r : ℤ × List ℕ). r.0 ≢ q) xs × (p ≢ q)
    split [] k = (tt, k.0)
    split (x ∷ xs) k = let r = split xs k.1 in ((k.0, r.0), r.1)

pub gathers_more : (old new : Index) (rows : List (ℤ × List ℕ)) (p : ℤ) (b : List ℕ) (failed : Bool) → ((q : ℤ) (c : List ℕ) → FindsIn old q c → FindsIn new q c) → FindsIn new p b → Gathers old rows failed → Gathers new (rows ++ (p, b) ∷ []) failed
gathers_more old new rows p b failed kept one h well = all_more old new rows p b kept one (h well)

of_rows : (ix : Index) (rows : List TableRow) → AllByRecursion (λ (r : ℤ × List ℕ). FindsIn ix r.0 r.1) (map parts_of_row rows) → AllByRecursion (λ (d : TableRow). FindsIn ix d.place d.body) rows
of_rows ix [] h = tt
of_rows ix (d ∷ rows) h = (h.0, of_rows ix rows h.1)

no_rows_at : (p : ℤ) (rows : List TableRow) → HasNoneAt p rows → AllByRecursion (λ (r : ℤ × List ℕ). r.0 ≢ p) (map parts_of_row rows)
no_rows_at p [] h = tt
no_rows_at p (d ∷ rows) h = (h.0, no_rows_at p rows h.1)

abbrev pub TookRows : Gatherer → Gatherer → List (ℤ × List ℕ) → Type 0
TookRows first v rows = IsAsBefore first.index v.index × Gathers v.index rows v.failed × NotesOnly first.index v.index rows v.failed

pub made : (coll : List ℕ) (path : Path) (first last : Gatherer) (docs after : List TableRow) → IsOn first.index coll path → ((p : ℤ) (b : List ℕ) → MissesIn first.index p b) → last.failed ≡ false → VisitsPlaced (TookRows first) first last coll (Ok true) docs after
    → MakesIndex coll path (Ok last.index) docs after
made coll path first last docs after on none well h = record {
  same = h.same;
  on =
      let w = h.whole begun refl in
      (ap (λ (s : String Global). string_bytes s) w.0.0 ∙ on.0, ap (λ (k : Vec (String Global) Global). path_of k.items) w.0.1 ∙ on.1);
  made = (let w = h.whole begun refl in of_rows last.index (filter (is_in coll) docs) (w.1 well));
  only = (let w = h.whole begun refl in λ p b far. w.2 well p b (no_rows_at p (filter (is_in coll) docs) far) (none p b));
  faults = tt;
}
  where
    begun : TookRows first first []
    begun = ((refl, refl), λ _. tt, λ w p b far missed. missed)

-- the index finds each row, if it is one of its collection
found_all : (ix : Index) (coll : List ℕ) (docs : List TableRow) → string_bytes ix.coll ≡ coll → AllByRecursion (λ (d : TableRow). FindsIn ix d.place d.body) (filter (is_in coll) docs) → AllByRecursion (λ (d : TableRow). FindsOf ix d.coll d.place d.body) docs
found_all ix coll [] named h = tt
found_all ix coll (d ∷ docs) named h = by (is_in coll d) refl h (found_all ix coll docs named)
  where
    by : (b : Bool) → is_in coll d ≡ b → AllByRecursion (λ (e : TableRow). FindsIn ix e.place e.body) (cond b (d ∷ filter (is_in coll) docs) (filter (is_in coll) docs))
        → (AllByRecursion (λ (e : TableRow). FindsIn ix e.place e.body) (filter (is_in coll) docs) → AllByRecursion (λ (e : TableRow). FindsOf ix e.coll e.place e.body) docs) → AllByRecursion (λ (e : TableRow). FindsOf ix e.coll e.place e.body) (d ∷ docs)
    by true e k rest = (λ same. k.0, rest k.1)
    by false e k rest = (λ same. absurd (let t : is_in coll d ≡ true = ap (λ (c : List ℕ). bytes_eq c coll) (sym same ∙ named) ∙ same_key coll in let x : true ≡ false = sym t ∙ e in cc), rest k)

pub added : (ixs jxs : Indexes) (ix : Index) (coll : List ℕ) (docs : List TableRow) → ((c : List ℕ) (p : ℤ) (b : List ℕ) → Finds ixs c p b → FindsOf ix c p b → Finds jxs c p b) → string_bytes ix.coll ≡ coll
    → AllByRecursion (λ (d : TableRow). FindsIn ix d.place d.body) (filter (is_in coll) docs) → FindsRows ixs docs → FindsRows jxs docs
added ixs jxs ix coll docs adds named all h = go docs (found_all ix coll docs named all) h
  where
    go : (ds : List TableRow) → AllByRecursion (λ (d : TableRow). FindsOf ix d.coll d.place d.body) ds → FindsRows ixs ds → FindsRows jxs ds
    go [] k l = tt
    go (d ∷ ds) k l = (adds d.coll d.place d.body l.0 k.0, go ds k.1 l.1)
