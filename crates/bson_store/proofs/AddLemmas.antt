-- An index comes to those that are there.
use Rattle.std.proofs.Common.{◌≡◌, ◌⊎◌, inl, inr, ℕ, ℤ, List, [], filter, Bool, true, false, IsTrue, Result, Ok, Err, IfOk, OnOk, OnErr, string_bytes, refl, sym, subst, ◌∙◌}
use Rattle.std.specs.declared.alloc.AllocError.{AllocError}
use Rattle.std.specs.Result.{result_unwrap_or}
use Rattle.sqlite.specs.State.{State, HasCleanDisk}
use Rattle.bson_store.specs.Find.{Finds, FindsOf, Has, IsOn, MissesIn, coll_of, keys_of}
use Rattle.bson_store.specs.declared.indexed.index.Index.{Index}
use Rattle.bson_store.specs.declared.indexed.indexes.Indexes.{Indexes}
use Rattle.store_question.specs.Filters.{path_of}
use Rattle.store_model.specs.Filter.{Path}
use Rattle.store_table.specs.Moves.{Keeps, Moves, Stands}
use Rattle.store_table.specs.Renewal.{Opened}
use Rattle.store_table.specs.Rows.{TableRow, HoldsRows, is_in}
use Rattle.store_table.specs.Schema.{HasStoreTable}
use Rattle.bson_store.specs.Gathering.{HasNoneAt, MakesIndex}
use Rattle.bson_store.specs.Kept.{FindsRows, HasKept}
use Rattle.bson_store.proofs.AskLemmas.{found_rows}
use Rattle.bson_store.proofs.GatherLemmas.{added}
use Rattle.bson_store.proofs.KeepLemmas.{none_find, read_keeps, same_kept}

-- what a schema is known to be, unless memory was refused
pub known_own : (r : Result Bool AllocError) (shown : Bool) (P : Type 0) → IfOk r (λ own. IsTrue own → P) → shown ≡ result_unwrap_or r false → IsTrue shown → P
known_own (Ok own) shown P h e is = h (sym e ∙ is)
known_own (Err x) shown P h e is = let never : true ≡ false = sym is ∙ e in absurd (cc)

-- a table that was opened over the store's own schema shows rows
pub opened_kept : (renews : List ℕ → List ℕ → List ℕ → List ℕ → Type 0) (old new : State) (shown : Bool) (ixs : Indexes) → ixs.list.items ≡ [] → (IsTrue shown → HasStoreTable old.now.schema) → (HasCleanDisk new → Opened renews old new) → HasKept new shown ixs
opened_kept renews old new false ixs none own opened clean = inl (refl, none)
opened_kept renews old new true ixs none own opened clean = let r = (opened clean).listed (own refl) in inr (r.1, (λ _. r.3), none_find ixs r.1 none)

-- rows were looked at
pub looked_kept : {before : Bool} (s : State) (ixs : Indexes) (shows : Bool) → before ≡ false → (HasCleanDisk s → IsTrue shows → (docs : List TableRow) × HoldsRows s docs) → HasKept s before ixs → HasKept s shows ixs
looked_kept s ixs false e seen h = subst (λ (b : Bool). HasKept s b ixs) e h
looked_kept {before} s ixs true e seen h = λ clean. let d = seen clean refl in inr (d.0, (λ _. d.1), found_rows {shown = before} s ixs d.0 clean d.1 h)

pub added_kept : {shown : Bool} (mid new : State) (ixs jxs : Indexes) (ix : Index) (coll : List ℕ) (path : Path) → IsTrue shown → Moves mid new (MakesIndex coll path (Ok ix))
    → ((c : List ℕ) (p : ℤ) (b : List ℕ) → Finds ixs c p b → FindsOf ix c p b → Finds jxs c p b) → HasKept mid shown ixs → HasKept new shown jxs
added_kept {shown} mid new ixs jxs ix coll path known moves adds h clean = by (h (moves clean).0)
  where
    by : ((shown ≡ false) × (ixs.list.items ≡ [])) ⊎ ((docs : List TableRow) × Stands mid docs × FindsRows ixs docs) → ((shown ≡ false) × (jxs.list.items ≡ [])) ⊎ ((docs : List TableRow) × Stands new docs × FindsRows jxs docs)
    by (inl (unknown, e)) = let x : true ≡ false = sym known ∙ unknown in absurd (cc)
    by (inr (docs, stands, finds)) =
        let y = (moves clean).1 docs stands in
        inr (y.0, y.1, subst (FindsRows jxs) (sym y.2.same) (added ixs jxs ix coll docs adds y.2.on.0 y.2.made finds))

-- the index that was made is one of the collection on the path
pub made_on : (old mid new : State) (shows : Bool) (coll : List ℕ) (path : Path) (ix : Index) → Moves old mid (Keeps (Ok shows)) → Moves mid new (MakesIndex coll path (Ok ix)) → HasCleanDisk new → (docs : List TableRow) → Stands old docs → IsOn ix coll path
made_on old mid new shows coll path ix one two clean docs stands =
    let n = two clean in
    let x = (one n.0).1 docs stands in
    (n.1 x.0 x.1).2.on

-- so there are no others besides
pub adds_index : (ixs jxs : Indexes) (ix : Index) (coll : List ℕ) (path : Path) → IsOn ix coll path → ((c : List ℕ) (p : Path) → Has jxs c p → Has ixs c p ⊎ ((c ≡ string_bytes (coll_of ix)) × (p ≡ path_of (keys_of ix).items)))
    → (c : List ℕ) (p : Path) → Has jxs c p → Has ixs c p ⊎ ((c ≡ coll) × (p ≡ path))
adds_index ixs jxs ix coll path on only c p h = elim (only c p h) [ inl was ↦ inl was | inr one ↦ inr (one.0 ∙ on.0, one.1 ∙ on.1) ]

-- the index that was made has no place but those of rows
pub only_rows : (old mid new : State) (shows : Bool) (coll : List ℕ) (path : Path) (ix : Index) → Moves old mid (Keeps (Ok shows)) → Moves mid new (MakesIndex coll path (Ok ix)) → HasCleanDisk new → (docs : List TableRow) → Stands old docs
    → (p : ℤ) (b : List ℕ) → HasNoneAt p (filter (is_in coll) docs) → MissesIn ix p b
only_rows old mid new shows coll path ix one two clean docs stands p b far =
    let n = two clean in
    let x = (one n.0).1 docs stands in
    let y = n.1 x.0 x.1 in
    y.2.only p b (subst (λ (ds : List TableRow). HasNoneAt p (filter (is_in coll) ds)) (sym x.2.same) far)

pub after_add : {shown : Bool} (mid new : State) (ixs jxs : Indexes) (ix : Index) (coll : List ℕ) (path : Path) (a : Result (Unit {0}) AllocError) → IsTrue shown → Moves mid new (MakesIndex coll path (Ok ix))
    → ((c : List ℕ) (p : ℤ) (b : List ℕ) → Finds ixs c p b → OnOk a (FindsOf ix c p b → Finds jxs c p b)) → OnErr a (jxs.list.items ≡ ixs.list.items) → HasKept mid shown ixs → HasKept new shown jxs
after_add {shown} mid new ixs jxs ix coll path (Ok x) known moves adds refused h = added_kept {shown = shown} mid new ixs jxs ix coll path known moves adds h
after_add {shown} mid new ixs jxs ix coll path (Err e) known moves adds refused h = same_kept {shown = shown} new ixs jxs refused (read_keeps {shown = shown} mid new ixs (MakesIndex coll path (Ok ix)) moves (λ docs after p. p.same) h)
