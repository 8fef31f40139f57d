-- Indexes are kept through a call of the table.
use Rattle.std.proofs.Common.{◌≡◌, ◌⊎◌, inl, inr, ◌+ℤ◌, ◌+◌, ◌<◌, ◌++◌, ◌∷◌, [], ℕ, ℤ, pos, List, length, take, get_or, Bool, true, false, not, cond, Result, Ok, Err, refl, sym, ap, subst, ◌∙◌, arith}
use Rattle.std.specs.Prelude.{OnOk, OnErr}
use Rattle.std.specs.declared.alloc.AllocError.{AllocError}
use Rattle.std.proofs.lemmas.Bool.Decides.{Decides-int_eq}
use Rattle.sqlite.specs.State.{State, HasCleanDisk}
use Rattle.bson_store.specs.Find.{AreAsBefore, Finds, FindEach, Misses, MissEach, kinds_of}
use Rattle.bson_store.specs.declared.indexed.index.Index.{Index}
use Rattle.bson_store.specs.declared.indexed.indexes.Indexes.{Indexes}
use Rattle.store_table.specs.Moves.{Moves, Stands, AddsBehind, Changes, with_row, with_rows}
use Rattle.store_table.specs.Rows.{TableRow, docs_from, is_at, last_place, without_place}
use Rattle.store_table.specs.declared.fault.Fault.{Fault}
use Rattle.store_table.specs.declared.row.NewRow.{NewRow}
use Rattle.store_table.proofs.ManyLemmas.{next_rows, doc_at}
use Rattle.bson_store.specs.Gathering.{HasNoneAt}
use Rattle.bson_store.specs.Kept.{FindsRow, FindsRows, HasKept, StayOrGo}

-- the indexes find the documents of the rows that a call makes of those that they found
pub keeps : {shown : Bool} (old new : State) (ixs jxs : Indexes) (P : List TableRow → List TableRow → Type 0) → Moves old new P → (ixs.list.items ≡ [] → jxs.list.items ≡ [])
    → (HasCleanDisk new → (docs after : List TableRow) → Stands old docs → P docs after → FindsRows ixs docs → FindsRows jxs after) → HasKept old shown ixs → HasKept new shown jxs
keeps {shown} old new ixs jxs P moves none on h clean = by (h (moves clean).0)
  where
    by : ((shown ≡ false) × (ixs.list.items ≡ [])) ⊎ ((docs : List TableRow) × Stands old docs × FindsRows ixs docs) → ((shown ≡ false) × (jxs.list.items ≡ [])) ⊎ ((docs : List TableRow) × Stands new docs × FindsRows jxs docs)
    by (inl (not_shown, e)) = inl (not_shown, none e)
    by (inr (docs, stands, finds)) = let r = (moves clean).1 docs stands in inr (r.0, r.1, on clean docs r.0 stands r.2 finds)

-- a read
pub read_keeps : {shown : Bool} (old new : State) (ixs : Indexes) (P : List TableRow → List TableRow → Type 0) → Moves old new P → ((docs after : List TableRow) → P docs after → after ≡ docs) → HasKept old shown ixs → HasKept new shown ixs
read_keeps old new ixs P moves same = keeps old new ixs ixs P moves (λ e. e) (λ clean docs after stands p f. subst (FindsRows ixs) (sym (same docs after p)) f)

-- every index finds, if there are none
pub finds_none : (ixs : Indexes) (c : List ℕ) (p : ℤ) (b : List ℕ) → ixs.list.items ≡ [] → Finds ixs c p b
finds_none ixs c p b e = subst (λ (xs : List Index). FindEach xs c p b) (sym e) tt

pub none_find : (ixs : Indexes) (docs : List TableRow) → ixs.list.items ≡ [] → FindsRows ixs docs
none_find ixs [] e = tt
none_find ixs (d ∷ docs) e = (finds_none ixs d.coll d.place d.body e, none_find ixs docs e)

-- there are none after a call
pub emptied : {shown : Bool} (old new : State) (ixs jxs : Indexes) (P : List TableRow → List TableRow → Type 0) → Moves old new P → jxs.list.items ≡ [] → HasKept old shown ixs → HasKept new shown jxs
emptied old new ixs jxs P moves none = keeps old new ixs jxs P moves (λ _. none) (λ clean docs after stands p f. none_find jxs after none)

-- ---- changes

finds_more : (ixs jxs : Indexes) (docs : List TableRow) (d : TableRow) → ((c : List ℕ) (p : ℤ) (b : List ℕ) → Finds ixs c p b → Finds jxs c p b) → FindsRow jxs d → FindsRows ixs docs → FindsRows jxs (docs ++ d ∷ [])
finds_more ixs jxs [] d kept one h = (one, tt)
finds_more ixs jxs (e ∷ docs) d kept one h = (kept e.coll e.place e.body h.0, finds_more ixs jxs docs d kept one h.1)

pub appended : (ixs jxs : Indexes) (coll idkey body : List ℕ) (place : ℤ) (docs after : List TableRow) → place ≡ (last_place docs +ℤ pos 1) → after ≡ with_row coll idkey body docs
    → ((c : List ℕ) (p : ℤ) (b : List ℕ) → Finds ixs c p b → Finds jxs c p b) → Finds jxs coll place body → FindsRows ixs docs → FindsRows jxs after
appended ixs jxs coll idkey body place docs after at is kept one h =
    subst (FindsRows jxs) (sym is) (finds_more ixs jxs docs (record { place = last_place docs +ℤ pos 1; coll = coll; idkey = idkey; body = body }) kept (subst (λ p. Finds jxs coll p body) at one) h)

pub removed : (ixs jxs : Indexes) (place : ℤ) (docs : List TableRow) → ((c : List ℕ) (p : ℤ) (b : List ℕ) → (p ≡ place → ⊥) → Finds ixs c p b → Finds jxs c p b) → FindsRows ixs docs → FindsRows jxs (without_place place docs)
removed ixs jxs place [] kept h = tt
removed ixs jxs place (d ∷ docs) kept h = by (is_at place d) refl (removed ixs jxs place docs kept h.1)
  where
    by : (b : Bool) → is_at place d ≡ b → FindsRows jxs (without_place place docs) → FindsRows jxs (cond (not b) (d ∷ without_place place docs) (without_place place docs))
    by true e rest = rest
    by false e rest = (kept d.coll d.place d.body (λ same. let t = (Decides-int_eq d.place place).1 same in let x : true ≡ false = sym t ∙ e in absurd (cc)) h.0, rest)

-- no place is under a key, if there are none
pub misses_none : (ixs : Indexes) (p : ℤ) (b : List ℕ) → ixs.list.items ≡ [] → Misses ixs p b
misses_none ixs p b e = subst (λ (xs : List Index). MissEach xs p b) (sym e) tt

-- one more row, which has another place
parted : (p : ℤ) (docs : List TableRow) (d : TableRow) → HasNoneAt p (docs ++ d ∷ []) → HasNoneAt p docs × (d.place ≡ p → ⊥)
parted p [] d h = (tt, h.0)
parted p (x ∷ docs) d h = let r = parted p docs d h.1 in ((h.0, r.0), r.1)

pub none_before : (q : ℤ) (coll : List ℕ) (rows : List NewRow) (i : ℕ) (p : ℤ) → i < length rows → HasNoneAt p (docs_from q coll (take (i + 1) rows)) → HasNoneAt p (docs_from q coll (take i rows)) × ((q +ℤ pos i) ≡ p → ⊥)
none_before q coll [] i p low h = absurd (omega (arith, low))
none_before q coll (x ∷ rows) i p low h = parted p (docs_from q coll (take i (x ∷ rows))) (doc_at (q +ℤ pos i) coll (get_or (x ∷ rows) i x)) (subst (HasNoneAt p) (next_rows q coll (x ∷ rows) i x low) h)

-- ---- refusals

pub adds_refused : {A : Type 0} {shown : Bool} (old new : State) (ixs : Indexes) (n : ℕ) (change : List TableRow → List TableRow) (x : Fault) → Moves old new (AddsBehind {A = A} n change (Err x)) → HasKept old shown ixs → HasKept new shown ixs
adds_refused {A} {shown} old new ixs n change x moves = read_keeps old new ixs (AddsBehind {A = A} n change (Err x)) moves (λ docs after p. p.refused)

pub change_refused : {shown : Bool} (old new : State) (ixs : Indexes) (change : List TableRow → List TableRow) (x : Fault) → Moves old new (Changes change (Err x)) → HasKept old shown ixs → HasKept new shown ixs
change_refused old new ixs change x moves = read_keeps old new ixs (Changes change (Err x)) moves (λ docs after p. p.refused)

-- ---- other indexes, while the rows stay

kept_rows : (ixs jxs : Indexes) (docs : List TableRow) → ((c : List ℕ) (p : ℤ) (b : List ℕ) → Finds ixs c p b → Finds jxs c p b) → FindsRows ixs docs → FindsRows jxs docs
kept_rows ixs jxs [] kept h = tt
kept_rows ixs jxs (d ∷ docs) kept h = (kept d.coll d.place d.body h.0, kept_rows ixs jxs docs kept h.1)

pub others_kept : {shown : Bool} (s : State) (ixs jxs : Indexes) → (ixs.list.items ≡ [] → jxs.list.items ≡ []) → ((c : List ℕ) (p : ℤ) (b : List ℕ) → Finds ixs c p b → Finds jxs c p b) → HasKept s shown ixs → HasKept s shown jxs
others_kept {shown} s ixs jxs none kept h clean = by (h clean)
  where
    by : ((shown ≡ false) × (ixs.list.items ≡ [])) ⊎ ((docs : List TableRow) × Stands s docs × FindsRows ixs docs) → ((shown ≡ false) × (jxs.list.items ≡ [])) ⊎ ((docs : List TableRow) × Stands s docs × FindsRows jxs docs)
    by (inl (not_shown, e)) = inl (not_shown, none e)
    by (inr (docs, stands, finds)) = inr (docs, stands, kept_rows ixs jxs docs kept finds)

pub same_kept : {shown : Bool} (s : State) (ixs jxs : Indexes) → jxs.list.items ≡ ixs.list.items → HasKept s shown ixs → HasKept s shown jxs
same_kept s ixs jxs e = others_kept s ixs jxs (λ none. e ∙ none) (λ c p b h. subst (λ (xs : List Index). FindEach xs c p b) (sym e) h)

-- ---- rows behind the others

finds_both : (ixs : Indexes) (xs ys : List TableRow) → FindsRows ixs xs → FindsRows ixs ys → FindsRows ixs (xs ++ ys)
finds_both ixs [] ys h k = k
finds_both ixs (d ∷ xs) ys h k = (h.0, finds_both ixs xs ys h.1 k)

pub rows_added : (ixs jxs : Indexes) (coll : List ℕ) (rows : List NewRow) (last : ℤ) (docs after : List TableRow) → last ≡ last_place docs → after ≡ with_rows coll rows docs
    → ((c : List ℕ) (p : ℤ) (b : List ℕ) → Finds ixs c p b → Finds jxs c p b) → FindsRows jxs (docs_from (last +ℤ pos 1) coll rows) → FindsRows ixs docs → FindsRows jxs after
rows_added ixs jxs coll rows last docs after at is kept new h =
    subst (FindsRows jxs) (sym is) (finds_both jxs docs (docs_from (last_place docs +ℤ pos 1) coll rows) (kept_rows ixs jxs docs kept h) (subst (λ (p : ℤ). FindsRows jxs (docs_from (p +ℤ pos 1) coll rows)) at new))

-- one row after the others of the call
pub noted_more : (ixs jxs : Indexes) (made all : List TableRow) (d : TableRow) → all ≡ made ++ d ∷ [] → ((c : List ℕ) (p : ℤ) (b : List ℕ) → Finds ixs c p b → Finds jxs c p b) → FindsRow jxs d → FindsRows ixs made → FindsRows jxs all
noted_more ixs jxs made all d is kept one h = subst (FindsRows jxs) (sym is) (finds_more ixs jxs made d kept one h)

-- ---- which indexes there are

no_kinds : (xs : List Index) → kinds_of xs ≡ [] → xs ≡ []
no_kinds [] e = refl
no_kinds (x ∷ xs) e = absurd (cc)

-- one change after the other
pub stay_then : (ixs jxs kxs : Indexes) → StayOrGo ixs jxs → StayOrGo jxs kxs → StayOrGo ixs kxs
stay_then ixs jxs kxs h (inr none) = inr none
stay_then ixs jxs kxs (inl e) (inl f) = inl (f ∙ e)
stay_then ixs jxs kxs (inr none) (inl f) = inr (no_kinds kxs.list.items (f ∙ ap kinds_of none))

pub told : (ixs jxs : Indexes) (r : Result (Unit {0}) AllocError) → OnOk r (AreAsBefore ixs jxs) → OnErr r (jxs.list.items ≡ []) → StayOrGo ixs jxs
told ixs jxs (Ok x) same dropped = inl same
told ixs jxs (Err x) same dropped = inr dropped
