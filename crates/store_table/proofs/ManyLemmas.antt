-- Several rows, one place after the other.
use Rattle.std.proofs.Common.{◌≡◌, ◌<◌, ◌≤ℤ◌, ℕ, ℤ, pos, ◌+ℤ◌, ◌+◌, zero, suc, List, [], ◌∷◌, ◌++◌, take, length, get_or, sym, ap, subst, ◌∙◌, arith}
use Rattle.std.proofs.lemmas.Int.{ints}
use Rattle.store_table.specs.declared.row.NewRow.{NewRow}
use Rattle.std.proofs.Common.{Result, Ok, Err, OnOk, IsTrue, false}
use Rattle.sqlite.specs.declared.error.Error.{Error}
use Rattle.sqlite.specs.Effect.{Database}
use Rattle.sqlite.specs.State.{State, KeepsCounts, Shows as Shown}
use Rattle.store_table.specs.Rows.{TableRow, AreBelow, docs_from, RowsIn, HoldsRows, Inside}

abbrev pub doc_at : ℤ → List ℕ → NewRow → TableRow
doc_at place coll r = record { place = place; coll = coll; idkey = r.idkey.now; body = r.body.now }

-- the rows up to one more
pub next_rows : (p : ℤ) (coll : List ℕ) (rows : List NewRow) (i : ℕ) (r : NewRow) → i < length rows
    → docs_from p coll (take (i + 1) rows) ≡ docs_from p coll (take i rows) ++ doc_at (p +ℤ pos i) coll (get_or rows i r) ∷ []
next_rows p coll [] i r low = absurd (omega (arith, low))
next_rows p coll (x ∷ rows) zero r low = ap (λ q. doc_at q coll x ∷ []) (omega (arith, ints))
next_rows p coll (x ∷ rows) (suc i) r low =
    let more = next_rows (p +ℤ pos 1) coll rows i r (omega (arith, low)) in
    let place : (p +ℤ pos 1) +ℤ pos i ≡ p +ℤ pos (suc i) = omega (arith, ints) in
    let e : suc i + 1 ≡ suc (i + 1) = omega arith in
    ap (λ n. docs_from p coll (take n (x ∷ rows))) e ∙ ap (λ ds. doc_at p coll x ∷ ds) (more ∙ ap (λ q. docs_from (p +ℤ pos 1) coll (take i rows) ++ doc_at q coll (get_or rows i r) ∷ []) place)

pub below_more : (p q : ℤ) (docs : List TableRow) → p ≤ℤ q → AreBelow p docs → AreBelow q docs
below_more p q [] h below = tt
below_more p q (d ∷ docs) h below = (omega (arith, ints, h, below.0), below_more p q docs h below.1)

pub below_both : (q : ℤ) (xs ys : List TableRow) → AreBelow q xs → AreBelow q ys → AreBelow q (xs ++ ys)
below_both q [] ys h k = k
below_both q (x ∷ xs) ys h k = (h.0, below_both q xs ys h.1 k)

pub below_made : (p q : ℤ) (coll : List ℕ) (rows : List NewRow) (i : ℕ) → (p +ℤ pos i) ≤ℤ q → AreBelow q (docs_from p coll (take i rows))
below_made p q coll rows zero h = tt
below_made p q coll [] (suc i) h = tt
below_made p q coll (x ∷ rows) (suc i) h = (omega (arith, ints, h), below_made (p +ℤ pos 1) q coll rows i (omega (arith, ints, h)))

pub below_rows : (p : ℤ) (coll : List ℕ) (rows : List NewRow) (i : ℕ) (docs : List TableRow) → AreBelow p docs → AreBelow (p +ℤ pos i) (docs ++ docs_from p coll (take i rows))
below_rows p coll rows i docs h = below_both (p +ℤ pos i) docs (docs_from p coll (take i rows)) (below_more p (p +ℤ pos i) docs (omega (arith, ints)) h) (below_made p (p +ℤ pos i) coll rows i (omega (arith, ints)))

-- a commit makes what the transaction showed the state
pub committed_shows : (last new : State) (first docs : List TableRow) (r : Result (Unit {0}) Error) → Inside last first docs → new.in_transaction ≡ false
    → OnOk r (IsTrue last.in_transaction × Shown last new last.now last.now false × KeepsCounts last new × (new.marks ≡ [])) → OnOk r (HoldsRows new docs)
committed_shows last new first docs (Err e) h auto k = tt
committed_shows last new first docs (Ok u) h auto k = record {
  is_open = k.1.is_open;
  autocommit = auto;
  settled = k.1.now_is ∙ sym k.1.committed_is;
  table = subst (λ (x : Database). RowsIn x docs) (sym k.1.now_is) h.table;
}
