-- What is reported of rows that are read one after the other.
use Rattle.std.proofs.Common.{◌≡◌, inl, inr, append_assoc, ℕ, ℤ, List, [], ◌∷◌, ◌++◌, map, Bool, true, false, ◌&&◌, Result, Ok, Err, is_err, IsTrue, refl, sym, ap, subst, ◌∙◌}
use Rattle.std.specs.List.{list_all}
use Rattle.std.proofs.lemmas.Bool.{cases_Bool}
use Rattle.std.proofs.lemmas.List.Folds.{list_all-append}
use Rattle.sqlite.specs.Order.{Row, column}
use Rattle.store_table.specs.declared.opening.OpenError.{OpenError}
use Rattle.store_table.specs.declared.opening.OpenError.TheVariants.{NotAStore, BadRow, IdsCollide, Memory, Database}
use Rattle.store_table.specs.Rows.{TableRow, last_place}
use Rattle.store_table.specs.Cells.{is_listed, int_in, doc_of}
use Rattle.store_table.specs.Check.{IsGoodAfter, AreGood, IsFirstBad}
use Rattle.store_table.specs.Seen.{Pair, HasSeen}
use Rattle.store_table.specs.Judged.{ArePassed, AreBad, JudgesRow}
use Rattle.store_table.proofs.CheckLemmas.{good_on}
use Rattle.store_table.proofs.LastPlaceLemmas.{last_last, map_end}

same_listed : (rows : List Row) (r : Row) (a b : Bool) → list_all is_listed rows ≡ a → is_listed r ≡ b → list_all is_listed (rows ++ r ∷ []) ≡ a && (b && true)
same_listed rows r a b p q = list_all-append is_listed rows (r ∷ []) ∙ rw (p, q) refl

typed_on : (rows : List Row) (r : Row) → list_all is_listed rows ≡ true → is_listed r ≡ true → list_all is_listed (rows ++ r ∷ []) ≡ true
typed_on rows r p q = same_listed rows r true true p q

mistyped_on : (rows : List Row) (r : Row) → list_all is_listed rows ≡ false → list_all is_listed (rows ++ r ∷ []) ≡ false
mistyped_on rows r p = same_listed rows r false (is_listed r) p refl

mistyped_at : (rows : List Row) (r : Row) → is_listed r ≡ false → list_all is_listed (rows ++ r ∷ []) ≡ false
mistyped_at rows r q = elim (cases_Bool (list_all is_listed rows)) [ inl p ↦ same_listed rows r true false p q | inr p ↦ same_listed rows r false false p q ]

module _ (accepts : List ℕ → List ℕ → List ℕ → Type 0) where
  bad_on : (docs : List TableRow) (d : TableRow) (place : ℤ) → IsFirstBad accepts docs place → IsFirstBad accepts (docs ++ d ∷ []) place
  bad_on docs d place h = record {
    front = h.front;
    bad = h.bad;
    back = h.back ++ d ∷ [];
    all = ap (λ (ds : List TableRow). ds ++ d ∷ []) h.all ∙ append_assoc h.front (h.bad ∷ h.back) (d ∷ []);
    good = h.good;
    refused = h.refused;
    is = h.is;
  }

  still_wrong : (keys keys' : List Pair) (last last' : ℤ) (rows : List Row) (r : Row) (verdict : Result (Unit {0}) OpenError) → is_err verdict ≡ true → is_listed r ≡ true → JudgesRow accepts keys last rows verdict
      → JudgesRow accepts keys' last' (rows ++ r ∷ []) verdict
  still_wrong keys keys' last last' rows r (Ok done) e t h = absurd (cc)
  still_wrong keys keys' last last' rows r (Err NotAStore) e t h = mistyped_on rows r h
  still_wrong keys keys' last last' rows r (Err (BadRow place)) e t h = record { typed = typed_on rows r h.typed t; first = subst (λ (ds : List TableRow). IsFirstBad accepts ds place) (sym (map_end r rows)) (bad_on (map doc_of rows) (doc_of r) place h.first) }
  still_wrong keys keys' last last' rows r (Err (IdsCollide first second)) e t h = absurd h
  still_wrong keys keys' last last' rows r (Err Memory) e t h = absurd h
  still_wrong keys keys' last last' rows r (Err Database) e t h = absurd h

  -- what is wrong stays so, whatever the row
  pub wrong_on : (keys keys' : List Pair) (last last' : ℤ) (rows : List Row) (r : Row) (verdict now : Result (Unit {0}) OpenError) → is_err now ≡ true → (IsTrue (is_listed r) → now ≡ verdict) → (is_listed r ≡ false → now ≡ Err NotAStore)
      → JudgesRow accepts keys last rows verdict → JudgesRow accepts keys' last' (rows ++ r ∷ []) now
  wrong_on keys keys' last last' rows r verdict now e kept mistyped h = elim (cases_Bool (is_listed r)) [
    | inl t ↦ subst (λ v. JudgesRow accepts keys' last' (rows ++ r ∷ []) v) (sym (kept t)) (still_wrong keys keys' last last' rows r verdict (ap is_err (sym (kept t)) ∙ e) t h)
    | inr f ↦ subst (λ v. JudgesRow accepts keys' last' (rows ++ r ∷ []) v) (sym (mistyped f)) (mistyped_at rows r f)
  ]

  -- a good row after rows that pass
  pub passed_on : (keys keys' : List Pair) (last : ℤ) (rows : List Row) (r : Row) → is_listed r ≡ true → ArePassed accepts keys last rows → IsGoodAfter accepts (map doc_of rows) (doc_of r)
      → HasSeen keys' (map doc_of rows ++ doc_of r ∷ []) → ArePassed accepts keys' (int_in (column r 0)) (rows ++ r ∷ [])
  passed_on keys keys' last rows r t h good seen = record {
    typed = typed_on rows r h.typed t;
    good = subst (λ (ds : List TableRow). AreGood accepts ds) (sym (map_end r rows)) (good_on accepts (map doc_of rows) (doc_of r) h.good good);
    seen = subst (λ (ds : List TableRow). HasSeen keys' ds) (sym (map_end r rows)) seen;
    place = sym (ap last_place (map_end r rows) ∙ last_last (map doc_of rows) (doc_of r));
  }

  -- the first bad row
  pub bad_at : (keys : List Pair) (last place : ℤ) (rows : List Row) (r : Row) → is_listed r ≡ true → ArePassed accepts keys last rows → (IsGoodAfter accepts (map doc_of rows) (doc_of r) → ⊥)
      → (doc_of r).place ≡ place → AreBad accepts (rows ++ r ∷ []) place
  bad_at keys last place rows r t h bad is = record {
    typed = typed_on rows r h.typed t;
    first = record { front = map doc_of rows; bad = doc_of r; back = []; all = map_end r rows; good = h.good; refused = bad; is = is };
  }

  -- if nothing is wrong
  pub passed_if : (keys : List Pair) (last : ℤ) (rows : List Row) (r : Row) (verdict now : Result (Unit {0}) OpenError) → is_err now ≡ false → (IsTrue (is_listed r) → now ≡ verdict) → (is_listed r ≡ false → now ≡ Err NotAStore)
      → JudgesRow accepts keys last rows verdict → ArePassed accepts keys last rows × (is_listed r ≡ true)
  passed_if keys last rows r verdict now e kept mistyped h = elim (cases_Bool (is_listed r)) [
    | inl t ↦ (go verdict (ap is_err (sym (kept t)) ∙ e) h, t)
    | inr f ↦ absurd (let g = mistyped f in cc)
  ]
    where
      go : (v : Result (Unit {0}) OpenError) → is_err v ≡ false → JudgesRow accepts keys last rows v → ArePassed accepts keys last rows
      go (Ok done) q k = k
      go (Err error) q k = absurd (cc)
