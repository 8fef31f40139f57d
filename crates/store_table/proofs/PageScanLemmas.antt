-- The rows that are left of a table.
use Rattle.std.proofs.Common.{◌≡◌, ℕ, ℤ, pos, ◌+ℤ◌, ◌-◌, ◌^◌, Bool, true, false, List, [], ◌∷◌, map, ◌++◌, append_assoc, append-nil, length, drop, get_or, negsuc, Option, Some, None, MatchOption, SFits, w64, int_lt, int_cmp, is_lt, refl, sym, ap, ap₂, ◌∙◌, subst, inl, inr, arith}
use Rattle.std.proofs.lemmas.Bool.{cases_Bool, cond-true, cond-false}
use Rattle.std.proofs.lemmas.Int.{ints}
use Rattle.std.proofs.lemmas.Bool.Decides.{nat_tests}
use Rattle.sqlite_pages.specs.PageMap.{PageMap}
use Rattle.sqlite_record.specs.Record.{decode}
use Rattle.sqlite_btree.specs.declared.batch.Batch.{Batch}
use Rattle.sqlite_btree.specs.Chain.{Layout}
use Rattle.sqlite_btree.specs.Batch.{left_in, taken, IsBatchOf, IsFilled, TookFirst}
use Rattle.sqlite_btree.specs.Cut.{Ascends, IsIn, from_cut}
use Rattle.sqlite_btree.specs.Stored.{as_row, by_rowid}
use Rattle.std.proofs.lemmas.List.{nil_from_length, length-map}
use Rattle.sqlite_btree.proofs.CutLemmas.{Each-in}
use Rattle.sqlite_store.proofs.RowLemmas.{AllFit, from_least}
use Rattle.store_table.specs.Documents.{Doc, columns, placed, read_row, is_of, of_collection}
use Rattle.store_table.specs.PageRows.{doc_at, left_from, IsAmong, IsLeft, Takes, Steps}
use Rattle.store_table.specs.declared.pages.cells.RowRef.{RowRef}
use Rattle.store_table.specs.declared.pages.scan.Rows.{Rows}
use Rattle.store_table.proofs.DocumentLemmas.{from_subset, ascends_from, same_columns}
use Rattle.store_table.proofs.RootLemmas.{Raw, from_next, past_next, rise}

-- from the next rowid on are the rows behind the first one from here on
behind_first : (from k : ℤ) (x : Raw) (rows tail : List Raw) → k ≡ (x.0 +ℤ pos 1) → Ascends rise rows → from_cut (by_rowid from) rows ≡ x ∷ tail → from_cut (by_rowid k) rows ≡ tail
behind_first from k x [] tail is up h = absurd (cc)
behind_first from k x (y ∷ rows) tail is up h =
    elim (cases_Bool (is_lt (int_cmp y.0 from))) [
      | inl lt ↦
          let later : from_cut (by_rowid from) rows ≡ x ∷ tail = sym (cond-true _ _ _ lt) ∙ h in
          let there : IsIn x rows = from_subset (by_rowid from) rows x (subst (λ l. IsIn x l) (sym later) (inl refl)) in
          let low : int_lt y.0 x.0 ≡ true = Each-in (λ z. int_lt y.0 z.0 ≡ true) rows x up.0 there in
          cond-true _ _ _ (past_next y.0 x.0 k is low) ∙ behind_first from k x rows tail is up.1 later
      | inr ge ↦
          let whole : y ∷ rows ≡ x ∷ tail = sym (cond-false _ _ _ ge) ∙ h in
          ap (from_cut (by_rowid k)) whole ∙ from_next x k tail is (subst (Ascends rise) whole up)
    ]

none_above : (a b : ℤ) → SFits w64 b → a ≡ pos (2 ^ 63 - 1) → int_lt a b ≡ true → ⊥
none_above a b fit is h = let f = fit in grind (arith, ints, nat_tests)

-- behind the greatest rowid is no row
behind_most : (from : ℤ) (x : Raw) (rows tail : List Raw) → AllFit rows → Ascends rise rows → x.0 ≡ pos (2 ^ 63 - 1) → from_cut (by_rowid from) rows ≡ x ∷ tail → tail ≡ []
behind_most from x rows [] fit up is h = refl
behind_most from x rows (z ∷ zs) fit up is h =
    let there : IsIn z rows = from_subset (by_rowid from) rows z (subst (λ l. IsIn z l) (sym h) (inr (inl refl))) in
    let rising : Ascends rise (x ∷ z ∷ zs) = subst (Ascends rise) h (ascends_from (by_rowid from) rise rows up) in
    absurd (none_above x.0 z.0 (Each-in (λ r. SFits w64 r.0) rows z fit there) is rising.0.0)

left_behind : (from : ℤ) (next : Option ℤ) (x : Raw) (rows tail : List Raw) → AllFit rows → Ascends rise rows → MatchOption next (x.0 ≡ pos (2 ^ 63 - 1)) (λ n. n ≡ (x.0 +ℤ pos 1))
    → from_cut (by_rowid from) rows ≡ x ∷ tail → left_from next rows ≡ tail
left_behind from None x rows tail fit up is h = sym (behind_most from x rows tail fit up is h)
left_behind from (Some k) x rows tail fit up is h = behind_first from k x rows tail is up h

module _ (layout : Layout) (size : ℕ) (pages : PageMap) (rows : List Raw) (fit : AllFit rows) (up : Ascends rise rows) where
  pub took_next : (old new : Rows) (from : ℤ) → old.from ≡ Some from → IsAmong layout size pages rows old → TookFirst layout size pages old.batch new.batch true
      → MatchOption new.from ((as_row (taken new.batch)).0 ≡ pos (2 ^ 63 - 1)) (λ n. n ≡ ((as_row (taken new.batch)).0 +ℤ pos 1)) → Takes layout size pages rows old new true
  took_next old new from is among took next =
      let whole : left_from old.from rows ≡ as_row (taken new.batch) ∷ map as_row (left_in pages new.batch) ++ among.rest =
      among.parts ∙ ap (λ l. map as_row l ++ among.rest) took.0 in
      let here : from_cut (by_rowid from) rows ≡ as_row (taken new.batch) ∷ (map as_row (left_in pages new.batch) ++ among.rest) = ap (λ f. left_from f rows) (sym is) ∙ whole in
      let after : left_from new.from rows ≡ map as_row (left_in pages new.batch) ++ among.rest = left_behind from new.from _ rows _ fit up next here in
      (record { valid = took.1; rest = among.rest; parts = after }, whole ∙ ap (λ l. as_row (taken new.batch) ∷ l) (sym after))

  -- a page was copied from the first row that is left on
  pub filled_next : (it : Rows) (from : ℤ) → it.from ≡ Some from → IsFilled as_row (from_cut (by_rowid from) rows) layout size pages it.batch → IsAmong layout size pages rows it
  filled_next it from is filled = record { valid = filled.valid; rest = filled.rest; parts = ap (λ f. left_from f rows) is ∙ filled.parts }

  pub steps_on : (old mid new : Rows) (some : Bool) → left_from old.from rows ≡ left_from mid.from rows → Takes layout size pages rows mid new some
      → (left_in pages mid.batch ≡ [] → left_from mid.from rows ≡ []) → Steps layout size pages rows old new some
  steps_on old mid new true same took ends = (took.0, same ∙ took.1)
  steps_on old mid new false same took ends = same ∙ ends took.0

pub ends_filled : (rows : List Raw) (from : ℤ) (layout : Layout) (size : ℕ) (pages : PageMap) (batch : Batch) → IsFilled as_row (from_cut (by_rowid from) rows) layout size pages batch
    → left_in pages batch ≡ [] → from_cut (by_rowid from) rows ≡ []
ends_filled rows from layout size pages batch filled none = filled.parts ∙ ap (λ l. map as_row l ++ filled.rest) none ∙ filled.ends none

-- ---- the rows of a collection

pub of_append : (coll : List ℕ) (xs ys : List Doc) → of_collection coll (xs ++ ys) ≡ of_collection coll xs ++ of_collection coll ys
of_append coll [] ys = refl
of_append coll (x ∷ xs) ys =
    elim (cases_Bool (is_of coll x)) [
      | inl t ↦ rw t (ap (λ l. x ∷ l) (of_append coll xs ys))
      | inr f ↦ rw f (of_append coll xs ys)
    ]

same_doc : (d : Doc) (p : ℤ) (c k b : List ℕ) → d.place ≡ p → d.coll ≡ c → d.idkey ≡ k → d.body ≡ b → d ≡ record { place = p; coll = c; idkey = k; body = b }
same_doc d p c k b ep ec ek eb =
    ap₂ (λ x y. record { place = x; coll = y; idkey = d.idkey; body = d.body }) ep ec ∙ ap₂ (λ x y. record { place = p; coll = c; idkey = x; body = y }) ek eb

module _ (layout : Layout) (size : ℕ) (pages : PageMap) (rows : List Raw) (coll : List ℕ) (docs : List Doc) where
  pub left_at_first : (it : Rows) → AllFit rows → it.from ≡ Some (negsuc (2 ^ 63 - 1)) → IsBatchOf layout size it.batch → left_in pages it.batch ≡ [] → map read_row rows ≡ map placed docs
      → IsLeft layout size pages rows coll docs [] it
  left_at_first it fit from valid none shows =
      let all : left_from it.from rows ≡ rows = ap (λ f. left_from f rows) from ∙ from_least rows fit in
      record {
        among = record { valid = valid; rest = rows; parts = all ∙ sym (ap (λ l. map as_row l ++ rows) none) };
        back = docs;
        all = refl;
        shows = ap (map read_row) all ∙ shows;
      }

  step_from : (old new : Rows) (given : List Doc) (row : RowRef) (place : ℤ) (x : Raw) (back : List Doc) → of_collection coll docs ≡ given ++ of_collection coll back
      → map read_row (x ∷ left_from new.from rows) ≡ map placed back → IsAmong layout size pages rows new → decode x.1 ≡ columns row.coll.now row.idkey.now row.body.now → place ≡ x.0
      → IsLeft layout size pages rows coll docs (given ++ of_collection coll (doc_at place row ∷ [])) new
  step_from old new given row place x [] all shows among reads is = absurd (cc)
  step_from old new given row place x (d ∷ ds) all shows among reads is =
      let head : read_row x ≡ placed d = ap (λ l. get_or l 0 (placed d)) shows in
      let parts = same_columns d.coll d.idkey d.body row.coll.now row.idkey.now row.body.now d.place place (sym head ∙ ap₂ (λ p r. (p, r)) (sym is) reads) in
      let one : d ≡ doc_at place row = same_doc d place _ _ _ (ap (λ r. r.0) (sym head) ∙ sym is) parts.0 parts.1 parts.2 in
      record {
        among = among;
        back = ds;
        all = all ∙ ap (λ l. given ++ l) (of_append coll (d ∷ []) ds ∙ ap (λ e. of_collection coll (e ∷ []) ++ of_collection coll ds) one)
            ∙ sym (append_assoc given (of_collection coll (doc_at place row ∷ [])) (of_collection coll ds));
        shows = ap (drop 1) shows;
      }

  pub left_on : (old new : Rows) (given : List Doc) (row : RowRef) (place : ℤ) (some : Bool) → some ≡ true → IsLeft layout size pages rows coll docs given old → Steps layout size pages rows old new some
      → decode (taken new.batch).payload ≡ columns row.coll.now row.idkey.now row.body.now → place ≡ (as_row (taken new.batch)).0
      → IsLeft layout size pages rows coll docs (given ++ of_collection coll (doc_at place row ∷ [])) new
  left_on old new given row place some is_yes left steps reads is =
      let step = subst (Steps layout size pages rows old new) is_yes steps in
      step_from old new given row place (as_row (taken new.batch)) left.back left.all (ap (map read_row) (sym step.1) ∙ left.shows) step.0 reads is

  pub left_none : (old new : Rows) (given : List Doc) (some : Bool) → some ≡ false → IsLeft layout size pages rows coll docs given old → Steps layout size pages rows old new some
      → of_collection coll docs ≡ given
  left_none old new given some is_no left steps =
      let none : left_from old.from rows ≡ [] = subst (Steps layout size pages rows old new) is_no steps in
      let back : left.back ≡ [] = nil_from_length left.back (sym (length-map left.back placed) ∙ ap length (sym (sym (ap (map read_row) none) ∙ left.shows))) in
      left.all ∙ ap (λ l. given ++ of_collection coll l) back ∙ append-nil given
