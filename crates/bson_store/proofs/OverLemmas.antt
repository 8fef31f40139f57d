-- A draft with one change more.
use Rattle.std.proofs.Common.{◌≡◌, ◌+ℤ◌, ◌++◌, ◌∷◌, [], ℕ, ℤ, pos, suc, zero, List, length, Bool, true, false, ◌&&◌, cond, is_eq, Option, None, Some, MatchOption, IsSomeAnd, slice_get, Result, Ok, Err, OnOk, String, Vec, Global, string_bytes, bytes_eq, refl, sym, ap, ap₂, subst, ◌∙◌, arith}
use Rattle.std.proofs.lemmas.Int.{ints}
use Rattle.std.proofs.lemmas.Bool.{and_parts}
use Rattle.std.proofs.lemmas.Bool.Decides.{Decides-int_eq}
use Rattle.std.proofs.lemmas.Slice.Eq.{bytes_eq-Decides}
use Rattle.std.specs.BTreeMap.{get}
use Rattle.std.specs.Ordering.{int_eq}
use Rattle.store_table.specs.Change.{with_change, with_changes}
use Rattle.store_table.specs.Rows.{TableRow, AreBelow, IsRising, is_row_named, with_body_at, without_place}
use Rattle.store_table.specs.Seen.{Pair, pair_cmp}
use Rattle.store_table.specs.declared.change.Change.{Change}
use Rattle.store_table.specs.declared.change.Change.TheVariants.{Add, Rewrite, Remove}
use Rattle.store_table.proofs.PlaceLemmas.{rising_replaced, rising_without}
use Rattle.store_table.proofs.RowLemmas.{rising_last}
use Rattle.store_table.proofs.SeenLemmas.{pair_test}
use Rattle.store_table.proofs.WholeLemmas.{below_added, below_rewritten, below_without}
use Rattle.bson_store.specs.Draft.{AreApart, Touches, left_by, parts_in}
use Rattle.bson_store.specs.Drafted.{DraftsMore, Follows, IsOver, changes_of, drafted, last_of}
use Rattle.bson_store.specs.declared.draft.Draft.{Draft}
use Rattle.bson_store.proofs.ApartLemmas.{apart_added, apart_rewritten, apart_without, elsewhere, none_there}
use Rattle.bson_store.proofs.DraftLemmas.{found_added, found_rewritten, found_without, or_added, or_rewritten, unless_removed}

pub changes_more : (changes : List Change) (c : Change) (docs : List TableRow) → with_changes (changes ++ c ∷ []) docs ≡ with_change c (with_changes changes docs)
changes_more [] c docs = refl
changes_more (x ∷ changes) c docs = changes_more changes c (with_change x docs)

pub drafts_more : (old new : Draft) (c : Change) (change : List TableRow → List TableRow) → changes_of new ≡ changes_of old ++ c ∷ [] → ((docs : List TableRow) → with_change c docs ≡ change docs) → DraftsMore old new change
drafts_more old new c change is same docs = ap (λ cs. with_changes cs docs) is ∙ changes_more (changes_of old) c docs ∙ same (drafted old docs)

pub both_ok : {A E : Type 0} {P Q : Type 0} (r : Result A E) (R : Type 0) → (P → Q → R) → OnOk r P → OnOk r Q → OnOk r R
both_ok (Ok a) R f p q = f p q
both_ok (Err e) R f p q = tt

pub then_ok : {A E : Type 0} {P : Type 0} (r : Result A E) (R : Type 0) → (P → R) → OnOk r P → OnOk r R
then_ok (Ok a) R f p = f p
then_ok (Err e) R f p = tt

-- ---- what a draft finds

get_last : (changes : List Change) (c : Change) → slice_get (changes ++ c ∷ []) (length changes) ≡ Some c
get_last [] c = refl
get_last (x ∷ changes) c = get_last changes c

get_still : (P : Change → Type 0) (changes : List Change) (c : Change) (i : ℕ) → IsSomeAnd (slice_get changes i) P → IsSomeAnd (slice_get (changes ++ c ∷ []) i) P
get_still P [] c i h = absurd h
get_still P (x ∷ changes) c zero h = h
get_still P (x ∷ changes) c (suc i) h = get_still P changes c i h

some_and : (P Q : Change → Type 0) (o : Option Change) → ((c : Change) → P c → Q c) → IsSomeAnd o P → IsSomeAnd o Q
some_and P Q None f h = absurd h
some_and P Q (Some c) f h = f c h

both_same : (x q : Pair) → is_eq (pair_cmp x q) ≡ true → (x.0.items ≡ q.0.items) × (x.1.items ≡ q.1.items)
both_same x q t =
    let parts = and_parts (bytes_eq x.0.items q.0.items) (bytes_eq x.1.items q.1.items) (sym (pair_test x q) ∙ t) in
    ((bytes_eq-Decides x.0.items q.0.items).0 parts.0, (bytes_eq-Decides x.1.items q.1.items).0 parts.1)

both_true : (a b : Bool) → a ≡ true → b ≡ true → (a && b) ≡ true
both_true a b e f = rw (e, f) refl

not_same : (x q : Pair) (n k : List ℕ) → x.0.items ≡ k → x.1.items ≡ n → is_eq (pair_cmp x q) ≡ false → (q.1.items ≡ n) × (q.0.items ≡ k) → ⊥
not_same x q n k key name off same =
    let on : is_eq (pair_cmp x q) ≡ true = pair_test x q ∙ both_true (bytes_eq x.0.items q.0.items) (bytes_eq x.1.items q.1.items)
    ((bytes_eq-Decides x.0.items q.0.items).1 (key ∙ sym same.1)) ((bytes_eq-Decides x.1.items q.1.items).1 (name ∙ sym same.0)) in
    let z : true ≡ false = sym on ∙ off in
    absurd (cc)

-- the change is the last that touched its key
pub follows_more : (old new : Draft) (x : Pair) (n k : List ℕ) (c : Change) (i : ℕ) (docs : List TableRow) → x.0.items ≡ k → x.1.items ≡ n → changes_of new ≡ changes_of old ++ c ∷ [] → i ≡ length (changes_of old)
    → ((q : Pair) → get pair_cmp new.touched q ≡ cond (is_eq (pair_cmp x q)) (Some i) (get pair_cmp old.touched q)) → Follows old docs → Touches n k c (drafted old docs) → Follows new docs
follows_more old new x n k c i docs key name more at updates h touches q = subst (λ o. MatchOption o (parts_in q.1.items q.0.items (drafted new docs) ≡ parts_in q.1.items q.0.items docs) (Has new)) (sym (updates q)) (by (is_eq (pair_cmp x q)) refl)
  where
    Has : Draft → ℕ → Type 0
    Has d j = IsSomeAnd (slice_get (changes_of d) j) (λ e. parts_in q.1.items q.0.items (drafted d docs) ≡ left_by e)

    made : drafted new docs ≡ with_change c (drafted old docs)
    made = drafts_more old new c (with_change c) more (λ ds. refl) docs

    other : is_eq (pair_cmp x q) ≡ false → parts_in q.1.items q.0.items (drafted new docs) ≡ parts_in q.1.items q.0.items (drafted old docs)
    other off = ap (parts_in q.1.items q.0.items) made ∙ touches.1 q.1.items q.0.items (not_same x q n k key name off)

    still : is_eq (pair_cmp x q) ≡ false → (j : ℕ) → Has old j → Has new j
    still off j had =
        let more_of : IsSomeAnd (slice_get (changes_of old ++ c ∷ []) j) (λ e. parts_in q.1.items q.0.items (drafted new docs) ≡ left_by e) =
        get_still (λ e. parts_in q.1.items q.0.items (drafted new docs) ≡ left_by e) (changes_of old) c j
        (some_and (λ e. parts_in q.1.items q.0.items (drafted old docs) ≡ left_by e) (λ e. parts_in q.1.items q.0.items (drafted new docs) ≡ left_by e) (slice_get (changes_of old) j) (λ e is. other off ∙ is) had) in
        subst (λ cs. IsSomeAnd (slice_get cs j) (λ e. parts_in q.1.items q.0.items (drafted new docs) ≡ left_by e)) (sym more) more_of

    was : is_eq (pair_cmp x q) ≡ false → (o : Option ℕ) → MatchOption o (parts_in q.1.items q.0.items (drafted old docs) ≡ parts_in q.1.items q.0.items docs) (Has old) → MatchOption o (parts_in q.1.items q.0.items (drafted new docs) ≡ parts_in q.1.items q.0.items docs) (Has new)
    was off None had = other off ∙ had
    was off (Some j) had = still off j had

    by : (b : Bool) → is_eq (pair_cmp x q) ≡ b → MatchOption (cond b (Some i) (get pair_cmp old.touched q)) (parts_in q.1.items q.0.items (drafted new docs) ≡ parts_in q.1.items q.0.items docs) (Has new)
    by true on =
        let same = both_same x q on in
        let is : parts_in q.1.items q.0.items (drafted new docs) ≡ left_by c = ap₂ (λ a b. parts_in a b (drafted new docs)) (sym same.1 ∙ name) (sym same.0 ∙ key) ∙ ap (parts_in n k) made ∙ touches.0 in
        subst (λ o. IsSomeAnd o (λ e. parts_in q.1.items q.0.items (drafted new docs) ≡ left_by e)) (sym (ap₂ (λ cs j. slice_get cs j) more at ∙ get_last (changes_of old) c)) is
    by false off = was off (get pair_cmp old.touched q) (h q)

-- ---- what a change touches

pub add_touches : (n k : List ℕ) (p : ℤ) (coll : String Global) (idkey body : Vec ℕ Global) (docs : List TableRow) → string_bytes coll ≡ n → idkey.items ≡ k → None ≡ parts_in n k docs → Touches n k (Add p coll idkey body) docs
add_touches n k p coll idkey body docs named keyed none = (
  found_added n k e docs ∙ ap (or_added (is_row_named n k e) p body.items) (sym none) ∙ rw here refl,
  λ m l other. found_added m l e docs ∙ rw (there m l other) (kept (parts_in m l docs)),
)
  where
    e : TableRow
    e = record { place = p; coll = string_bytes coll; idkey = idkey.items; body = body.items }

    here : is_row_named n k e ≡ true
    here = both_true (bytes_eq (string_bytes coll) n) (bytes_eq idkey.items k) ((bytes_eq-Decides (string_bytes coll) n).1 named) ((bytes_eq-Decides idkey.items k).1 keyed)

    there : (m l : List ℕ) → ((m ≡ n) × (l ≡ k) → ⊥) → is_row_named m l e ≡ false
    there m l other = by (is_row_named m l e) refl
      where
        by : (b : Bool) → is_row_named m l e ≡ b → b ≡ false
        by true h =
            let parts = and_parts (bytes_eq (string_bytes coll) m) (bytes_eq idkey.items l) h in
            absurd (other (sym ((bytes_eq-Decides (string_bytes coll) m).0 parts.0) ∙ named, sym ((bytes_eq-Decides idkey.items l).0 parts.1) ∙ keyed))
        by false h = refl

    kept : (o : Option (ℤ × List ℕ)) → or_added false p body.items o ≡ o
    kept None = refl
    kept (Some x) = refl

at_one : (p : ℤ) → int_eq p p ≡ true
at_one p = (Decides-int_eq p p).1 refl

not_at : (p q : ℤ) → (q ≡ p → ⊥) → int_eq q p ≡ false
not_at p q other = by (int_eq q p) refl
  where
    by : (b : Bool) → int_eq q p ≡ b → b ≡ false
    by true h = absurd (other ((Decides-int_eq q p).0 h))
    by false h = refl

rewrite_at : (n k : List ℕ) (p : ℤ) (old body : Vec ℕ Global) (was : List ℕ) (docs : List TableRow) → IsRising docs → Some (p, was) ≡ parts_in n k docs → Touches n k (Rewrite p old body) docs
rewrite_at n k p old body was docs up found = (
  found_rewritten n k p body.items docs ∙ ap (or_rewritten p body.items) (sym found) ∙ rw (at_one p) refl,
  λ m l other. found_rewritten m l p body.items docs ∙ kept (parts_in m l docs) (λ y is. elsewhere n k m l docs (p, was) y up found is other),
)
  where
    kept : (o : Option (ℤ × List ℕ)) → ((y : ℤ × List ℕ) → o ≡ Some y → y.0 ≡ p → ⊥) → or_rewritten p body.items o ≡ o
    kept None far = refl
    kept (Some y) far = rw (not_at p y.0 (far y refl)) refl

remove_at : (n k : List ℕ) (p : ℤ) (old : Vec ℕ Global) (was : List ℕ) (docs : List TableRow) → IsRising docs → AreApart docs → Some (p, was) ≡ parts_in n k docs → Touches n k (Remove p old) docs
remove_at n k p old was docs up apart found = (
  found_without n k p docs apart ∙ ap (unless_removed p) (sym found) ∙ rw (at_one p) refl,
  λ m l other. found_without m l p docs apart ∙ kept (parts_in m l docs) (λ y is. elsewhere n k m l docs (p, was) y up found is other),
)
  where
    kept : (o : Option (ℤ × List ℕ)) → ((y : ℤ × List ℕ) → o ≡ Some y → y.0 ≡ p → ⊥) → unless_removed p o ≡ o
    kept None far = refl
    kept (Some y) far = rw (not_at p y.0 (far y refl)) refl

pub rewrite_touches : (n k : List ℕ) (p q : ℤ) (old body : Vec ℕ Global) (was : List ℕ) (docs : List TableRow) → q ≡ p → IsRising docs → Some (p, was) ≡ parts_in n k docs → Touches n k (Rewrite q old body) docs
rewrite_touches n k p q old body was docs same up found = subst (λ x. Touches n k (Rewrite x old body) docs) (sym same) (rewrite_at n k p old body was docs up found)

pub remove_touches : (n k : List ℕ) (p q : ℤ) (old : Vec ℕ Global) (was : List ℕ) (docs : List TableRow) → q ≡ p → IsRising docs → AreApart docs → Some (p, was) ≡ parts_in n k docs → Touches n k (Remove q old) docs
remove_touches n k p q old was docs same up apart found = subst (λ x. Touches n k (Remove x old) docs) (sym same) (remove_at n k p old was docs up apart found)

-- ---- a draft stays over the rows

pub over_new : (d : Draft) (docs : List TableRow) (n : ℕ) → changes_of d ≡ [] → last_of d ≡ pos n → ((x : Pair) → get pair_cmp d.touched x ≡ None) → AreApart docs → IsRising docs → AreBelow (last_of d +ℤ pos 1) docs → IsOver d docs
over_new d docs n none counts free apart up low =
    let same : drafted d docs ≡ docs = ap (λ cs. with_changes cs docs) none in
    record {
      apart = subst AreApart (sym same) apart;
      rising = subst IsRising (sym same) up;
      low = subst (AreBelow (last_of d +ℤ pos 1)) (sym same) low;
      last = n;
      counts = counts;
      follows = λ x. subst (λ o. MatchOption o (parts_in x.1.items x.0.items (drafted d docs) ≡ parts_in x.1.items x.0.items docs) (λ i. IsSomeAnd (slice_get (changes_of d) i) (λ c. parts_in x.1.items x.0.items (drafted d docs) ≡ left_by c))) (sym (free x)) (ap (parts_in x.1.items x.0.items) same);
    }

module _ (old new : Draft) (docs : List TableRow) (o : IsOver old docs) (follows : Follows new docs) where
  pub over_added : (e : TableRow) → drafted new docs ≡ drafted old docs ++ e ∷ [] → e.place ≡ (last_of old +ℤ pos 1) → last_of new ≡ (last_of old +ℤ pos 1) → None ≡ parts_in e.coll e.idkey (drafted old docs) → IsOver new docs
  over_added e is place last none =
      let below : AreBelow e.place (drafted old docs) = subst (λ q. AreBelow q (drafted old docs)) (sym place) o.low in
      record {
        apart = subst AreApart (sym is) (apart_added (drafted old docs) e o.apart (none_there e.coll e.idkey (drafted old docs) none));
        rising = subst IsRising (sym is) (rising_last e (drafted old docs) o.rising below);
        low = subst (λ q. AreBelow (q +ℤ pos 1) (drafted new docs)) (place ∙ sym last) (subst (AreBelow (e.place +ℤ pos 1)) (sym is) (below_added (last_of old) e.place e.coll e.idkey e.body (drafted old docs) (omega (arith, ints, place)) o.low));
        last = suc o.last;
        counts = omega (arith, ints, last, o.counts);
        follows = follows;
      }

  pub over_rewritten : (p : ℤ) (body : List ℕ) → drafted new docs ≡ with_body_at p body (drafted old docs) → last_of new ≡ last_of old → IsOver new docs
  over_rewritten p body is last = record {
    apart = subst AreApart (sym is) (apart_rewritten p body (drafted old docs) o.apart);
    rising = subst IsRising (sym is) (rising_replaced p body (drafted old docs) o.rising);
    low = subst (λ q. AreBelow (q +ℤ pos 1) (drafted new docs)) (sym last) (subst (AreBelow (last_of old +ℤ pos 1)) (sym is) (below_rewritten (last_of old +ℤ pos 1) p body (drafted old docs) o.low));
    last = o.last;
    counts = last ∙ o.counts;
    follows = follows;
  }

  pub over_without : (p : ℤ) → drafted new docs ≡ without_place p (drafted old docs) → last_of new ≡ last_of old → IsOver new docs
  over_without p is last = record {
    apart = subst AreApart (sym is) (apart_without p (drafted old docs) o.apart);
    rising = subst IsRising (sym is) (rising_without p (drafted old docs) o.rising);
    low = subst (λ q. AreBelow (q +ℤ pos 1) (drafted new docs)) (sym last) (subst (AreBelow (last_of old +ℤ pos 1)) (sym is) (below_without (last_of old +ℤ pos 1) p (drafted old docs) o.low));
    last = o.last;
    counts = last ∙ o.counts;
    follows = follows;
  }
