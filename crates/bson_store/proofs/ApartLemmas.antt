-- Rows that are apart stay so.
use Rattle.std.proofs.Common.{◌≡◌, ◌<ℤ◌, ◌++◌, ◌∷◌, [], ℕ, ℤ, List, Bool, true, false, not, ◌&&◌, cond, Option, None, Some, option_map, find, refl, sym, ap, ap₂, subst, ◌∙◌, arith}
use Rattle.std.proofs.lemmas.Int.{ints}
use Rattle.std.specs.List.{AllByRecursion}
use Rattle.std.proofs.lemmas.Cmp.{nat_list_eq_equiv}
use Rattle.store_table.specs.Moves.{parts_of_row}
use Rattle.store_table.specs.Rows.{TableRow, IsRising, is_at, is_row_named, with_body_at, without_place}
use Rattle.bson_store.specs.Draft.{AreApart, parts_in}
use Rattle.bson_store.proofs.DraftLemmas.{named_is, none_in}

pub none_there : (n k : List ℕ) (docs : List TableRow) → None ≡ parts_in n k docs → find (is_row_named n k) docs ≡ None
none_there n k docs h = by (find (is_row_named n k) docs) h
  where
    by : (o : Option TableRow) → None ≡ option_map parts_of_row o → o ≡ None
    by None e = refl
    by (Some d) e = cc

-- ---- a row more

other_way : (d e : TableRow) → is_row_named d.coll d.idkey e ≡ is_row_named e.coll e.idkey d
other_way d e = ap₂ (λ p q. p && q) (nat_list_eq_equiv.symm e.coll d.coll) (nat_list_eq_equiv.symm e.idkey d.idkey)

none_more : (test : TableRow → Bool) (docs : List TableRow) (e : TableRow) → find test docs ≡ None → test e ≡ false → find test (docs ++ e ∷ []) ≡ None
none_more test [] e none off = rw off refl
none_more test (d ∷ docs) e none off = by (test d) none (none_more test docs e)
  where
    by : (b : Bool) → cond b (Some d) (find test docs) ≡ None → (find test docs ≡ None → test e ≡ false → find test (docs ++ e ∷ []) ≡ None) → cond b (Some d) (find test (docs ++ e ∷ [])) ≡ None
    by true h more = cc
    by false h more = more h off

pub apart_added : (docs : List TableRow) (e : TableRow) → AreApart docs → find (is_row_named e.coll e.idkey) docs ≡ None → AreApart (docs ++ e ∷ [])
apart_added [] e apart free = (refl, tt)
apart_added (d ∷ docs) e apart free = by (is_row_named e.coll e.idkey d) refl free (apart_added docs e apart.1)
  where
    by : (b : Bool) → is_row_named e.coll e.idkey d ≡ b → cond b (Some d) (find (is_row_named e.coll e.idkey) docs) ≡ None → (find (is_row_named e.coll e.idkey) docs ≡ None → AreApart (docs ++ e ∷ [])) → AreApart (d ∷ docs ++ e ∷ [])
    by true is h more = cc
    by false is h more = (none_more (is_row_named d.coll d.idkey) docs e apart.0 (other_way d e ∙ is), more h)

-- ---- another body

named_still : (n k : List ℕ) (p : ℤ) (body : List ℕ) (docs : List TableRow) → find (is_row_named n k) docs ≡ None → find (is_row_named n k) (with_body_at p body docs) ≡ None
named_still n k p body [] h = refl
named_still n k p body (d ∷ docs) h = by (is_at p d) (is_row_named n k d) refl h (named_still n k p body docs)
  where
    by : (t b : Bool) → is_row_named n k d ≡ b → cond b (Some d) (find (is_row_named n k) docs) ≡ None → (find (is_row_named n k) docs ≡ None → find (is_row_named n k) (with_body_at p body docs) ≡ None)
        → find (is_row_named n k) (cond t (record d { body = body }) d ∷ with_body_at p body docs) ≡ None
    by t true is h more = cc
    by true false is h more = rw is (more h)
    by false false is h more = rw is (more h)

pub apart_rewritten : (p : ℤ) (body : List ℕ) (docs : List TableRow) → AreApart docs → AreApart (with_body_at p body docs)
apart_rewritten p body [] apart = tt
apart_rewritten p body (d ∷ docs) apart = by (is_at p d) (apart_rewritten p body docs apart.1)
  where
    by : (t : Bool) → AreApart (with_body_at p body docs) → AreApart (cond t (record d { body = body }) d ∷ with_body_at p body docs)
    by true rest = (named_still d.coll d.idkey p body docs apart.0, rest)
    by false rest = (named_still d.coll d.idkey p body docs apart.0, rest)

-- ---- a row less

pub apart_without : (p : ℤ) (docs : List TableRow) → AreApart docs → AreApart (without_place p docs)
apart_without p [] apart = tt
apart_without p (d ∷ docs) apart = by (is_at p d) (apart_without p docs apart.1)
  where
    by : (t : Bool) → AreApart (without_place p docs) → AreApart (cond (not t) (d ∷ without_place p docs) (without_place p docs))
    by true rest = rest
    by false rest = (none_in d.coll d.idkey p docs apart.0, rest)

-- ---- rows at one place

above : (test : TableRow → Bool) (p : ℤ) (docs : List TableRow) (e : TableRow) → AllByRecursion (λ d. p <ℤ d.place) docs → find test docs ≡ Some e → p <ℤ e.place
above test p [] e high is = absurd (cc)
above test p (d ∷ docs) e high is = by (test d) is (above test p docs e high.1)
  where
    by : (b : Bool) → cond b (Some d) (find test docs) ≡ Some e → (find test docs ≡ Some e → p <ℤ e.place) → p <ℤ e.place
    by true h more = let same : d ≡ e = cc in subst (λ (x : TableRow). p <ℤ x.place) same high.0
    by false h more = more h

-- rows in order of place have one at each place at most
one_at : (n k m l : List ℕ) (docs : List TableRow) (d e : TableRow) → IsRising docs → find (is_row_named n k) docs ≡ Some d → find (is_row_named m l) docs ≡ Some e → d.place ≡ e.place → (m ≡ n) × (l ≡ k)
one_at n k m l [] d e up f g same = absurd (cc)
one_at n k m l (x ∷ docs) d e up f g same = by (is_row_named n k x) (is_row_named m l x) refl refl f g (one_at n k m l docs d e up.1)
  where
    by : (a b : Bool) → is_row_named n k x ≡ a → is_row_named m l x ≡ b → cond a (Some x) (find (is_row_named n k) docs) ≡ Some d → cond b (Some x) (find (is_row_named m l) docs) ≡ Some e
        → (find (is_row_named n k) docs ≡ Some d → find (is_row_named m l) docs ≡ Some e → d.place ≡ e.place → (m ≡ n) × (l ≡ k)) → (m ≡ n) × (l ≡ k)
    by true true p q f g more = let a = named_is n k x p in let b = named_is m l x q in (sym b.0 ∙ a.0, sym b.1 ∙ a.1)
    by true false p q f g more =
        let is : x ≡ d = cc in
        let high = above (is_row_named m l) x.place docs e up.0 g in
        let at : x.place ≡ d.place = ap (λ (r : TableRow). r.place) is in
        absurd (omega (arith, ints, high, at, same))
    by false true p q f g more =
        let is : x ≡ e = cc in
        let high = above (is_row_named n k) x.place docs d up.0 f in
        let at : x.place ≡ e.place = ap (λ (r : TableRow). r.place) is in
        absurd (omega (arith, ints, high, at, same))
    by false false p q f g more = more f g same

-- what is found under another name is at another place
pub elsewhere : (n k m l : List ℕ) (docs : List TableRow) (x y : ℤ × List ℕ) → IsRising docs → Some x ≡ parts_in n k docs → parts_in m l docs ≡ Some y → ((m ≡ n) × (l ≡ k) → ⊥) → y.0 ≡ x.0 → ⊥
elsewhere n k m l docs x y up f g other same = by (find (is_row_named n k) docs) (find (is_row_named m l) docs) refl refl f g
  where
    by : (o q : Option TableRow) → find (is_row_named n k) docs ≡ o → find (is_row_named m l) docs ≡ q → Some x ≡ option_map parts_of_row o → option_map parts_of_row q ≡ Some y → ⊥
    by None q e h f g = absurd (cc)
    by (Some d) None e h f g = absurd (cc)
    by (Some d) (Some r) e h f g =
        let xs : x ≡ parts_of_row d = cc in
        let ys : parts_of_row r ≡ y = cc in
        other (one_at n k m l docs d r up e h (sym (ap (λ (p : ℤ × List ℕ). p.0) xs) ∙ sym same ∙ sym (ap (λ (p : ℤ × List ℕ). p.0) ys)))
