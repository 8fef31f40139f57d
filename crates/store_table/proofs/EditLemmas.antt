-- Edits of the rows of documents, and of their entries.
use Rattle.std.proofs.Common.{◌≡◌, ◌⊎◌, inl, inr, ℕ, ℤ, ◌<ℤ◌, true, false, Bool, cond, not, List, [], ◌∷◌, ◌++◌, map, find, None, refl, sym, ap, ap₂, subst, ◌∙◌, arith, true≢false, Ordering, Less, Equal, Greater}
use Rattle.std.proofs.lemmas.Bool.{cases_Bool, cond-true, cond-false, and_from}
use Rattle.std.proofs.lemmas.Int.{ints}
use Rattle.std.proofs.lemmas.Bool.Decides.{nat_tests}
use Rattle.std.proofs.lemmas.Cmp.{tied_itself}
use Rattle.std.proofs.lemmas.Slice.Eq.{bytes_eq-Decides}
use Rattle.std.specs.Ordering.{is_eq, ordering_then, match_ordering}
use Rattle.std.specs.List.{AllByRecursion}
use Rattle.std.specs.List.Sorted.{IsPermutation}
use Rattle.std.proofs.lemmas.List.Sorted.{IsPermutation-refl, IsPermutation-trans, IsPermutation-cons, IsPermutation-middle, IsPermutation-to_front, IsPermutation-sym}
use Rattle.sqlite_value.specs.declared.value.Value.TheVariants.{Int, Text, Blob}
use Rattle.sqlite_value.specs.Order.{Row, value_cmp}
use Rattle.sqlite_value.specs.Keys.{plain, entry_cmp}
use Rattle.sqlite_value.proofs.KeyLemmas.{first_key-plain, entry_cmp_total}
use Rattle.sqlite_value.proofs.OrderLemmas.{value_cmp-Int}
use Rattle.sqlite_trees.specs.Tree.{put_row, insert_entry, remove_entry}
use Rattle.sqlite_trees.proofs.ListLemmas.{IsPermutation-filter}
use Rattle.sqlite_btree.specs.Cut.{IsIn}
use Rattle.store_table.specs.Rows.{TableRow, columns_of, IsRising, AreBelow, is_at, is_row_named, without_place, with_body, with_body_at}
use Rattle.store_table.proofs.PlaceLemmas.{below_is, not_at_below, at_same, past, all_past, none_changed}
use Rattle.store_table.proofs.PermLemmas.{all_moved}
use Rattle.store_table.proofs.PageTreeLemmas.{one_place}
use Rattle.store_table.proofs.StoreLemmas.{entries_of}

-- the entry of a document
abbrev pub entry_for : TableRow → Row
entry_for d = Text d.coll ∷ Blob d.idkey ∷ Int d.place ∷ []

far : (P : TableRow → Type 0) (ds : List TableRow) (d : TableRow) → AllByRecursion P ds → IsIn d ds → P d
far P [] d all h = absurd h
far P (x ∷ ds) d all h = elim h [ inl same ↦ subst P (sym same) all.0 | inr there ↦ far P ds d all.1 there ]

-- ---- one more row

pub map_last : {X : Type 0} (f : TableRow → X) (d : TableRow) (docs : List TableRow) → map f (docs ++ d ∷ []) ≡ map f docs ++ f d ∷ []
map_last f d [] = refl
map_last f d (x ∷ docs) = ap (λ rows. f x ∷ rows) (map_last f d docs)

pub put_last : (d : TableRow) (docs : List TableRow) → AreBelow d.place docs → put_row (columns_of d) (map columns_of docs) ≡ map columns_of (docs ++ d ∷ [])
put_last d [] h = refl
put_last d (x ∷ docs) h = rw (below_is x.place d.place h.0) (ap (λ rows. columns_of x ∷ rows) (put_last d docs h.1))

then_both : (o p : Ordering) → ordering_then o p ≡ Equal → (o ≡ Equal) × (p ≡ Equal)
then_both Less p h = absurd (cc)
then_both Equal p h = (refl, h)
then_both Greater p h = absurd (cc)

entry_is : (x d : TableRow) → entry_cmp plain (entry_for x) (entry_for d)
    ≡ ordering_then (value_cmp (Text x.coll) (Text d.coll)) (ordering_then (value_cmp (Blob x.idkey) (Blob d.idkey)) (ordering_then (value_cmp (Int x.place) (Int d.place)) Equal))
entry_is x d = rw first_key-plain refl

int_same : (p q : ℤ) → value_cmp (Int p) (Int q) ≡ Equal → p ≡ q
int_same p q h = let tie = sym (value_cmp-Int p q) ∙ h in grind (arith, ints, nat_tests)

-- an entry tells its document's place
pub entry_tied : (x d : TableRow) → entry_cmp plain (entry_for x) (entry_for d) ≡ Equal → x.place ≡ d.place
entry_tied x d h = int_same x.place d.place (then_both _ _ (then_both _ _ (then_both _ _ (sym (entry_is x d) ∙ h)).1).1).0

none_tied : (d : TableRow) (docs : List TableRow) → AreBelow d.place docs → AllByRecursion (λ e. entry_cmp plain e (entry_for d) ≡ Equal → ⊥) (entries_of docs)
none_tied d [] h = tt
none_tied d (x ∷ docs) h = ((λ tie. let same = entry_tied x d tie in let low : x.place <ℤ d.place = h.0 in grind (arith, ints)), none_tied d docs h.1)

insert_perm : (e : Row) (es : List Row) → AllByRecursion (λ x. entry_cmp plain x e ≡ Equal → ⊥) es → IsPermutation (e ∷ es) (insert_entry plain e es)
insert_perm e [] h = IsPermutation-refl (e ∷ [])
insert_perm e (x ∷ es) h = go (entry_cmp plain x e) h.0 (insert_perm e es h.1)
  where
    go : (o : Ordering) → (o ≡ Equal → ⊥) → IsPermutation (e ∷ es) (insert_entry plain e es) → IsPermutation (e ∷ x ∷ es) (match_ordering o (x ∷ insert_entry plain e es) (x ∷ es) (e ∷ x ∷ es))
    go Less k p = IsPermutation-trans (e ∷ x ∷ es) (x ∷ e ∷ es) (x ∷ insert_entry plain e es) (IsPermutation-sym (x ∷ e ∷ es) (e ∷ x ∷ es) (IsPermutation-middle (x ∷ []) e es)) (IsPermutation-cons x (e ∷ es) (insert_entry plain e es) p)
    go Equal k p = absurd (k refl)
    go Greater k p = IsPermutation-refl (e ∷ x ∷ es)

entries_last : (d : TableRow) (docs : List TableRow) → entries_of (docs ++ d ∷ []) ≡ entries_of docs ++ entry_for d ∷ []
entries_last d [] = refl
entries_last d (x ∷ docs) = ap (λ rows. entry_for x ∷ rows) (entries_last d docs)

pub entry_added : (d : TableRow) (docs : List TableRow) (es : List Row) → AreBelow d.place docs → IsPermutation (entries_of docs) es → IsPermutation (entries_of (docs ++ d ∷ [])) (insert_entry plain (entry_for d) es)
entry_added d docs es below perm =
    let e = entry_for d in
    let fresh = all_moved (λ x. entry_cmp plain x e ≡ Equal → ⊥) (entries_of docs) es perm (none_tied d docs below) in
    subst (λ l. IsPermutation l (insert_entry plain e es)) (sym (entries_last d docs))
    (IsPermutation-trans (entries_of docs ++ e ∷ []) (e ∷ entries_of docs) (insert_entry plain e es) (IsPermutation-to_front (entries_of docs) e)
    (IsPermutation-trans (e ∷ entries_of docs) (e ∷ es) (insert_entry plain e es) (IsPermutation-cons e (entries_of docs) es perm) (insert_perm e es fresh)))

pub none_found : (coll idkey : List ℕ) (docs : List TableRow) (e : TableRow) → find (is_row_named coll idkey) docs ≡ None → IsIn e docs → e.coll ≡ coll → e.idkey ≡ idkey → ⊥
none_found coll idkey [] e none there c k = there
none_found coll idkey (x ∷ docs) e none there c k = elim (cases_Bool (is_row_named coll idkey x)) [
  | inl met ↦ let some = sym (cond-true _ _ _ met) ∙ none in cc
  | inr missed ↦ elim there [
    | inl same ↦
        let named : is_row_named coll idkey x ≡ true = and_from _ _ ((bytes_eq-Decides x.coll coll).1 (ap (λ (z : TableRow). z.coll) (sym same) ∙ c)) ((bytes_eq-Decides x.idkey idkey).1 (ap (λ (z : TableRow). z.idkey) (sym same) ∙ k)) in
        true≢false (sym named ∙ missed)
    | inr later ↦ none_found coll idkey docs e (sym (cond-false _ _ _ missed) ∙ none) later c k
  ]
]

pub in_last : (d e : TableRow) (docs : List TableRow) → IsIn e (docs ++ d ∷ []) → IsIn e docs ⊎ (e ≡ d)
in_last d e [] h = elim h [ inl same ↦ inr same | inr none ↦ absurd none ]
in_last d e (x ∷ docs) h = elim h [ inl same ↦ inl (inl same) | inr there ↦ elim (in_last d e docs there) [ inl old ↦ inl (inr old) | inr new ↦ inr new ] ]

-- ---- another body

pub put_over : (body : List ℕ) (d : TableRow) (docs : List TableRow) → IsRising docs → IsIn d docs → put_row (columns_of (record d { body = body })) (map columns_of docs) ≡ map columns_of (with_body_at d.place body docs)
put_over body d [] up h = absurd h
put_over body d (x ∷ docs) up (inl same) =
    let at : x.place ≡ d.place = ap (λ (z : TableRow). z.place) (sym same) in
    let tie : value_cmp (Int x.place) (Int d.place) ≡ Equal = rw (at, value_cmp-Int d.place d.place) (grind (arith, ints, nat_tests)) in
    let rest : with_body_at d.place body docs ≡ docs = none_changed d.place (λ z. record z { body = body }) docs (past d.place docs (all_past d.place x docs at up.0)).0 in
    let here : with_body d.place body x ≡ record d { body = body } = cond-true _ _ _ (at_same d.place x at) ∙ ap (λ (z : TableRow). record z { body = body }) (sym same) in
    rw (tie, here, rest) refl
put_over body d (x ∷ docs) up (inr there) =
    let low : x.place <ℤ d.place = far (λ b. x.place <ℤ b.place) docs d up.0 there in
    let here : with_body d.place body x ≡ x = cond-false _ _ _ (not_at_below d.place x low) in
    rw (below_is x.place d.place low, here) (ap (λ rows. columns_of x ∷ rows) (put_over body d docs up.1 there))

entry_kept : (p : ℤ) (body : List ℕ) (x : TableRow) → entry_for (with_body p body x) ≡ entry_for x
entry_kept p body x = elim (cases_Bool (is_at p x)) [ inl at ↦ ap entry_for (cond-true _ _ _ at) | inr away ↦ ap entry_for (cond-false _ _ _ away) ]

pub entries_kept : (p : ℤ) (body : List ℕ) (docs : List TableRow) → entries_of (with_body_at p body docs) ≡ entries_of docs
entries_kept p body [] = refl
entries_kept p body (x ∷ docs) = ap₂ (λ e es. e ∷ es) (entry_kept p body x) (entries_kept p body docs)

-- the name and the place stay
pub names_kept : (p : ℤ) (body : List ℕ) (x : TableRow) → ((with_body p body x).coll ≡ x.coll) × ((with_body p body x).idkey ≡ x.idkey) × ((with_body p body x).place ≡ x.place)
names_kept p body x = elim (cases_Bool (is_at p x)) [
  | inl at ↦ let is = cond-true _ (record x { body = body }) x at in (ap (λ (z : TableRow). z.coll) is, ap (λ (z : TableRow). z.idkey) is, ap (λ (z : TableRow). z.place) is)
  | inr away ↦ let is = cond-false _ (record x { body = body }) x away in (ap (λ (z : TableRow). z.coll) is, ap (λ (z : TableRow). z.idkey) is, ap (λ (z : TableRow). z.place) is)
]

-- ---- one row less

pub in_without : (p : ℤ) (e : TableRow) (docs : List TableRow) → IsIn e (without_place p docs) → IsIn e docs
in_without p e [] h = h
in_without p e (x ∷ docs) h = elim (cases_Bool (is_at p x)) [
  | inl at ↦ inr (in_without p e docs (subst (λ l. IsIn e l) (cond-false _ _ _ (ap not at)) h))
  | inr away ↦ elim (subst (λ l. IsIn e l) (cond-true _ _ _ (ap not away)) h) [ inl same ↦ inl same | inr there ↦ inr (in_without p e docs there) ]
]

at_is : (p : ℤ) (x : TableRow) → is_at p x ≡ true → x.place ≡ p
at_is p x h = grind (arith, ints, nat_tests)

same_test : (d x : TableRow) (docs : List TableRow) → IsRising docs → IsIn d docs → IsIn x docs → not (is_eq (entry_cmp plain (entry_for x) (entry_for d))) ≡ not (is_at d.place x)
same_test d x docs up has there = elim (cases_Bool (is_at d.place x)) [
  | inl at ↦
      let same : d ≡ x = one_place docs x d up there has (at_is d.place x at) in
      let tie : entry_cmp plain (entry_for x) (entry_for d) ≡ Equal = ap (λ (z : TableRow). entry_cmp plain (entry_for x) (entry_for z)) same ∙ tied_itself (entry_cmp_total plain) (entry_for x) in
      rw (tie, at) refl
  | inr away ↦ rw away (go (entry_cmp plain (entry_for x) (entry_for d)) refl away)
]
  where
    go : (o : Ordering) → entry_cmp plain (entry_for x) (entry_for d) ≡ o → is_at d.place x ≡ false → not (is_eq o) ≡ true
    go Less e away = refl
    go Equal e away = absurd (true≢false (sym (at_same d.place x (entry_tied x d e)) ∙ away))
    go Greater e away = refl

filtered : (d : TableRow) (all docs : List TableRow) → IsRising all → IsIn d all → ((x : TableRow) → IsIn x docs → IsIn x all) → remove_entry plain (entry_for d) (entries_of docs) ≡ entries_of (without_place d.place docs)
filtered d all [] up has within = refl
filtered d all (x ∷ docs) up has within =
    let test = same_test d x all up has (within x (inl refl)) in
    let rest = filtered d all docs up has (λ y there. within y (inr there)) in
    rw test (go (not (is_at d.place x)) refl rest)
  where
    go : (b : Bool) → not (is_at d.place x) ≡ b → remove_entry plain (entry_for d) (entries_of docs) ≡ entries_of (without_place d.place docs)
        → cond b (entry_for x ∷ remove_entry plain (entry_for d) (entries_of docs)) (remove_entry plain (entry_for d) (entries_of docs)) ≡ entries_of (cond b (x ∷ without_place d.place docs) (without_place d.place docs))
    go true e rest = ap (λ es. entry_for x ∷ es) rest
    go false e rest = rest

pub entry_removed : (d : TableRow) (docs : List TableRow) (es : List Row) → IsRising docs → IsIn d docs → IsPermutation (entries_of docs) es → IsPermutation (entries_of (without_place d.place docs)) (remove_entry plain (entry_for d) es)
entry_removed d docs es up has perm =
    subst (λ l. IsPermutation l (remove_entry plain (entry_for d) es)) (filtered d docs docs up has (λ x there. there))
    (IsPermutation-filter (λ e. not (is_eq (entry_cmp plain e (entry_for d)))) (entries_of docs) es perm)
