-- The names of collections, by the index.
use Rattle.std.proofs.Common.{◌≡◌, ℕ, ℤ, Bool, true, false, not, List, [], ◌∷◌, map, ◌++◌, Some, None, Ordering, Less, Equal, Greater, is_lt, is_gt, nat_cmp, refl, sym, ap, ◌∙◌, subst, inl, inr}
use Rattle.std.specs.Ordering.{ordering_then, ordering_reverse}
use Rattle.std.specs.Cmp.Lexicographic.{slice_cmp}
use Rattle.std.proofs.lemmas.Bool.{cases_Bool}
use Rattle.std.proofs.lemmas.Cmp.{nat_list_cmp_total, tied_itself}
use Rattle.sqlite_value.specs.declared.value.Value.{Value}
use Rattle.sqlite_value.specs.declared.value.Value.TheVariants.{Null, Text}
use Rattle.sqlite_value.specs.Order.{Row, value_cmp}
use Rattle.sqlite_value.specs.Keys.{plain, prefix_cmp}
use Rattle.sqlite_value.proofs.OrderLemmas.{value_cmp_total, value_cmp-Text}
use Rattle.sqlite_value.proofs.KeyLemmas.{first_key-plain}
use Rattle.sqlite_record.specs.Record.{decode}
use Rattle.sqlite_trees.proofs.TreeLemmas.{prefix_cmp_follows}
use Rattle.sqlite_btree.specs.Cut.{IsIn, Ascends, from_cut}
use Rattle.sqlite_btree.proofs.CutLemmas.{Each-append, in_left, in_right, in_either}
use Rattle.sqlite_btree.proofs.ViewLemmas.{ascends_records}
use Rattle.sqlite_pages.specs.declared.pages.Pages.{Ghosts}
use Rattle.sqlite_pages.specs.Calls.{IsClean}
use Rattle.sqlite_store.specs.Sides.{up_to_or_above}
use Rattle.sqlite_store.specs.Db.{record_order}
use Rattle.sqlite_store.proofs.OrderLemmas.{less, greater, up_to_is, probe_after_key}
use Rattle.store_table.specs.Documents.{AreDocuments, Doc, entry, entry_of}
use Rattle.store_table.specs.Scans.{IsFirst, FindsFirst}
use Rattle.store_table.specs.PageNames.{AreNames, AreUpTo, IsNext, is_before, is_behind}
use Rattle.store_table.proofs.DocumentLemmas.{in_map, out_of_map, from_subset, in_from, not_below, before_later, same_names, text_same}

then-Equal : (o : Ordering) → ordering_then o Equal ≡ o
then-Equal Less = refl
then-Equal Equal = refl
then-Equal Greater = refl

-- the place behind the entries of a name
abbrev pub past_row : Row → List ℕ → Ordering
past_row mark bytes = up_to_or_above (prefix_cmp plain (decode bytes) mark)

by_name : (c k : List ℕ) (p : ℤ) (last : Value) → prefix_cmp plain (entry c k p) (last ∷ []) ≡ value_cmp (Text c) last
by_name c k p last = ap (λ o. ordering_then o Equal) (rw first_key-plain refl) ∙ then-Equal (value_cmp (Text c) last)

-- an entry is below that place unless its name is behind
side_of : (bytes c k : List ℕ) (p : ℤ) (last : Value) → decode bytes ≡ entry c k p → is_lt (past_row (last ∷ []) bytes) ≡ not (is_behind last c)
side_of bytes c k p last is = up_to_is _ ∙ ap (λ e. not (is_gt (prefix_cmp plain e (last ∷ [])))) is ∙ ap (λ o. not (is_gt o)) (by_name c k p last)

not_true : (b : Bool) → (b ≡ true → ⊥) → b ≡ false
not_true true h = absurd (h refl)
not_true false h = refl

not_itself : (n : List ℕ) → is_before n n ≡ true → ⊥
not_itself n h = let level = ap is_lt (tied_itself nat_list_cmp_total n) in absurd (let no = sym level ∙ h in cc)

turned : (a b : List ℕ) → is_before a b ≡ true → slice_cmp nat_cmp b a ≡ Greater
turned a b h = nat_list_cmp_total.antisymm b a ∙ ap ordering_reverse (less _ h)

before_all : (c : List ℕ) → is_behind Null c ≡ true
unfolding value_cmp
before_all c = refl

module _ (last : Value) (docs : List Doc) (records : List (List ℕ))
    (ascends : Ascends (record_order plain) records)
    (listed : (d : Doc) → IsIn d docs → IsIn (entry_of d) (map decode records))
    (leads : (e : Row) → IsIn e (map decode records) → (d : Doc) × IsIn d docs × (e ≡ entry_of d)) where
  -- a document whose name is behind has a record from the place on
  record_of : (d : Doc) → IsIn d docs → is_behind last d.coll ≡ true → (x : List ℕ) × IsIn x (from_cut (past_row (last ∷ [])) records) × (decode x ≡ entry_of d)
  record_of d there behind =
      let r = out_of_map decode (entry_of d) records (listed d there) in
      let at = side_of r.0 d.coll d.idkey d.place last (sym r.2) ∙ ap not behind in
      (r.0, in_from (past_row (last ∷ [])) records r.0 at r.1, sym r.2)

  pub no_next : from_cut (past_row (last ∷ [])) records ≡ [] → IsNext last docs None
  no_next nothing d there = not_true (is_behind last d.coll) λ behind.
      let r = record_of d there behind in subst (λ l. IsIn r.0 l) nothing r.1

  pub next_is : (first name idkey : List ℕ) (place : ℤ) → IsFirst (from_cut (past_row (last ∷ [])) records) first true → decode first ≡ entry name idkey place → IsNext last docs (Some name)
  next_is first name idkey place is reads =
      let there = from_subset (past_row (last ∷ [])) records first (subst (λ l. IsIn first l) (sym is.1) (inl refl)) in
      let r = leads (decode first) (in_map decode first records there) in
      let same = same_names name idkey r.0.coll r.0.idkey place r.0.place (sym reads ∙ r.2) in
      let low = sym (side_of first name idkey place last reads) ∙ not_below (past_row (last ∷ [])) records first is.0 is.1 in (
        not_false (is_behind last name) low,
        (r.0, r.1, sym same.0),
        λ d inside behind. first_name d inside behind,
      )
    where
      not_false : (b : Bool) → not b ≡ false → b ≡ true
      not_false true h = refl
      not_false false h = absurd (cc)

      first_name : (d : Doc) → IsIn d docs → is_behind last d.coll ≡ true → is_before d.coll name ≡ false
      first_name d inside behind =
          let r = record_of d inside behind in
          let here = subst (λ l. IsIn r.0 l) is.1 r.1 in
          not_true (is_before d.coll name) λ before.
          elim here [
            | inl same ↦ let names = same_names d.coll d.idkey name idkey d.place place (sym r.2 ∙ ap decode same ∙ reads) in not_itself name (subst (λ n. is_before n name ≡ true) names.0 before)
            | inr later ↦
                let order = before_later (past_row (last ∷ [])) (record_order plain) records first r.0 is.0 ascends is.1 later in
                let follows = prefix_cmp_follows plain (Text d.coll ∷ []) (decode first) (decode r.0) (ap is_gt (less _ order)) in
                let above : is_gt (prefix_cmp plain (decode first) (Text d.coll ∷ [])) ≡ true =
                ap (λ e. is_gt (prefix_cmp plain e (Text d.coll ∷ []))) reads ∙ ap is_gt (by_name name idkey place (Text d.coll) ∙ value_cmp-Text name d.coll ∙ turned d.coll name before) in
                let level : is_gt (prefix_cmp plain (decode r.0) (Text d.coll ∷ [])) ≡ false =
                ap (λ e. is_gt (prefix_cmp plain e (Text d.coll ∷ []))) r.2 ∙ ap is_gt (by_name d.coll d.idkey d.place (Text d.coll) ∙ tied_itself value_cmp_total (Text d.coll)) in
                let no = sym level ∙ follows.1 above in absurd (cc)
          ]

-- ---- the names up to one

pub at_first : (docs : List Doc) → AreUpTo Null [] docs
at_first docs = record { rising = tt; met = λ name h. absurd h; below = λ name h. absurd h; all = λ d there h. absurd (let no = sym (before_all d.coll) ∙ h in cc) }

lower : (x n : List ℕ) (last : Value) (o : Ordering) → value_cmp (Text x) last ≡ o → is_gt o ≡ false → is_gt (value_cmp (Text n) last) ≡ true → value_cmp (Text x) (Text n) ≡ Less
lower x n last Less e p h = value_cmp_total.trans (Text x) last (Text n) e (value_cmp_total.antisymm last (Text n) ∙ ap ordering_reverse (greater _ h))
lower x n last Equal e p h = value_cmp_total.congr (Text x) last (Text n) e ∙ value_cmp_total.antisymm last (Text n) ∙ ap ordering_reverse (greater _ h)
lower x n last Greater e p h = absurd (cc)

ascends_more : {X : Type 0} (order : X → X → Bool) (xs : List X) (n : X) → Ascends order xs → ((x : X) → IsIn x xs → order x n ≡ true) → Ascends order (xs ++ n ∷ [])
ascends_more order [] n up low = (tt, tt)
ascends_more order (x ∷ xs) n up low = (Each-append (λ y. order x y ≡ true) xs (n ∷ []) up.0 (low x (inl refl), tt), ascends_more order xs n up.1 (λ y there. low y (inr there)))

neither : (o : Ordering) → is_lt o ≡ false → is_gt o ≡ false → o ≡ Equal
neither Less l h = absurd (cc)
neither Equal l h = refl
neither Greater l h = absurd (cc)

pub goes_on : (last : Value) (names : List (List ℕ)) (docs : List Doc) (name : List ℕ) → AreUpTo last names docs → IsNext last docs (Some name) → AreUpTo (Text name) (names ++ name ∷ []) docs
goes_on last names docs name was next =
    let low = λ (x : List ℕ) (there : IsIn x names). lower x name last _ refl (was.below x there) next.0 in
    record {
      rising = ascends_more is_before names name was.rising (λ x there. ap is_lt (sym (value_cmp-Text x name) ∙ low x there));
      met = λ x there. elim (in_either x names (name ∷ []) there) [ inl old ↦ was.met x old | inr new ↦ elim new [ inl same ↦ (next.1.0, next.1.1, next.1.2 ∙ sym same) | inr none ↦ absurd none ] ];
      below = λ x there. elim (in_either x names (name ∷ []) there) [
        | inl old ↦ ap is_gt (low x old)
        | inr new ↦ elim new [ inl same ↦ ap (λ n. is_gt (value_cmp (Text n) (Text name))) same ∙ ap is_gt (tied_itself value_cmp_total (Text name)) | inr none ↦ absurd none ]
      ];
      all = λ d there h. elim (cases_Bool (is_behind last d.coll)) [
        | inl behind ↦
            let not_less : is_lt (value_cmp (Text d.coll) (Text name)) ≡ false = ap is_lt (value_cmp-Text d.coll name) ∙ next.2 d there behind in
            in_right d.coll names (name ∷ []) (inl (text_same d.coll name (neither _ not_less h)))
        | inr within ↦ in_left d.coll names (name ∷ []) (was.all d there within)
      ];
    }

pub ends : (last : Value) (names : List (List ℕ)) (docs : List Doc) → AreUpTo last names docs → IsNext last docs None → AreNames names docs
ends last names docs was none = record { rising = was.rising; met = was.met; all = λ d there. was.all d there (none d there) }

-- ---- what a look-up gives

module _ {P : Type 0} (g : Ghosts P) (early late : P) (mark : Row) (last : Value) (table index : ℕ) (docs : List Doc)
    (is : mark ≡ last ∷ []) (clean : IsClean g late) (are : AreDocuments (g.size early) (g.pages early) table index docs) where
  first_at : (found : List ℕ) (some wanted : Bool) → some ≡ wanted → FindsFirst g early late (past_row mark) index found some → IsFirst (from_cut (past_row (last ∷ [])) are.records) found wanted
  first_at found some wanted same finds =
      let first = finds clean are.index_layout are.records (probe_after_key plain mark) are.index_laid are.indexed in
      subst (λ m. IsFirst (from_cut (past_row m) are.records) found wanted) is (subst (IsFirst (from_cut (past_row mark) are.records) found) same first)

  pub finds_no_name : (found : List ℕ) (some : Bool) → some ≡ false → FindsFirst g early late (past_row mark) index found some → IsNext last docs None
  finds_no_name found some is_no finds = no_next last docs are.records (ascends_records are.indexed) are.listed are.leads (first_at found some false is_no finds)

  pub finds_name : (found name idkey : List ℕ) (place : ℤ) (some : Bool) → some ≡ true → FindsFirst g early late (past_row mark) index found some → decode found ≡ entry name idkey place → IsNext last docs (Some name)
  finds_name found name idkey place some is_yes finds reads =
      next_is last docs are.records (ascends_records are.indexed) are.listed are.leads found name idkey place (first_at found some true is_yes finds) reads
