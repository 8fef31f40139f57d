-- What a table and its index say of documents.
use Rattle.std.proofs.Common.{◌≡◌, ℕ, ℤ, pos, Bool, true, false, List, [], ◌∷◌, map, ◌++◌, find, Some, None, option_map, bytes_eq, Ordering, Less, Equal, Greater, is_lt, is_eq, is_gt, get_or, refl, sym, ap, ◌∙◌, subst, inl, inr}
use Rattle.std.specs.Ordering.{ordering_then}
use Rattle.std.proofs.lemmas.Bool.{cases_Bool, cond-true, cond-false, and_from, and_parts}
use Rattle.std.proofs.lemmas.Cmp.{tied_itself}
use Rattle.std.proofs.lemmas.Slice.Eq.{bytes_eq-Decides}
use Rattle.std.proofs.lemmas.Map.Text.{is_eq-slice_cmp}
use Rattle.sqlite_value.specs.declared.value.Value.TheVariants.{Text, Blob}
use Rattle.sqlite_value.specs.Order.{Row, column, bytes, value_cmp}
use Rattle.sqlite_value.specs.Keys.{plain, prefix_cmp}
use Rattle.sqlite_value.proofs.OrderLemmas.{value_cmp_total, value_cmp-Text, value_cmp-Blob}
use Rattle.sqlite_value.proofs.KeyLemmas.{first_key-plain}
use Rattle.sqlite_record.specs.Record.{decode}
use Rattle.sqlite_trees.proofs.TreeLemmas.{prefix_cmp_follows}
use Rattle.sqlite_btree.specs.Cut.{IsIn, Ascends, from_cut}
use Rattle.sqlite_store.specs.Sides.{below_or_above, int_or}
use Rattle.sqlite_store.specs.Db.{record_order}
use Rattle.sqlite_store.proofs.OrderLemmas.{less, probe_before_key}
use Rattle.sqlite_pages.specs.PageMap.{PageMap}
use Rattle.sqlite_pages.specs.declared.pages.Pages.{Ghosts}
use Rattle.sqlite_pages.specs.Calls.{IsClean}
use Rattle.sqlite_btree.specs.declared.batch.Batch.{Batch}
use Rattle.sqlite_btree.specs.Chain.{Layout}
use Rattle.sqlite_btree.specs.Batch.{left_in, taken, IsFilled, IsFound, TookFirst}
use Rattle.sqlite_btree.specs.Stored.{as_record, by_rowid}
use Rattle.sqlite_btree.proofs.CutLemmas.{Each-in}
use Rattle.sqlite_btree.proofs.ViewLemmas.{ascends_records}
use Rattle.store_table.specs.Documents.{AreDocuments, Doc, entry, entry_of, columns, placed, read_row, is_named, named_in}
use Rattle.store_table.specs.Scans.{IsFirst, FindsFirst}

-- ---- lists

pub in_map : {X Y : Type 0} (f : X → Y) (x : X) (xs : List X) → IsIn x xs → IsIn (f x) (map f xs)
in_map f x [] h = h
in_map f x (y ∷ xs) h = elim h [ inl same ↦ inl (ap f same) | inr there ↦ inr (in_map f x xs there) ]

pub out_of_map : {X Y : Type 0} (f : X → Y) (y : Y) (xs : List X) → IsIn y (map f xs) → (x : X) × IsIn x xs × (y ≡ f x)
out_of_map f y [] h = absurd h
out_of_map f y (x ∷ xs) h = elim h [ inl same ↦ (x, inl refl, same) | inr there ↦ let r = out_of_map f y xs there in (r.0, inr r.1, r.2) ]

find_one : (p : Doc → Bool) (d : Doc) (xs : List Doc) → ((e : Doc) → IsIn e xs → p e ≡ true → e ≡ d) → p d ≡ true → IsIn d xs → find p xs ≡ Some d
find_one p d [] only is h = absurd h
find_one p d (x ∷ xs) only is h =
    elim (cases_Bool (p x)) [
      | inl t ↦ cond-true _ _ _ t ∙ ap Some (only x (inl refl) t)
      | inr f ↦ cond-false _ _ _ f ∙ find_one p d xs (λ e there. only e (inr there)) is
          (elim h [ inl same ↦ absurd (let no = sym (ap p same) ∙ is in cc) | inr there ↦ there ])
    ]

find_no : (p : Doc → Bool) (xs : List Doc) → ((e : Doc) → IsIn e xs → p e ≡ true → ⊥) → find p xs ≡ None
find_no p [] none = refl
find_no p (x ∷ xs) none =
    elim (cases_Bool (p x)) [
      | inl t ↦ absurd (none x (inl refl) t)
      | inr f ↦ cond-false _ _ _ f ∙ find_no p xs (λ e there. none e (inr there))
    ]

-- ---- from a place on

module _ {X : Type 0} (side : X → Ordering) where
  pub from_subset : (xs : List X) (x : X) → IsIn x (from_cut side xs) → IsIn x xs
  from_subset [] x h = h
  from_subset (y ∷ ys) x h =
      elim (cases_Bool (is_lt (side y))) [
        | inl lt ↦ inr (from_subset ys x (subst (λ l. IsIn x l) (cond-true _ _ _ lt) h))
        | inr ge ↦ subst (λ l. IsIn x l) (cond-false _ _ _ ge) h
      ]

  pub in_from : (xs : List X) (x : X) → is_lt (side x) ≡ false → IsIn x xs → IsIn x (from_cut side xs)
  in_from [] x ge h = h
  in_from (y ∷ ys) x ge h =
      elim (cases_Bool (is_lt (side y))) [
        | inl lt ↦ subst (λ l. IsIn x l) (sym (cond-true _ _ _ lt))
            (elim h [ inl same ↦ absurd (let no = sym ge ∙ ap (λ z. is_lt (side z)) same ∙ lt in cc) | inr there ↦ in_from ys x ge there ])
        | inr not ↦ subst (λ l. IsIn x l) (sym (cond-false _ _ _ not)) h
      ]

  pub not_below : (xs : List X) (f : X) (rest : List X) → from_cut side xs ≡ f ∷ rest → is_lt (side f) ≡ false
  not_below [] f rest h = absurd (cc)
  not_below (y ∷ ys) f rest h =
      elim (cases_Bool (is_lt (side y))) [
        | inl lt ↦ not_below ys f rest (sym (cond-true _ _ _ lt) ∙ h)
        | inr ge ↦ ap (λ z. is_lt (side z)) (sym (ap (λ l. get_or l 0 f) (sym (cond-false _ _ _ ge) ∙ h))) ∙ ge
      ]

  pub ascends_from : (order : X → X → Bool) (xs : List X) → Ascends order xs → Ascends order (from_cut side xs)
  ascends_from order [] a = a
  ascends_from order (y ∷ ys) a =
      elim (cases_Bool (is_lt (side y))) [
        | inl lt ↦ subst (Ascends order) (sym (cond-true _ _ _ lt)) (ascends_from order ys a.1)
        | inr ge ↦ subst (Ascends order) (sym (cond-false _ _ _ ge)) a
      ]

  pub before_later : (order : X → X → Bool) (xs : List X) (f x : X) (rest : List X) → Ascends order xs → from_cut side xs ≡ f ∷ rest → IsIn x rest → order f x ≡ true
  before_later order xs f x rest a is h = Each-in (λ z. order f z ≡ true) rest x (subst (Ascends order) is (ascends_from order xs a)).0 h

-- ---- names

pub named_true : (c k : List ℕ) (d : Doc) → d.coll ≡ c → d.idkey ≡ k → is_named c k d ≡ true
named_true c k d p q = and_from _ _ ((bytes_eq-Decides d.coll c).1 p) ((bytes_eq-Decides d.idkey k).1 q)

named_parts : (c k : List ℕ) (d : Doc) → is_named c k d ≡ true → (d.coll ≡ c) × (d.idkey ≡ k)
named_parts c k d h =
    let parts = and_parts (bytes_eq d.coll c) (bytes_eq d.idkey k) h in
    ((bytes_eq-Decides d.coll c).0 parts.0, (bytes_eq-Decides d.idkey k).0 parts.1)

pub same_names : (c k c' k' : List ℕ) (p p' : ℤ) → entry c k p ≡ entry c' k' p' → (c ≡ c') × (k ≡ k') × (p ≡ p')
same_names c k c' k' p p' h =
    (ap (λ r. bytes (column r 0)) h, ap (λ r. bytes (column r 1)) h, ap (λ r. int_or (column r 2) (pos 0)) h)

pub same_columns : (c k b c' k' b' : List ℕ) (p p' : ℤ) → (let x : ℤ × Row = (p, columns c k b) in x) ≡ (p', columns c' k' b') → (c ≡ c') × (k ≡ k') × (b ≡ b')
same_columns c k b c' k' b' p p' h =
    (ap (λ r. bytes (column r.1 1)) h, ap (λ r. bytes (column r.1 2)) h, ap (λ r. bytes (column r.1 3)) h)

then_both : (o p : Ordering) → ordering_then o p ≡ Equal → (o ≡ Equal) × (p ≡ Equal)
then_both Less p h = absurd (cc)
then_both Equal p h = (refl, h)
then_both Greater p h = absurd (cc)

pub text_same : (a b : List ℕ) → value_cmp (Text a) (Text b) ≡ Equal → a ≡ b
text_same a b h = (bytes_eq-Decides a b).0 (sym (is_eq-slice_cmp a b) ∙ ap is_eq (sym (value_cmp-Text a b) ∙ h))

blob_same : (a b : List ℕ) → value_cmp (Blob a) (Blob b) ≡ Equal → a ≡ b
blob_same a b h = (bytes_eq-Decides a b).0 (sym (is_eq-slice_cmp a b) ∙ ap is_eq (sym (value_cmp-Blob a b) ∙ h))

prefix_is : (a b c k : List ℕ) (p : ℤ) → prefix_cmp plain (entry a b p) (Text c ∷ Blob k ∷ []) ≡ ordering_then (value_cmp (Text a) (Text c)) (ordering_then (value_cmp (Blob b) (Blob k)) Equal)
prefix_is a b c k p = rw first_key-plain refl

prefix_same : (c k : List ℕ) (p : ℤ) → prefix_cmp plain (entry c k p) (Text c ∷ Blob k ∷ []) ≡ Equal
prefix_same c k p = prefix_is c k c k p ∙ (rw (tied_itself value_cmp_total (Text c), tied_itself value_cmp_total (Blob k)) refl)

prefix_equal : (a b c k : List ℕ) (p : ℤ) → prefix_cmp plain (entry a b p) (Text c ∷ Blob k ∷ []) ≡ Equal → (a ≡ c) × (b ≡ k)
prefix_equal a b c k p h =
    let both = then_both _ _ (sym (prefix_is a b c k p) ∙ h) in
    (text_same a c both.0, blob_same b k (then_both _ _ both.1).0)

neither : (o : Ordering) → is_lt (below_or_above o) ≡ false → (is_gt o ≡ true → ⊥) → o ≡ Equal
neither Less h n = absurd (cc)
neither Equal h n = refl
neither Greater h n = absurd (n refl)

abbrev key_of : List ℕ → List ℕ → Row
key_of c k = Text c ∷ Blob k ∷ []

-- the place before the entries with this collection and key
abbrev pub from_row : Row → List ℕ → Ordering
from_row mark bytes = below_or_above (prefix_cmp plain (decode bytes) mark)

abbrev pub from_key : List ℕ → List ℕ → List ℕ → Ordering
from_key c k = from_row (key_of c k)

module _ (c k : List ℕ) (docs : List Doc) (records : List (List ℕ))
    (ascends : Ascends (record_order plain) records)
    (listed : (d : Doc) → IsIn d docs → IsIn (entry_of d) (map decode records))
    (leads : (e : Row) → IsIn e (map decode records) → (d : Doc) × IsIn d docs × (e ≡ entry_of d))
    (apart : (d e : Doc) → IsIn d docs → IsIn e docs → is_named c k d ≡ true → is_named c k e ≡ true → e ≡ d) where
  -- a document of the name has a record from the place on
  record_of : (d : Doc) → IsIn d docs → is_named c k d ≡ true → (x : List ℕ) × IsIn x (from_cut (from_key c k) records) × (decode x ≡ entry c k d.place)
  record_of d there named =
      let parts = named_parts c k d named in
      let r = out_of_map decode (entry_of d) records (listed d there) in
      let is : decode r.0 ≡ entry c k d.place = sym r.2 ∙ ap (λ x. entry x d.idkey d.place) parts.0 ∙ ap (λ x. entry c x d.place) parts.1 in
      let at : is_lt (from_key c k r.0) ≡ false = ap (λ e. is_lt (below_or_above (prefix_cmp plain e (key_of c k)))) is ∙ ap (λ o. is_lt (below_or_above o)) (prefix_same c k d.place) in
      (r.0, in_from (from_key c k) records r.0 at r.1, is)

  pub none_from : from_cut (from_key c k) records ≡ [] → named_in c k docs ≡ None
  none_from nothing = find_no (is_named c k) docs λ d there named.
      let r = record_of d there named in subst (λ l. IsIn r.0 l) nothing r.1

  pub found_from : (first : List ℕ) (a b : List ℕ) (place : ℤ) → IsFirst (from_cut (from_key c k) records) first true → decode first ≡ entry a b place → a ≡ c → b ≡ k → option_map (λ (d : Doc). d.place) (named_in c k docs) ≡ Some place
  found_from first a b place is reads p q =
      let there = from_subset (from_key c k) records first (subst (λ l. IsIn first l) (sym is.1) (inl refl)) in
      let r = leads (decode first) (in_map decode first records there) in
      let same = same_names a b r.0.coll r.0.idkey place r.0.place (sym reads ∙ r.2) in
      let named = named_true c k r.0 (sym same.0 ∙ p) (sym same.1 ∙ q) in
      ap (option_map (λ (d : Doc). d.place)) (find_one (is_named c k) r.0 docs (λ e inside e_named. apart r.0 e r.1 inside named e_named) named r.1) ∙ ap Some (sym same.2)

  pub other_from : (first : List ℕ) (a b : List ℕ) (place : ℤ) → IsFirst (from_cut (from_key c k) records) first true → decode first ≡ entry a b place → ((a ≡ c) × (b ≡ k) → ⊥) → named_in c k docs ≡ None
  other_from first a b place is reads differs = find_no (is_named c k) docs λ d there named.
      let r = record_of d there named in
      let here = subst (λ l. IsIn r.0 l) is.1 r.1 in
      elim here [
        | inl same ↦ let names = same_names a b c k place d.place (sym reads ∙ ap decode (sym same) ∙ r.2) in differs (names.0, names.1)
        | inr later ↦
            let before = before_later (from_key c k) (record_order plain) records first r.0 is.0 ascends is.1 later in
            let low = not_below (from_key c k) records first is.0 is.1 in
            let follows = prefix_cmp_follows plain (key_of c k) (decode first) (decode r.0) (ap is_gt (less _ before)) in
            let equal : prefix_cmp plain (decode r.0) (key_of c k) ≡ Equal = ap (λ e. prefix_cmp plain e (key_of c k)) r.2 ∙ prefix_same c k d.place in
            let not_above = λ (above : is_gt (prefix_cmp plain (decode first) (key_of c k)) ≡ true). (let no = sym (ap is_gt equal) ∙ follows.1 above in absurd (cc)) in
            let first_equal = neither _ low not_above in
            differs (prefix_equal a b c k place (ap (λ e. prefix_cmp plain e (key_of c k)) (sym reads) ∙ first_equal))
      ]

-- ---- what a scan and a look-up give

pub first_of : (some : Bool) (all : List (List ℕ)) (layout : Layout) (usable other : ℕ) (pages same : PageMap) (old new : Batch) → same ≡ pages → IsFilled as_record all layout usable pages old → TookFirst layout other same old new some → IsFirst all (taken new).payload some
first_of true all layout usable other pages same old new is filled took =
    let first = subst (λ p. left_in p old ≡ taken new ∷ left_in p new) is took.0 in
    (map as_record (left_in pages new) ++ filled.rest, filled.parts ∙ ap (λ l. map as_record l ++ filled.rest) first)
first_of false all layout usable other pages same old new is filled took =
    let none = subst (λ p. left_in p old ≡ []) is took.0 in
    filled.parts ∙ ap (λ l. map as_record l ++ filled.rest) none ∙ filled.ends none

module _ {P : Type 0} (g : Ghosts P) (early late : P) (mark : Row) (c k : List ℕ) (table index : ℕ) (docs : List Doc)
    (is : mark ≡ key_of c k) (clean : IsClean g late) (are : AreDocuments (g.size early) (g.pages early) table index docs) where
  abbrev side : List ℕ → Ordering
  side = from_row mark

  same_side : side ≡ from_key c k
  same_side = ap from_row is

  pub finds_none : (found : List ℕ) (some : Bool) → some ≡ false → FindsFirst g early late side index found some → named_in c k docs ≡ None
  finds_none found some is_no finds =
      let first = finds clean are.index_layout are.records (probe_before_key plain mark) are.index_laid are.indexed in
      let none : from_cut side are.records ≡ [] = subst (IsFirst (from_cut side are.records) found) is_no first in
      none_from c k docs are.records (ascends_records are.indexed) are.listed are.leads (are.apart c k) (subst (λ s. from_cut s are.records ≡ []) same_side none)

  first_found : (found : List ℕ) (some : Bool) → some ≡ true → FindsFirst g early late side index found some → IsFirst (from_cut (from_key c k) are.records) found true
  first_found found some is_yes finds =
      let first = finds clean are.index_layout are.records (probe_before_key plain mark) are.index_laid are.indexed in
      subst (λ s. IsFirst (from_cut s are.records) found true) same_side (subst (IsFirst (from_cut side are.records) found) is_yes first)

  pub finds_place : (found a b : List ℕ) (place : ℤ) (some : Bool) → some ≡ true → FindsFirst g early late side index found some → decode found ≡ entry a b place → a ≡ c → b ≡ k → option_map (λ (d : Doc). d.place) (named_in c k docs) ≡ Some place
  finds_place found a b place some is_yes finds reads p q =
      found_from c k docs are.records (ascends_records are.indexed) are.listed are.leads (are.apart c k) found a b place (first_found found some is_yes finds) reads p q

  pub finds_other : (found a b : List ℕ) (place : ℤ) (some : Bool) → some ≡ true → FindsFirst g early late side index found some → decode found ≡ entry a b place → ((a ≡ c) × (b ≡ k) → ⊥) → named_in c k docs ≡ None
  finds_other found a b place some is_yes finds reads differs =
      other_from c k docs are.records (ascends_records are.indexed) are.listed are.leads (are.apart c k) found a b place (first_found found some is_yes finds) reads differs

-- the row at a place is that of a document
pub row_found : (docs : List Doc) (rows : List (ℤ × List ℕ)) (place : ℤ) (out a b body : List ℕ) (some : Bool) → some ≡ true → map read_row rows ≡ map placed docs → IsFound (by_rowid place) rows (place, out) some → decode out ≡ columns a b body → (d : Doc) × IsIn d docs × (d.coll ≡ a) × (d.idkey ≡ b) × (d.body ≡ body)
row_found docs rows place out a b body some is_yes shows found reads =
    let hit = subst (IsFound (by_rowid place) rows (place, out)) is_yes found in
    let there = from_subset (by_rowid place) rows (place, out) (subst (λ l. IsIn (place, out) l) (sym hit.1.1) (inl refl)) in
    let r = out_of_map placed (read_row (place, out)) docs (subst (λ l. IsIn (read_row (place, out)) l) shows (in_map read_row (place, out) rows there)) in
    let same = same_columns r.0.coll r.0.idkey r.0.body a b body r.0.place place (sym r.2 ∙ ap (λ (x : Row). let y : ℤ × Row = (place, x) in y) reads) in
    (r.0, r.1, same.0, same.1, same.2)

pub body_found : (c k : List ℕ) (docs : List Doc) (body : List ℕ) → ((d e : Doc) → IsIn d docs → IsIn e docs → is_named c k d ≡ true → is_named c k e ≡ true → e ≡ d)
    → (d : Doc) × IsIn d docs × (d.coll ≡ c) × (d.idkey ≡ k) × (d.body ≡ body) → Some body ≡ option_map (λ (d : Doc). d.body) (named_in c k docs)
body_found c k docs body apart r =
    let named = named_true c k r.0 r.2 r.3 in
    sym (ap (option_map (λ (d : Doc). d.body)) (find_one (is_named c k) r.0 docs (λ e inside e_named. apart r.0 e r.1 inside named e_named) named r.1) ∙ ap Some r.4)
