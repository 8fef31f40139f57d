-- The last row of the table's tree is that with the greatest place.
use Rattle.std.proofs.Common.{◌≡◌, ℕ, ℤ, pos, ◌-◌, ◌^◌, true, false, Bool, List, [], ◌∷◌, ◌++◌, map, refl, sym, ap, subst, ◌∙◌}
use Rattle.std.proofs.lemmas.List.{map-append, append_assoc}
use Rattle.sqlite_pages.specs.PageMap.{PageMap}
use Rattle.sqlite_value.specs.declared.value.Value.{Value}
use Rattle.sqlite_value.specs.declared.value.Value.TheVariants.{Int}
use Rattle.sqlite_value.specs.Order.{Row, column}
use Rattle.sqlite_btree.specs.declared.batch.Batch.{Batch}
use Rattle.sqlite_btree.specs.Chain.{Layout}
use Rattle.sqlite_btree.specs.Cut.{before_cut}
use Rattle.sqlite_btree.specs.Batch.{left_in, taken, IsFilledBack, TookLast}
use Rattle.sqlite_btree.specs.Stored.{as_row, up_to_rowid}
use Rattle.sqlite_store.specs.Db.{table_row}
use Rattle.sqlite_store.proofs.RowLemmas.{AllFit, up_to_most}
use Rattle.store_table.specs.Rows.{TableRow, columns_of, last_place}

abbrev Raw : Type 0
Raw = ℤ × List ℕ

int_is : {a b : ℤ} → ◌≡◌ {A = Value} (Int a) (Int b) → a ≡ b
int_is e = cc

first_is : {x y : Row} {xs ys : List Row} → ◌≡◌ {A = List Row} (x ∷ xs) (y ∷ ys) → x ≡ y
first_is e = cc

rest_is : {x y : Row} {xs ys : List Row} → ◌≡◌ {A = List Row} (x ∷ xs) (y ∷ ys) → xs ≡ ys
rest_is e = cc

not_ended : (front : List Raw) (x : Raw) → ◌≡◌ {A = List Row} [] (map table_row (front ++ x ∷ [])) → ⊥
not_ended [] x e = cc
not_ended (f ∷ front) x e = cc

last_is : (docs : List TableRow) (front : List Raw) (x : Raw) → map columns_of docs ≡ map table_row (front ++ x ∷ []) → last_place docs ≡ x.0
last_is [] front x e = absurd (not_ended front x e)
last_is (d ∷ []) [] x e = int_is (ap (λ r. column r 0) (first_is e))
last_is (d ∷ c ∷ docs) [] x e = absurd (let rest = rest_is e in cc)
last_is (d ∷ []) (f ∷ front) x e = absurd (not_ended front x (rest_is e))
last_is (d ∷ c ∷ docs) (f ∷ front) x e = last_is (c ∷ docs) front x (rest_is e)

no_docs : (docs : List TableRow) → map columns_of docs ≡ [] → last_place docs ≡ pos 0
no_docs [] e = refl
no_docs (d ∷ docs) e = absurd (cc)

pub last_found : (some : Bool) (docs : List TableRow) (rows : List Raw) (layout : Layout) (usable other : ℕ) (pages same : PageMap) (old new : Batch) → AllFit rows → map columns_of docs ≡ map table_row rows → same ≡ pages
    → IsFilledBack as_row (before_cut (up_to_rowid (pos (2 ^ 63 - 1))) rows) layout usable pages old → TookLast layout other same old new some → some ≡ true → last_place docs ≡ (as_row (taken new)).0
last_found false docs rows layout usable other pages same old new fit shows is filled took h = absurd (cc)
last_found true docs rows layout usable other pages same old new fit shows is filled took h =
    let last = subst (λ p. left_in p old ≡ left_in p new ++ taken new ∷ []) is took.0 in
    let all : rows ≡ (filled.front ++ map as_row (left_in pages new)) ++ as_row (taken new) ∷ [] =
    sym (up_to_most rows fit) ∙ filled.parts ∙ ap (λ l. filled.front ++ map as_row l) last ∙ ap (λ l. filled.front ++ l) (map-append as_row (left_in pages new) (taken new ∷ []))
    ∙ sym (append_assoc filled.front (map as_row (left_in pages new)) (as_row (taken new) ∷ [])) in
    last_is docs (filled.front ++ map as_row (left_in pages new)) (as_row (taken new)) (shows ∙ ap (map table_row) all)

pub none_found : (some : Bool) (docs : List TableRow) (rows : List Raw) (layout : Layout) (usable other : ℕ) (pages same : PageMap) (old new : Batch) → AllFit rows → map columns_of docs ≡ map table_row rows → same ≡ pages
    → IsFilledBack as_row (before_cut (up_to_rowid (pos (2 ^ 63 - 1))) rows) layout usable pages old → TookLast layout other same old new some → some ≡ false → last_place docs ≡ pos 0
none_found true docs rows layout usable other pages same old new fit shows is filled took h = absurd (cc)
none_found false docs rows layout usable other pages same old new fit shows is filled took h =
    let none = subst (λ p. left_in p old ≡ []) is took.0 in
    let empty : rows ≡ [] = sym (up_to_most rows fit) ∙ filled.parts ∙ ap (λ l. filled.front ++ map as_row l) none ∙ ap (λ l. l ++ []) (filled.ends none) in
    no_docs docs (shows ∙ ap (map table_row) empty)
