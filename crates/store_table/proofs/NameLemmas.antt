-- The names of the collections.
use Rattle.std.proofs.Common.{◌≡◌, ℕ, List, [], ◌∷◌, map, filter, codes, Bool, true, false, ◌||◌, bytes_eq, refl, sym, ap, ap₂, ◌∙◌, is_eq, Less, Equal, Greater, Ordering, Vec}
use Rattle.std.specs.List.{list_any}
use Rattle.std.specs.Ordering.{nat_cmp}
use Rattle.std.specs.Cmp.Lexicographic.{slice_cmp}
use Rattle.std.specs.declared.alloc.Global.{Global}
use Rattle.std.specs.BTreeSet.{insert_key}
use Rattle.sqlite.specs.declared.types.Value.TheVariants.{Text}
use Rattle.sqlite.specs.Order.{Row}
use Rattle.sqlite.specs.Term.{col}
use Rattle.sqlite.specs.State.{State, Shown}
use Rattle.sqlite_tied.specs.Compute.{everything}
use Rattle.store_table.specs.Rows.{TableRow, HoldsRows, is_in}
use Rattle.store_table.specs.Visit.{IsSelect, first_value}
use Rattle.store_table.specs.Names.{has_name, is_same_name, names_text}
use Rattle.store_table.proofs.StatementLemmas.{seen}
use Rattle.store_table.proofs.TextLemmas.{by_place}
use Rattle.store_table.proofs.MeansLemmas.{names_is}
use Rattle.store_table.proofs.AnswerLemmas.{outputs_of}
use Rattle.store_table.proofs.ReadLemmas.{in_order, answers_of}
use Rattle.store_table.proofs.SeenLemmas.{or_swap}
use Rattle.std.proofs.lemmas.Slice.Eq.{bytes_eq-Decides}
use Rattle.std.proofs.lemmas.Cmp.{nat_list_eq_equiv}
use Rattle.std.proofs.lemmas.Map.Text.{is_eq-slice_cmp}

abbrev pub name_cmp : Vec ℕ Global → Vec ℕ Global → Ordering
name_cmp x y = slice_cmp nat_cmp x.items y.items

or_twice : (a c : Bool) → a || c ≡ a || (a || c)
or_twice true c = refl
or_twice false c = refl

pub name_inserted : (x : Vec ℕ Global) (names : List (Vec ℕ Global)) (c : List ℕ) → has_name (insert_key name_cmp names x) c ≡ bytes_eq c x.items || has_name names c
name_inserted x [] c = refl
name_inserted x (y ∷ names) c = go (name_cmp x y) refl (name_inserted x names c)
  where
    go : (o : Ordering) → name_cmp x y ≡ o → has_name (insert_key name_cmp names x) c ≡ bytes_eq c x.items || has_name names c
        → has_name (insert_key name_cmp (y ∷ names) x) c ≡ bytes_eq c x.items || has_name (y ∷ names) c
    go Less e more = rw e refl
    go Equal e more =
        let same : x.items ≡ y.items = (bytes_eq-Decides x.items y.items).0 (sym (is_eq-slice_cmp x.items y.items) ∙ ap is_eq e) in
        rw e (or_twice (bytes_eq c y.items) (has_name names c) ∙ ap (λ a. bytes_eq c a || (bytes_eq c y.items || has_name names c)) (sym same))
    go Greater e more = rw e (ap (λ b. bytes_eq c y.items || b) more ∙ or_swap (bytes_eq c y.items) (bytes_eq c x.items) (has_name names c))

pub names_asks : IsSelect names_text
unfolding everything
names_asks = (refl, refl)

every : (docs : List TableRow) → filter (λ _. true) docs ≡ docs
every [] = refl
every (d ∷ docs) = ap (λ ds. d ∷ ds) (every docs)

in_docs : (c : List ℕ) (docs : List TableRow) → list_any (is_same_name c) (map first_value (map (λ (d : TableRow). Text d.coll ∷ []) docs)) ≡ list_any (is_in c) docs
in_docs c [] = refl
in_docs c (d ∷ docs) = ap₂ (λ p q. p || q) (nat_list_eq_equiv.symm c d.coll) (in_docs c docs)

pub names_of : (old new : State) (docs : List TableRow) (rows : List Row) (c : List ℕ) → HoldsRows old docs → Shown names_text [] old new rows → list_any (is_same_name c) (map first_value rows) ≡ list_any (is_in c) docs
names_of old new docs rows c h s =
    let project = col 1 2 ∷ [] in
    let answer = answers_of names_text [] old new docs (codes "coll" ∷ []) [] project by_place rows h (names_is old.now.schema (seen h.table).place (seen h.table).tree (seen h.table).stands) s in
    let is = in_order [] project [] (λ _. true) docs rows (seen h.table).rising (outputs_of [] project by_place [] (λ _. true) docs old.now rows (seen h.table) (λ d. refl) answer) ∙ ap (map (λ (d : TableRow). Text d.coll ∷ [])) (every docs) in
    ap (λ (rs : List Row). list_any (is_same_name c) (map first_value rs)) is ∙ in_docs c docs
