-- What a database of the table alone says of its pages and its schema.
use Rattle.std.proofs.Common.{◌≡◌, ◌≢◌, inl, inr, ℕ, ℤ, suc, ◌+◌, ◌<◌, pos, codes, List, [], ◌∷◌, map, length, slice_index, refl, sym, ap, ap₂, subst, ◌∙◌, arith, ne_eqb}
use Rattle.sqlite_pages.specs.PageMap.{PageMap}
use Rattle.sqlite_value.specs.Keys.{plain}
use Rattle.sqlite_value.specs.declared.value.Value.{Value}
use Rattle.sqlite_value.specs.declared.value.Value.TheVariants.{Int, Text}
use Rattle.sqlite_value.specs.Order.{Row, column, bytes}
use Rattle.sqlite_record.specs.Record.{decode}
use Rattle.sqlite_btree.specs.Stored.{IsTable, IsIndex, IsLaidIn}
use Rattle.sqlite_trees.specs.declared.store.Shape.TheVariants.{Table, Index}
use Rattle.sqlite_trees.specs.Tree.{Trees, IsAscending, rowid}
use Rattle.sqlite_trees.specs.View.{IsShaped}
use Rattle.sqlite_trees.specs.Objects.{catalog_tree, version_tree, IsListed}
use Rattle.sqlite_schema.specs.declared.schema.Table as schema_table
use Rattle.sqlite_schema.specs.declared.schema.Index as schema_index
use Rattle.sqlite_schema.specs.declared.schema.Schema.{Schema}
use Rattle.sqlite_schema.specs.Rules.{table_reals, index_reals, IsLaidOut}
use Rattle.sqlite_rules.specs.Lists.{Has}
use Rattle.sqlite_rules.proofs.ListLemmas.{all_has}
use Rattle.sqlite_rules.proofs.RuleLemmas.{same_table}
use Rattle.sqlite_catalog.specs.Listing.{IsSound, IsGuarded, automatic}
use Rattle.sqlite_catalog.proofs.LayoutLemmas.{table_row, index_row, table_shape, index_shape, index_bits, laid_out}
use Rattle.sqlite_store.specs.declared.catalog.Wanted.{Wanted}
use Rattle.sqlite_store.specs.Build as build
use Rattle.sqlite_store.specs.Catalog.{shape_at, reals_at, roots_in}
use Rattle.sqlite_store.specs.Db.{table_row as as_row, shown, record_order, rows_at, roots_of, trees_in, Names, IsDb}
use Rattle.sqlite_store.specs.Exact.{IsExact}
use Rattle.sqlite_store.specs.Listing.{listed_from, all_trees, all_shapes, all_reals, reals_if_present}
use Rattle.sqlite_store.specs.Listed.{catalog_rows, is_listed}
use Rattle.sqlite_store.proofs.DbLemmas.{table_reads, index_reads, named_laid, named_rows}
use Rattle.sqlite_store.proofs.ListingLemmas.{listing_shaped}
use Rattle.store_table.specs.Schema.{documents_at}
use Rattle.store_table.specs.Roots.{table_entry, index_entry}
use Rattle.store_table.proofs.FirstRowLemmas.{has_listed, has_exact}
use Rattle.store_table.proofs.ShownLemmas.{shown_rows, shown_entries}
use Rattle.store_table.specs.Store.{trees_of, ListsOwn}

int_is : {a b : ℕ} → ◌≡◌ {A = Value} (Int (pos a)) (Int (pos b)) → a ≡ b
int_is e = cc

id_is : {a : ℕ} {p : ℤ} → ◌≡◌ {A = Value} (Int (pos a)) (Int p) → pos a ≡ p
id_is e = cc

next_is : {a b : ℕ} → pos (1 + a) ≡ pos (1 + b) → a ≡ b
next_is {a = a} {b = b} e = let same : 1 + a ≡ 1 + b = cc in omega (arith, same)

length_roots : (rows : List Row) (schema : List Wanted) → length (roots_in rows schema) ≡ length schema
length_roots rows [] = refl
length_roots rows (w ∷ schema) = ap suc (length_roots rows schema)

not_both : ◌≡◌ {A = Value} (Text (codes "table")) (Text (codes "index")) → ⊥
not_both e = let letters : 116 ≡ 105 = ap (λ v. slice_index (bytes v) 0) e in omega (arith, letters)

same_index : (indexes : List schema_index.Index) (i j : schema_index.Index) → IsAscending (λ a b. a.tree ≡ b.tree → ⊥) indexes → Has indexes i → Has indexes j → i.tree ≡ j.tree → i ≡ j
same_index [] i j apart h k same = absurd h
same_index (x ∷ xs) i j apart (inl h) (inl k) same = h ∙ sym k
same_index (x ∷ xs) i j apart (inl h) (inr k) same = absurd (all_has _ xs j apart.0 k (ap (λ (z : schema_index.Index). z.tree) (sym h) ∙ same))
same_index (x ∷ xs) i j apart (inr h) (inl k) same = absurd (all_has _ xs i apart.0 h (ap (λ (z : schema_index.Index). z.tree) (sym k) ∙ sym same))
same_index (x ∷ xs) i j apart (inr h) (inr k) same = same_index xs i j apart.1 h k same

-- the index that UNIQUE makes
abbrev pub own_index : ℕ → ℕ → schema_index.Index
own_index tree index = automatic (documents_at tree) 0 (2 ∷ 3 ∷ []) index

module _ (size : ℕ) (pages : PageMap) (wanted : List Wanted) (version : ℕ) (schema : Schema) (db : IsDb size wanted pages)
    (exact : IsExact wanted (roots_of size wanted pages) (rows_at size pages Table 1)) (sound : IsSound schema (trees_of size wanted pages version)) where
  abbrev trees : Trees
  trees = trees_of size wanted pages version

  abbrev roots : List ℕ
  roots = roots_of size wanted pages

  lists_here : trees catalog_tree ≡ listed_from 0 wanted
  lists_here = catalog_rows size wanted pages

  listed_here : IsListed (trees catalog_tree) (all_shapes wanted) (all_reals wanted)
  listed_here = subst (λ l. IsListed l (all_shapes wanted) (all_reals wanted)) (sym lists_here) (is_listed wanted)

  rising : IsShaped Table (trees catalog_tree)
  rising = subst (IsShaped Table) (sym lists_here) (listing_shaped 0 wanted)

  laid : IsLaidOut schema (all_shapes wanted)
  laid = laid_out listed_here rising sound.lists.listed

  pub low_tree : (t : ℕ) → t < 65536 → (all_shapes wanted t ≡ shape_at wanted t) × (all_reals wanted t ≡ reals_if_present (shape_at wanted t) (reals_at wanted t)) × (trees t ≡ trees_in size wanted pages t)
  unfolding all_shapes all_reals all_trees
  low_tree t low =
      let other : t ≢ catalog_tree = λ e. omega (arith, low) in
      let apart : t ≢ version_tree = λ e. omega (arith, low) in (
        rw (ne_eqb t catalog_tree other, ne_eqb t version_tree apart) refl,
        rw (ne_eqb t catalog_tree other, ne_eqb t version_tree apart) refl,
        rw (ne_eqb t catalog_tree other, ne_eqb t version_tree apart) refl,
      )

  -- a table without REAL columns
  pub record TableIn (t : ℕ) : Type 0 where
    pub low : t < 65536
    pub names : Names size wanted pages t Table (slice_index roots t)
    pub reals : reals_at wanted t ≡ 0
    pub rows : List (ℤ × List ℕ)
    pub laid : IsLaidIn (db.layouts (suc t)) pages
    pub table : IsTable size (db.layouts (suc t)) (slice_index roots t) rows
    pub shows : trees t ≡ map as_row rows

  -- and an index in plain order over such columns
  pub record IndexIn (t : ℕ) : Type 0 where
    pub low : t < 65536
    pub names : Names size wanted pages t (Index plain) (slice_index roots t)
    pub reals : reals_at wanted t ≡ 0
    pub records : List (List ℕ)
    pub laid : IsLaidIn (db.layouts (suc t)) pages
    pub index : IsIndex (record_order plain) size (db.layouts (suc t)) (slice_index roots t) records
    pub shows : trees t ≡ map decode records

  pub table_in : (t : schema_table.Table) → Has schema.tables t → table_reals t ≡ 0 → TableIn t.tree
  table_in t has none =
      let h = table_shape listed_here rising.0 sound.lists.listed t has in
      let low = low_tree t.tree h.2 in
      let shape : shape_at wanted t.tree ≡ Table = sym low.0 ∙ h.0 in
      let reals : reals_at wanted t.tree ≡ 0 = ap (λ s. reals_if_present s (reals_at wanted t.tree)) (sym shape) ∙ sym low.1 ∙ h.1 ∙ none in
      let names : Names size wanted pages t.tree Table (slice_index roots t.tree) = record { shape_is = shape; root_is = refl } in
      let there = named_laid db names in
      record {
        low = h.2;
        names = names;
        reals = reals;
        rows = there.1.0;
        laid = there.0;
        table = there.1.1;
        shows = low.2 ∙ named_rows names ∙ ap₂ (λ n rs. map (shown Table n) rs) reals (table_reads pages there.0 there.1.1) ∙ shown_rows there.1.0;
      }

  pub index_in : (t : schema_table.Table) (i : schema_index.Index) → Has schema.tables t → Has schema.indexes i → i.table ≡ t.tree → i.order ≡ plain → index_reals (table_reals t) i.columns ≡ 0 → IndexIn i.tree
  index_in t i has_t has owned order none =
      let h = index_shape listed_here rising.0 sound.lists.listed i has in
      let bits = index_bits listed_here rising.0 sound.lists.listed t i has_t has owned in
      let low = low_tree i.tree h.2 in
      let shape : shape_at wanted i.tree ≡ Index plain = sym low.0 ∙ h.0 ∙ ap Index order in
      let reals : reals_at wanted i.tree ≡ 0 = ap (λ s. reals_if_present s (reals_at wanted i.tree)) (sym shape) ∙ sym low.1 ∙ bits ∙ none in
      let names : Names size wanted pages i.tree (Index plain) (slice_index roots i.tree) = record { shape_is = shape; root_is = refl } in
      let there = named_laid db names in
      record {
        low = h.2;
        names = names;
        reals = reals;
        records = there.1.0;
        laid = there.0;
        index = there.1.1;
        shows = low.2 ∙ named_rows names ∙ ap₂ (λ n rs. map (shown (Index plain) n) rs) reals (index_reads pages there.0 there.1.1) ∙ shown_entries there.1.0;
      }

  module _ (table index : ℕ) (own : ListsOwn (rows_at size pages Table 1) table index) where
    -- the row of a tree that is listed is one of the two
    one_of_two : (row : Row) (t : ℕ) → Has (trees catalog_tree) row → rowid row ≡ Int (pos (t + 1))
        → (w : Wanted) × (column row 1 ≡ column w.row 0) × Has ((Int own.0 ∷ table_entry table) ∷ (Int own.1 ∷ index_entry index) ∷ []) (Int (pos (1 + t)) ∷ build.listing w (slice_index roots t))
    unfolding roots_of
    one_of_two row t has id =
        let l = has_listed 0 wanted row (subst (λ all. Has all row) lists_here has) in
        let at : l.at ≡ t = let e = int_is (sym l.id ∙ id) in omega (arith, e) in
        let there = has_exact 1 wanted roots l.at l.wanted l.there l.present (length_roots (rows_at size pages Table 1) wanted) in (
          l.wanted,
          l.kind,
          subst (λ n. Has ((Int own.0 ∷ table_entry table) ∷ (Int own.1 ∷ index_entry index) ∷ []) (Int (pos (1 + n)) ∷ build.listing l.wanted (slice_index roots n))) at
              (subst (λ all. Has all (Int (pos (1 + l.at)) ∷ build.listing l.wanted (slice_index roots l.at))) (sym exact.listed ∙ own.2) there),
        )

    table_at : (t : schema_table.Table) → Has schema.tables t → (slice_index roots t.tree ≡ table) × (pos (1 + t.tree) ≡ own.0)
    table_at t has =
        let r = table_row listed_here rising.0 sound.lists.listed t has in
        let found = one_of_two r.0 t.tree r.1 r.2.described.id in
        elim found.2 [
          | inl first ↦ (int_is (ap (λ x. column x 4) first), id_is (ap (λ x. column x 0) first))
          | inr (inl second) ↦ absurd (not_both (sym r.2.described.kind_is ∙ found.1 ∙ ap (λ x. column x 1) second))
          | inr (inr none) ↦ absurd none
        ]

    index_at : (i : schema_index.Index) → Has schema.indexes i → (slice_index roots i.tree ≡ index) × (pos (1 + i.tree) ≡ own.1)
    index_at i has =
        let r = index_row listed_here rising.0 sound.lists.listed i has in
        let found = one_of_two r.0 i.tree r.1 r.2.described.id in
        elim found.2 [
          | inl first ↦ absurd (not_both (sym (sym r.2.described.kind_is ∙ found.1 ∙ ap (λ x. column x 1) first)))
          | inr (inl second) ↦ (int_is (ap (λ x. column x 4) second), id_is (ap (λ x. column x 0) second))
          | inr (inr none) ↦ absurd none
        ]

    module _ (tree : ℕ) (has_table : Has schema.tables (documents_at tree)) where
      pub has_index : (t : ℕ) × Has schema.indexes (own_index tree t)
      has_index = all_has (IsGuarded schema.indexes) schema.tables (documents_at tree) sound.lists.guarded has_table 0 (2 ∷ 3 ∷ []) refl

      -- there is no other table
      pub only_table : (t : schema_table.Table) → Has schema.tables t → t ≡ documents_at tree
      only_table t has = same_table schema.tables t (documents_at tree) laid.tables_apart has has_table (next_is ((table_at t has).1 ∙ sym (table_at (documents_at tree) has_table).1))

      -- nor another index
      pub only_index : (i : schema_index.Index) → Has schema.indexes i → i ≡ own_index tree has_index.0
      only_index i has =
          same_index schema.indexes i (own_index tree has_index.0) laid.indexes_apart has has_index.1
          (next_is ((index_at i has).1 ∙ sym (index_at (own_index tree has_index.0) has_index.1).1))

      pub its_root : slice_index roots tree ≡ table
      its_root = (table_at (documents_at tree) has_table).0

      pub index_root : slice_index roots has_index.0 ≡ index
      index_root = (index_at (own_index tree has_index.0) has_index.1).0

      pub its : TableIn tree
      its = table_in (documents_at tree) has_table refl

      pub their : IndexIn has_index.0
      their = index_in (documents_at tree) (own_index tree has_index.0) has_table has_index.1 refl refl refl
