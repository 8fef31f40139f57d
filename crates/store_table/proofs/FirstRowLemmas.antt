-- The roots that the schema's two rows name are those of the table and of its index.
use Rattle.std.proofs.Common.{◌≡◌, inl, inr, ℕ, ℤ, zero, suc, ◌+◌, pos, Bool, true, false, if◌then◌else◌, codes, List, [], ◌∷◌, map, length, slice_get, slice_index, Some, refl, sym, ap, ap₂, subst, ◌∙◌, arith}
use Rattle.sqlite_pages.specs.PageMap.{PageMap}
use Rattle.sqlite_pool.specs.File.{in_use}
use Rattle.sqlite_value.specs.declared.value.Value.{Value}
use Rattle.sqlite_value.specs.declared.value.Value.TheVariants.{Int, Text}
use Rattle.sqlite_value.specs.Order.{Row, column, bytes}
use Rattle.sqlite_trees.specs.declared.store.Shape.{Shape}
use Rattle.sqlite_trees.specs.declared.store.Shape.TheVariants as shape
use Rattle.sqlite_trees.specs.Tree.{Trees, rowid}
use Rattle.sqlite_trees.specs.Objects.{catalog_tree}
use Rattle.sqlite_schema.specs.declared.schema.Schema.{Schema}
use Rattle.sqlite_rules.specs.Lists.{Has}
use Rattle.sqlite_rules.proofs.ListLemmas.{has_either}
use Rattle.sqlite_catalog.specs.Listing.{IsSound}
use Rattle.sqlite_catalog.proofs.LayoutLemmas.{table_row, index_row}
use Rattle.sqlite_schema.specs.declared.schema.Table.{Table}
use Rattle.sqlite_schema.specs.declared.schema.Index.{Index}
use Rattle.sqlite_store.specs.declared.catalog.Wanted.{Wanted}
use Rattle.sqlite_store.specs.Catalog.{is_present, roots_in}
use Rattle.sqlite_store.specs.Build as build
use Rattle.sqlite_store.specs.Exact.{entries_of}
use Rattle.sqlite_store.specs.Db as db
use Rattle.sqlite_store.specs.Db.{rows_at, roots_of}
use Rattle.sqlite_store.specs.Listing.{listed, listed_from, file_trees, IsOurs}
use Rattle.sqlite_store.proofs.DbLemmas.{table_reads}
use Rattle.store_table.specs.Roots.{ListsTwo, table_entry, index_entry}
use Rattle.store_table.proofs.PageLemmas.{laid_in_all, lists_here, listed_here, rising}

-- ---- a tree that is listed

pub record ListedAs (schema : List Wanted) (from : ℕ) (row : Row) : Type 0 where
  pub at : ℕ
  pub wanted : Wanted
  pub there : slice_get schema at ≡ Some wanted
  pub present : is_present wanted.shape ≡ true
  pub id : rowid row ≡ Int (pos (from + at + 1))
  pub kind : column row 1 ≡ column wanted.row 0

one_listed : (from : ℕ) (wanted : Wanted) (s : Shape) (row : Row) → Has (listed from wanted s) row → (is_present s ≡ true) × (rowid row ≡ Int (pos (from + 1))) × (column row 1 ≡ column wanted.row 0)
one_listed from wanted shape.Absent row h = absurd h
one_listed from wanted shape.Table row (inl e) = (refl, ap rowid e, ap (λ r. column r 1) e)
one_listed from wanted shape.Table row (inr h) = absurd h
one_listed from wanted (shape.Index o) row (inl e) = (refl, ap rowid e, ap (λ r. column r 1) e)
one_listed from wanted (shape.Index o) row (inr h) = absurd h
one_listed from wanted shape.Pageless row (inl e) = (refl, ap rowid e, ap (λ r. column r 1) e)
one_listed from wanted shape.Pageless row (inr h) = absurd h
one_listed from wanted shape.FrozenTable row (inl e) = (refl, ap rowid e, ap (λ r. column r 1) e)
one_listed from wanted shape.FrozenTable row (inr h) = absurd h
one_listed from wanted (shape.FrozenIndex o) row (inl e) = (refl, ap rowid e, ap (λ r. column r 1) e)
one_listed from wanted (shape.FrozenIndex o) row (inr h) = absurd h

pub has_listed : (from : ℕ) (schema : List Wanted) (row : Row) → Has (listed_from from schema) row → ListedAs schema from row
has_listed from [] row h = absurd h
has_listed from (w ∷ schema) row h = elim (has_either (listed from w w.shape) (listed_from (from + 1) schema) row h) [
  | inl here ↦ let one = one_listed from w w.shape row here in
      record { at = 0; wanted = w; there = refl; present = one.0; id = one.1 ∙ ap (λ n. Int (pos n)) (let e : from + 1 ≡ from + 0 + 1 = omega arith in e); kind = one.2 }
  | inr there ↦ let r = has_listed (from + 1) schema row there in
      record { at = suc r.at; wanted = r.wanted; there = r.there; present = r.present; id = r.id ∙ ap (λ n. Int (pos n)) (let e : from + 1 + r.at + 1 ≡ from + suc r.at + 1 = omega arith in e); kind = r.kind }
]

-- ---- and its row with a root

pub has_exact : (id : ℕ) (schema : List Wanted) (roots : List ℕ) (at : ℕ) (w : Wanted) → slice_get schema at ≡ Some w → is_present w.shape ≡ true → length roots ≡ length schema
    → Has (entries_of id schema roots) (Int (pos (id + at)) ∷ build.listing w (slice_index roots at))
has_exact id [] roots at w there present len = absurd (cc)
has_exact id (v ∷ schema) [] at w there present len = absurd (omega (arith, len))
has_exact id (v ∷ schema) (root ∷ roots) zero w there present len =
    let same : v ≡ w = cc in
    let is : is_present v.shape ≡ true = ap (λ (x : Wanted). is_present x.shape) same ∙ present in
    rw is (inl (ap₂ (λ n (x : Wanted). Int (pos n) ∷ build.listing x root) (let e : id + 0 ≡ id = omega arith in e) (sym same)))
has_exact id (v ∷ schema) (root ∷ roots) (suc at) w there present len =
    let rest = has_exact (id + 1) schema roots at w there present (omega (arith, len)) in
    let here : Has (entries_of (id + 1) schema roots) (Int (pos (id + suc at)) ∷ build.listing w (slice_index roots at)) =
    subst (λ n. Has (entries_of (id + 1) schema roots) (Int (pos n) ∷ build.listing w (slice_index roots at))) (let e : id + 1 + at ≡ id + suc at = omega arith in e) rest in
    go (is_present v.shape) here
  where
    go : (b : Bool) → Has (entries_of (id + 1) schema roots) (Int (pos (id + suc at)) ∷ build.listing w (slice_index roots at))
        → Has (if b then (Int (pos id) ∷ build.listing v root) ∷ entries_of (id + 1) schema roots else entries_of (id + 1) schema roots) (Int (pos (id + suc at)) ∷ build.listing w (slice_index roots at))
    go true h = inr h
    go false h = h

int_is : {a b : ℕ} → ◌≡◌ {A = Value} (Int (pos a)) (Int (pos b)) → a ≡ b
int_is e = cc

not_both : ◌≡◌ {A = Value} (Text (codes "table")) (Text (codes "index")) → ⊥
not_both e = let letters : 116 ≡ 105 = ap (λ v. slice_index (bytes v) 0) e in omega (arith, letters)

length_roots : (rows : List Row) (schema : List Wanted) → length (roots_in rows schema) ≡ length schema
length_roots rows [] = refl
length_roots rows (w ∷ schema) = ap suc (length_roots rows schema)

module _ (size : ℕ) (pages : PageMap) (wanted : List Wanted) (schema : Schema) (trees : Trees) (ours : IsOurs size true wanted pages)
    (reads : trees ≡ file_trees size wanted pages) (sound : IsSound schema trees) (table index : ℕ) (two : ListsTwo size pages table index) where
  abbrev roots : List ℕ
  roots = roots_of size wanted (in_use size pages)

  its_two : (p q : ℤ) × (rows_at size (in_use size pages) shape.Table 1 ≡ (Int p ∷ table_entry table) ∷ (Int q ∷ index_entry index) ∷ [])
  its_two =
      let laid = ours.file.db.trees.laid 0 in
      let kept = ours.file.db.trees.kept 0 in
      let are = two (ours.file.db.layouts 0) kept.0 (laid_in_all size pages (ours.file.db.layouts 0) laid) kept.1 in (
        are.first.0,
        are.second.0,
        table_reads (in_use size pages) laid kept.1 ∙ ap (map db.table_row) are.all
            ∙ ap₂ (λ a b. (Int are.first.0 ∷ a) ∷ (Int are.second.0 ∷ b) ∷ []) are.names_table are.names_index,
      )

  -- the row of a tree that is listed is one of the two
  one_of_two : (row : Row) (t : ℕ) → Has (trees catalog_tree) row → rowid row ≡ Int (pos (t + 1))
      → (w : Wanted) × (column row 1 ≡ column w.row 0) × Has ((Int (its_two.0) ∷ table_entry table) ∷ (Int (its_two.1) ∷ index_entry index) ∷ []) (Int (pos (1 + t)) ∷ build.listing w (slice_index roots t))
  unfolding roots_of
  one_of_two row t has id =
      let l = has_listed 0 wanted row (subst (λ all. Has all row) (lists_here size pages wanted schema trees ours reads sound) has) in
      let at : l.at ≡ t = let e = int_is (sym l.id ∙ id) in omega (arith, e) in
      let exact = ours.numbered refl in
      let there = has_exact 1 wanted roots l.at l.wanted l.there l.present (length_roots (rows_at size (in_use size pages) shape.Table 1) wanted) in (
        l.wanted,
        l.kind,
        subst (λ n. Has ((Int (its_two.0) ∷ table_entry table) ∷ (Int (its_two.1) ∷ index_entry index) ∷ []) (Int (pos (1 + n)) ∷ build.listing l.wanted (slice_index roots n))) at
            (subst (λ all. Has all (Int (pos (1 + l.at)) ∷ build.listing l.wanted (slice_index roots l.at))) (sym exact.listed ∙ its_two.2) there),
      )

  pub table_at : (t : Table) → Has schema.tables t → slice_index roots t.tree ≡ table
  table_at t has =
      let r = table_row (listed_here size pages wanted schema trees ours reads sound) (rising size pages wanted schema trees ours reads sound).0 sound.lists.listed t has in
      let found = one_of_two r.0 t.tree r.1 r.2.described.id in
      elim found.2 [
        | inl first ↦ int_is (ap (λ x. column x 4) first)
        | inr (inl second) ↦ absurd (not_both (sym r.2.described.kind_is ∙ found.1 ∙ ap (λ x. column x 1) second))
        | inr (inr none) ↦ absurd none
      ]

  pub index_at : (i : Index) → Has schema.indexes i → slice_index roots i.tree ≡ index
  index_at i has =
      let r = index_row (listed_here size pages wanted schema trees ours reads sound) (rising size pages wanted schema trees ours reads sound).0 sound.lists.listed i has in
      let found = one_of_two r.0 i.tree r.1 r.2.described.id in
      elim found.2 [
        | inl first ↦ absurd (not_both (sym (sym r.2.described.kind_is ∙ found.1 ∙ ap (λ x. column x 1) first)))
        | inr (inl second) ↦ int_is (ap (λ x. column x 4) second)
        | inr (inr none) ↦ absurd none
      ]
