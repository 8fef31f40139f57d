-- The table of documents in the pages that trees may own, before a change and after it.
use Rattle.std.proofs.Common.{◌≡◌, ◌≢◌, inl, inr, ℕ, ◌<◌, List, [], ◌∷◌, map, slice_index, refl, sym, ap, subst, subst₂, ◌∙◌, arith, ne_eqb}
use Rattle.std.specs.List.Sorted.{IsPermutation}
use Rattle.std.proofs.lemmas.List.Sorted.{IsPermutation-refl}
use Rattle.sqlite_pages.specs.PageMap.{PageMap}
use Rattle.sqlite_value.specs.Order.{Row}
use Rattle.sqlite_sql.specs.Catalog as catalog
use Rattle.sqlite_trees.specs.declared.store.Shape.TheVariants.{Table}
use Rattle.sqlite_trees.specs.Tree.{Trees}
use Rattle.sqlite_trees.specs.Objects.{catalog_tree, version_tree}
use Rattle.sqlite_schema.specs.declared.schema.Table as schema_table
use Rattle.sqlite_schema.specs.declared.schema.Constraint.TheVariants.{Unique}
use Rattle.sqlite_schema.specs.declared.schema.Schema.{Schema}
use Rattle.sqlite_rules.specs.Lists.{Has}
use Rattle.sqlite_rules.proofs.ListLemmas.{all_has, all_from, has_got}
use Rattle.sqlite_btree.specs.Cut.{IsIn}
use Rattle.sqlite_btree.proofs.ViewLemmas.{ascends_rows}
use Rattle.sqlite_catalog.specs.Listing.{IsSound, Lists}
use Rattle.sqlite_catalog.proofs.ReadLemmas.{lists_once}
use Rattle.sqlite_store.specs.Db.{rows_at, roots_of, trees_in, IsDb}
use Rattle.sqlite_store.specs.Listing.{all_trees}
use Rattle.sqlite_store.specs.Listed.{catalog_rows}
use Rattle.sqlite.specs.Effect.{Database}
use Rattle.store_table.specs.Schema.{documents_at, HasDocuments}
use Rattle.store_table.specs.Rows.{TableRow, TableRows, ListsSchema, columns_of, IsRising}
use Rattle.store_table.specs.Beside.{SparesOthers}
use Rattle.store_table.proofs.StatementLemmas.{seen, unseen}
use Rattle.store_table.proofs.UniqueLemmas.{one_stand}
use Rattle.store_table.proofs.DocumentLemmas.{in_map}
use Rattle.store_table.proofs.PageTreeLemmas.{in_order}
use Rattle.store_table.proofs.PageUniqueLemmas.{one_name}
use Rattle.store_table.specs.Store.{trees_of, ListsOwn, HasStore}
use Rattle.store_table.proofs.UseLemmas as use_of
use Rattle.store_table.proofs.UseLemmas.{own_index}
use Rattle.store_table.proofs.SoundLemmas.{AreApart, obeys}

abbrev pub entries_of : List TableRow → List Row
entries_of docs = map (catalog.entry_of (2 ∷ 3 ∷ [])) (map columns_of docs)

pub to_has : {X : Type 0} (x : X) (xs : List X) → IsIn x xs → Has xs x
to_has x [] h = h
to_has x (y ∷ xs) (inl same) = inl same
to_has x (y ∷ xs) (inr there) = inr (to_has x xs there)

lists_of : (db : Database) → ListsSchema db → Lists (db.trees catalog_tree) db.schema
unfolding ListsSchema
lists_of db h = h

lists_for : (db : Database) → Lists (db.trees catalog_tree) db.schema → ListsSchema db
unfolding ListsSchema
lists_for db h = h

same_catalog : (size : ℕ) (wanted : List _) (p q : PageMap) (version : ℕ) → trees_of size wanted q version catalog_tree ≡ trees_of size wanted p version catalog_tree
same_catalog size wanted p q version = catalog_rows size wanted q ∙ sym (catalog_rows size wanted p)

module _ (first : Database) (size : ℕ) (pages : PageMap) (version table index : ℕ) (docs : List TableRow) (s : HasStore first size pages version table index docs) where
  abbrev trees : Trees
  trees = trees_of size s.wanted pages version

  abbrev shown : TableRows (record { schema = first.schema; trees = trees }) docs
  shown = seen s.shows.table

  one : first.schema ≡ s.schema
  one = lists_once (trees catalog_tree) first.schema s.schema (lists_of (record { schema = first.schema; trees = trees }) shown.listed) s.sound.lists

  abbrev pub tree : ℕ
  tree = shown.tree

  stands : HasDocuments s.schema.tables shown.place tree
  stands = subst (λ (x : Schema). HasDocuments x.tables shown.place tree) one shown.stands

  pub has_table : Has s.schema.tables (documents_at tree)
  has_table = has_got s.schema.tables shown.place (documents_at tree) stands.at

  abbrev has_index : (t : ℕ) × Has s.schema.indexes (own_index tree t)
  has_index = use_of.has_index size pages s.wanted version s.schema s.db s.exact s.sound table index s.own tree has_table

  abbrev pub index_tree : ℕ
  index_tree = has_index.0

  pub its : use_of.TableIn size pages s.wanted version s.schema s.db s.exact s.sound tree
  its = use_of.its size pages s.wanted version s.schema s.db s.exact s.sound table index s.own tree has_table

  pub their : use_of.IndexIn size pages s.wanted version s.schema s.db s.exact s.sound index_tree
  their = use_of.their size pages s.wanted version s.schema s.db s.exact s.sound table index s.own tree has_table

  pub table_root : slice_index (roots_of size s.wanted pages) tree ≡ table
  table_root = use_of.its_root size pages s.wanted version s.schema s.db s.exact s.sound table index s.own tree has_table

  pub index_root : slice_index (roots_of size s.wanted pages) index_tree ≡ index
  index_root = use_of.index_root size pages s.wanted version s.schema s.db s.exact s.sound table index s.own tree has_table

  pub are_rows : trees tree ≡ map columns_of docs
  are_rows = its.shows ∙ sym (in_order docs its.rows shown.rising (ascends_rows its.table) (subst (λ l. IsPermutation (map columns_of docs) l) its.shows shown.rows))

  pub rising : IsRising docs
  rising = shown.rising

  has_row : (d : TableRow) → IsIn d docs → Has (trees tree) (columns_of d)
  has_row d there = subst (λ l. Has l (columns_of d)) (sym are_rows) (to_has (columns_of d) (map columns_of docs) (in_map columns_of d docs there))

  pub apart : AreApart docs
  apart d e there also c k = one_name s.schema trees tree index_tree d e (s.sound.obeys.rules Unique) has_table has_index.1 (has_row d there) (has_row e also) c k

  pub rows_in : trees_in size s.wanted pages tree ≡ map columns_of docs
  rows_in = sym (use_of.low_tree size pages s.wanted version s.schema s.db s.exact s.sound tree its.low).2 ∙ are_rows

  pub entries : IsPermutation (entries_of docs) (trees index_tree)
  entries =
      subst (λ l. IsPermutation (map (catalog.entry_of (2 ∷ 3 ∷ [])) l) (trees index_tree)) are_rows
      (all_has (λ i. catalog.IsIndexOf i.columns (trees i.table) (trees i.tree)) s.schema.indexes (own_index tree index_tree) s.sound.obeys.indexed has_index.1)

  pub entries_in : IsPermutation (entries_of docs) (trees_in size s.wanted pages index_tree)
  entries_in = subst (λ l. IsPermutation (entries_of docs) l) (use_of.low_tree size pages s.wanted version s.schema s.db s.exact s.sound index_tree their.low).2 entries

  pub two_trees : tree ≢ index_tree
  two_trees e =
      let table_shape = its.names.shape_is in
      let index_shape = their.names.shape_is in
      cc

  -- the table has other rows, and the index their entries
  module _ (after : PageMap) (db : IsDb size s.wanted after) (roots : roots_of size s.wanted after ≡ roots_of size s.wanted pages) (listed : rows_at size after Table 1 ≡ rows_at size pages Table 1)
      (made : List TableRow) (rows : trees_in size s.wanted after tree ≡ map columns_of made) (kept : IsPermutation (entries_of made) (trees_in size s.wanted after index_tree)) (up : IsRising made) (alone : AreApart made) where
    abbrev next : Trees
    next = trees_of size s.wanted after version

    next_at : (t : ℕ) → t < 65536 → next t ≡ trees_in size s.wanted after t
    unfolding all_trees
    next_at t low = rw (ne_eqb t catalog_tree (λ e. omega (arith, low)), ne_eqb t version_tree (λ e. omega (arith, low))) refl

    have_rows : next tree ≡ map columns_of made
    have_rows = next_at tree its.low ∙ rows

    have_entries : IsPermutation (entries_of made) (next index_tree)
    have_entries = subst (λ l. IsPermutation (entries_of made) l) (sym (next_at index_tree their.low)) kept

    sound : IsSound s.schema next
    sound = record {
      lists = subst (λ l. Lists l s.schema) (sym (same_catalog size s.wanted pages after version)) s.sound.lists;
      obeys = obeys s.schema tree index_tree (use_of.only_table size pages s.wanted version s.schema s.db s.exact s.sound table index s.own tree has_table)
          (use_of.only_index size pages s.wanted version s.schema s.db s.exact s.sound table index s.own tree has_table) next made have_rows alone have_entries;
    }

    others : SparesOthers first (record { schema = first.schema; trees = next })
    others = record {
      schema = refl;
      rows = λ p n there.
          let same = (one_stand first.schema.tables shown.place p tree n shown.stands there).1 in
          all_from _ first.schema.tables (λ t listed' away. absurd (away
          (ap (λ (x : schema_table.Table). x.tree) (use_of.only_table size pages s.wanted version s.schema s.db s.exact s.sound table index s.own tree has_table t (subst (λ (x : Schema). Has x.tables t) one listed')) ∙ sym same)));
    }

    pub changed : HasStore first size after version table index made
    changed = record {
      sized = s.sized;
      wanted = s.wanted;
      schema = s.schema;
      db = db;
      exact = subst₂ (λ r e. Rattle.sqlite_store.specs.Exact.IsExact s.wanted r e) (sym roots) (sym listed) s.exact;
      own = subst (λ l. ListsOwn l table index) (sym listed) s.own;
      sound = sound;
      shows = record {
        table = unseen (record {
          place = shown.place;
          tree = tree;
          listed = lists_for (record { schema = first.schema; trees = next }) (subst (λ l. Lists l first.schema) (sym (same_catalog size s.wanted pages after version)) (lists_of (record { schema = first.schema; trees = trees }) shown.listed));
          stands = shown.stands;
          rows = subst (λ l. IsPermutation (map columns_of made) l) (sym have_rows) (IsPermutation-refl (map columns_of made));
          rising = up;
        });
        others = others;
      };
    }
