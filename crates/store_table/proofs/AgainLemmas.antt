-- A connection over what a crash left shows the rows that it left.
use Rattle.std.proofs.Common.{◌≡◌, List, map, sym, ap, subst, ◌∙◌}
use Rattle.std.specs.List.Sorted.{IsPermutation}
use Rattle.sqlite_trees.specs.Objects.{catalog_tree}
use Rattle.sqlite.specs.Tree.{Trees}
use Rattle.sqlite.specs.Schema.{Schema}
use Rattle.sqlite_catalog.specs.Listing.{Lists}
use Rattle.sqlite_catalog.proofs.ReadLemmas.{lists_once}
use Rattle.sqlite.specs.Effect.{Database}
use Rattle.sqlite.specs.State.{State, Opens, IsLive}
use Rattle.store_table.specs.Schema.{HasDocuments, IsFree}
use Rattle.store_table.specs.Rows.{TableRow, RowsIn, IsBlank, ListsSchema, HoldsRows, columns_of}
use Rattle.store_table.proofs.StatementLemmas.{lists_own, seen, unseen}

-- databases that list their schemas have the same one, if they have the same trees
same_schema : (a b : Database) → ListsSchema a → ListsSchema b → b.trees ≡ a.trees → b.schema ≡ a.schema
unfolding ListsSchema
same_schema a b h k same = lists_once (a.trees catalog_tree) b.schema a.schema (subst (λ (t : Trees). Lists (t catalog_tree) b.schema) same k) h

-- a connection that was opened over the trees of a database with no such table has none yet
pub again_blank : (s : State) (first : Database) → Opens s → IsLive s → ListsSchema first → IsFree first.schema.tables → s.committed.trees ≡ first.trees → IsBlank s
again_blank s first opens live listed free is =
    let same = same_schema first s.committed listed (lists_own s.committed (live opens.is_open).1) is in
    record {
      is_open = opens.is_open;
      autocommit = opens.autocommit;
      settled = opens.clean;
      free = subst (λ (c : Schema). IsFree c.tables) (sym (ap (λ (d : Database). d.schema) opens.clean ∙ same)) free;
    }

-- one that was opened over the trees of a database with these rows shows them
pub again_shows : (s : State) (first : Database) (docs : List TableRow) → Opens s → IsLive s → RowsIn first docs → s.committed.trees ≡ first.trees → HoldsRows s docs
again_shows s first docs opens live rows is =
    let sound = (live opens.is_open).1 in
    let t = seen rows in
    let same = same_schema first s.committed t.listed (lists_own s.committed sound) is in
    record {
      is_open = opens.is_open;
      autocommit = opens.autocommit;
      settled = opens.clean;
      table = subst (λ (d : Database). RowsIn d docs) (sym opens.clean) (unseen (record {
        place = t.place;
        tree = t.tree;
        listed = lists_own s.committed sound;
        stands = subst (λ (c : Schema). HasDocuments c.tables t.place t.tree) (sym same) t.stands;
        rows = subst (λ (trees : Trees). IsPermutation (map columns_of docs) (trees t.tree)) (sym is) t.rows;
        rising = t.rising;
      }));
    }
