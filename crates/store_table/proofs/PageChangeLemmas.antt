-- What edits of the two trees do to the rows of the store.
use Rattle.std.proofs.Common.{◌≡◌, ◌≢◌, inl, inr, ℕ, ℤ, List, [], ◌∷◌, ◌++◌, map, find, None, refl, sym, ap, subst, ◌∙◌, eq-eqb, ne_eqb}
use Rattle.std.specs.List.Sorted.{IsPermutation}
use Rattle.sqlite_pages.specs.PageMap.{PageMap}
use Rattle.sqlite_value.specs.Order.{Row}
use Rattle.sqlite_value.specs.Keys.{plain}
use Rattle.sqlite_trees.specs.Tree.{Trees, put_row, without_rowid, insert_entry, remove_entry, with_tree}
use Rattle.sqlite_btree.specs.Cut.{IsIn}
use Rattle.sqlite_store.specs.Db.{trees_in, Edits}
use Rattle.sqlite.specs.Effect.{Database}
use Rattle.store_table.specs.Rows.{TableRow, columns_of, AreBelow, is_row_named, without_place, with_body_at, with_body}
use Rattle.store_table.proofs.RowLemmas.{rising_last}
use Rattle.store_table.proofs.PlaceLemmas.{without_is, rising_without, rising_replaced}
use Rattle.store_table.proofs.DocumentLemmas.{out_of_map}
use Rattle.store_table.specs.Store.{HasStore}
use Rattle.store_table.proofs.SoundLemmas.{AreApart}
use Rattle.store_table.proofs.StoreLemmas.{entries_of, tree, index_tree, rows_in, entries_in, two_trees, rising, apart, changed}
use Rattle.store_table.proofs.EditLemmas.{entry_for, put_last, entry_added, none_found, in_last, put_over, entries_kept, names_kept, in_without, entry_removed}

at_it : (p : Trees) {q : Trees} (t : ℕ) (rows : List Row) → q ≡ with_tree p t rows → q t ≡ rows
at_it p t rows e = ap (λ (x : Trees). x t) e ∙ rw (eq-eqb t t refl) refl

at_other : (p : Trees) {q : Trees} (t u : ℕ) (rows : List Row) → u ≢ t → q ≡ with_tree p t rows → q u ≡ p u
at_other p t u rows away e = ap (λ (x : Trees). x u) e ∙ rw (ne_eqb u t away) refl

module _ (first : Database) (size : ℕ) (before : PageMap) (version table index : ℕ) (docs : List TableRow) (s : HasStore first size before version table index docs) where
  abbrev its : ℕ
  its = tree first size before version table index docs s

  abbrev their : ℕ
  their = index_tree first size before version table index docs s

  apart_last : (d : TableRow) → find (is_row_named d.coll d.idkey) docs ≡ None → AreApart (docs ++ d ∷ [])
  apart_last d none x y has_x has_y c k = elim (in_last d x docs has_x) [
    | inl old ↦ elim (in_last d y docs has_y) [
      | inl also ↦ apart first size before version table index docs s x y old also c k
      | inr new ↦ absurd (none_found d.coll d.idkey docs x none old (c ∙ ap (λ (z : TableRow). z.coll) new) (k ∙ ap (λ (z : TableRow). z.idkey) new))
    ]
    | inr new ↦ elim (in_last d y docs has_y) [
      | inl also ↦ absurd (none_found d.coll d.idkey docs y none also (sym c ∙ ap (λ (z : TableRow). z.coll) new) (sym k ∙ ap (λ (z : TableRow). z.idkey) new))
      | inr twin ↦ ap (λ (z : TableRow). z.place) (new ∙ sym twin)
    ]
  ]

  pub inserted : (d : TableRow) (mid after : PageMap) → AreBelow d.place docs → find (is_row_named d.coll d.idkey) docs ≡ None
      → Edits size s.wanted before mid its (put_row (columns_of d)) → Edits size s.wanted mid after their (insert_entry plain (entry_for d))
      → HasStore first size after version table index (docs ++ d ∷ [])
  inserted d mid after below none put added =
      let away = two_trees first size before version table index docs s in
      let rows : trees_in size s.wanted after its ≡ map columns_of (docs ++ d ∷ []) =
      at_other _ their its _ away added.trees ∙ at_it _ its _ put.trees ∙ ap (put_row (columns_of d)) (rows_in first size before version table index docs s) ∙ put_last d docs below in
      let was : trees_in size s.wanted mid their ≡ trees_in size s.wanted before their = at_other _ its their _ (λ e. away (sym e)) put.trees in
      let es : trees_in size s.wanted after their ≡ insert_entry plain (entry_for d) (trees_in size s.wanted before their) = at_it _ their _ added.trees ∙ ap (insert_entry plain (entry_for d)) was in
      changed first size before version table index docs s after added.db (added.roots ∙ put.roots) (added.listed ∙ put.listed) (docs ++ d ∷ []) rows
      (subst (λ l. IsPermutation (entries_of (docs ++ d ∷ [])) l) (sym es) (entry_added d docs _ below (entries_in first size before version table index docs s)))
      (rising_last d docs (rising first size before version table index docs s) below) (apart_last d none)

  apart_replaced : (p : ℤ) (body : List ℕ) → AreApart (with_body_at p body docs)
  apart_replaced p body x y has_x has_y c k =
      let a = out_of_map (with_body p body) x docs has_x in
      let b = out_of_map (with_body p body) y docs has_y in
      let m = names_kept p body a.0 in
      let n = names_kept p body b.0 in
      ap (λ (z : TableRow). z.place) a.2 ∙ m.2
      ∙ apart first size before version table index docs s a.0 b.0 a.1 b.1
      (sym m.0 ∙ ap (λ (z : TableRow). z.coll) (sym a.2) ∙ c ∙ ap (λ (z : TableRow). z.coll) b.2 ∙ n.0)
      (sym m.1 ∙ ap (λ (z : TableRow). z.idkey) (sym a.2) ∙ k ∙ ap (λ (z : TableRow). z.idkey) b.2 ∙ n.1)
      ∙ sym n.2 ∙ ap (λ (z : TableRow). z.place) (sym b.2)

  pub replaced : (d : TableRow) (body : List ℕ) (after : PageMap) → IsIn d docs → Edits size s.wanted before after its (put_row (columns_of (record d { body = body })))
      → HasStore first size after version table index (with_body_at d.place body docs)
  replaced d body after has put =
      let away = two_trees first size before version table index docs s in
      let rows : trees_in size s.wanted after its ≡ map columns_of (with_body_at d.place body docs) =
      at_it _ its _ put.trees ∙ ap (put_row (columns_of (record d { body = body }))) (rows_in first size before version table index docs s) ∙ put_over body d docs (rising first size before version table index docs s) has in
      let es : trees_in size s.wanted after their ≡ trees_in size s.wanted before their = at_other _ its their _ (λ e. away (sym e)) put.trees in
      changed first size before version table index docs s after put.db put.roots put.listed (with_body_at d.place body docs) rows
      (subst (λ l. IsPermutation l (trees_in size s.wanted after their)) (sym (entries_kept d.place body docs)) (subst (λ l. IsPermutation (entries_of docs) l) (sym es) (entries_in first size before version table index docs s)))
      (rising_replaced d.place body docs (rising first size before version table index docs s)) (apart_replaced d.place body)

  pub removed : (d : TableRow) (mid after : PageMap) → IsIn d docs → Edits size s.wanted before mid its (without_rowid d.place) → Edits size s.wanted mid after their (remove_entry plain (entry_for d))
      → HasStore first size after version table index (without_place d.place docs)
  removed d mid after has out lost =
      let away = two_trees first size before version table index docs s in
      let rows : trees_in size s.wanted after its ≡ map columns_of (without_place d.place docs) =
      at_other _ their its _ away lost.trees ∙ at_it _ its _ out.trees ∙ ap (without_rowid d.place) (rows_in first size before version table index docs s) ∙ without_is d.place docs in
      let was : trees_in size s.wanted mid their ≡ trees_in size s.wanted before their = at_other _ its their _ (λ e. away (sym e)) out.trees in
      let es : trees_in size s.wanted after their ≡ remove_entry plain (entry_for d) (trees_in size s.wanted before their) = at_it _ their _ lost.trees ∙ ap (remove_entry plain (entry_for d)) was in
      changed first size before version table index docs s after lost.db (lost.roots ∙ out.roots) (lost.listed ∙ out.listed) (without_place d.place docs) rows
      (subst (λ l. IsPermutation (entries_of (without_place d.place docs)) l) (sym es) (entry_removed d docs _ (rising first size before version table index docs s) has (entries_in first size before version table index docs s)))
      (rising_without d.place docs (rising first size before version table index docs s))
      (λ x y has_x has_y. apart first size before version table index docs s x y (in_without d.place x docs has_x) (in_without d.place y docs has_y))
