-- What the store's pages say of documents.
use Rattle.std.proofs.Common.{◌≡◌, inl, inr, ℕ, suc, true, bytes_eq, List, [], ◌∷◌, map, find, option_map, refl, sym, ap, subst, subst₂, ◌∙◌}
use Rattle.std.proofs.lemmas.Bool.{cases_Bool, cond-true, cond-false, and_parts}
use Rattle.std.proofs.lemmas.Slice.Eq.{bytes_eq-Decides}
use Rattle.std.proofs.lemmas.List.Sorted.{IsPermutation-sym}
use Rattle.std.specs.List.Sorted.{IsPermutation}
use Rattle.sqlite_pages.specs.PageMap.{PageMap}
use Rattle.sqlite_value.specs.Keys.{plain}
use Rattle.sqlite_record.specs.Record.{decode}
use Rattle.sqlite_btree.specs.Cut.{IsIn}
use Rattle.sqlite_btree.specs.Stored.{IsTable, IsIndex}
use Rattle.sqlite_store.specs.Db.{record_order}
use Rattle.sqlite.specs.Effect.{Database}
use Rattle.store_table.specs.Rows.{TableRow, is_row_named}
use Rattle.store_table.specs.Documents.{AreDocuments, Doc, entry_of, is_named, named_in}
use Rattle.store_table.proofs.DocumentLemmas.{in_map, out_of_map}
use Rattle.store_table.specs.Bridge.{as_doc}
use Rattle.store_table.proofs.PageTreeLemmas.{same_rows, entries_are, moved_in, one_place}
use Rattle.store_table.specs.Store.{HasStore}
use Rattle.store_table.proofs.StoreLemmas as store

named_parts : (c k : List ℕ) (d : Doc) → is_named c k d ≡ true → (d.coll ≡ c) × (d.idkey ≡ k)
named_parts c k d h =
    let parts = and_parts (bytes_eq d.coll c) (bytes_eq d.idkey k) h in
    ((bytes_eq-Decides d.coll c).0 parts.0, (bytes_eq-Decides d.idkey k).0 parts.1)

module _ (first : Database) (size : ℕ) (pages : PageMap) (version table index : ℕ) (docs : List TableRow) (s : HasStore first size pages version table index docs) where
  one_of_name : (coll idkey : List ℕ) (d e : Doc) → IsIn d (map as_doc docs) → IsIn e (map as_doc docs) → is_named coll idkey d ≡ true → is_named coll idkey e ≡ true → e ≡ d
  one_of_name coll idkey d e d_there e_there d_named e_named =
      let r = out_of_map as_doc d docs d_there in
      let q = out_of_map as_doc e docs e_there in
      let p = named_parts coll idkey d d_named in
      let n = named_parts coll idkey e e_named in
      let c : r.0.coll ≡ q.0.coll = ap (λ (x : Doc). x.coll) (sym r.2) ∙ p.0 ∙ sym n.0 ∙ ap (λ (x : Doc). x.coll) q.2 in
      let k : r.0.idkey ≡ q.0.idkey = ap (λ (x : Doc). x.idkey) (sym r.2) ∙ p.1 ∙ sym n.1 ∙ ap (λ (x : Doc). x.idkey) q.2 in
      let at = store.apart first size pages version table index docs s r.0 q.0 r.1 q.1 c k in
      q.2 ∙ ap as_doc (one_place docs r.0 q.0 (store.rising first size pages version table index docs s) r.1 q.1 at) ∙ sym r.2

  pub are_documents : AreDocuments size pages table index (map as_doc docs)
  are_documents =
      let its = store.its first size pages version table index docs s in
      let their = store.their first size pages version table index docs s in
      let entries : IsPermutation (map entry_of (map as_doc docs)) (map decode their.records) =
      subst₂ (λ x y. IsPermutation x y) (entries_are docs) their.shows (store.entries first size pages version table index docs s) in
      record {
        rows = its.rows;
        table_layout = s.db.layouts (suc (store.tree first size pages version table index docs s));
        table_laid = its.laid;
        tabled = subst (λ n. IsTable size (s.db.layouts (suc (store.tree first size pages version table index docs s))) n its.rows) (store.table_root first size pages version table index docs s) its.table;
        shows = same_rows docs its.rows (sym (store.are_rows first size pages version table index docs s) ∙ its.shows);
        records = their.records;
        index_layout = s.db.layouts (suc (store.index_tree first size pages version table index docs s));
        index_laid = their.laid;
        indexed = subst (λ n. IsIndex (record_order plain) size (s.db.layouts (suc (store.index_tree first size pages version table index docs s))) n their.records) (store.index_root first size pages version table index docs s) their.index;
        listed = λ d there. moved_in (map entry_of (map as_doc docs)) (map decode their.records) (entry_of d) entries (in_map entry_of d (map as_doc docs) there);
        leads = λ e there. out_of_map entry_of e (map as_doc docs) (moved_in (map decode their.records) (map entry_of (map as_doc docs)) e (IsPermutation-sym (map entry_of (map as_doc docs)) (map decode their.records) entries) there);
        apart = one_of_name;
      }

pub places_alike : (coll idkey : List ℕ) (docs : List TableRow) → option_map (λ (d : Doc). d.place) (named_in coll idkey (map as_doc docs)) ≡ option_map (λ (d : TableRow). d.place) (find (is_row_named coll idkey) docs)
places_alike coll idkey [] = refl
places_alike coll idkey (d ∷ docs) = elim (cases_Bool (is_row_named coll idkey d)) [
  | inl met ↦ ap (option_map (λ (x : Doc). x.place)) (cond-true _ _ _ met) ∙ sym (ap (option_map (λ (x : TableRow). x.place)) (cond-true _ _ _ met))
  | inr missed ↦ ap (option_map (λ (x : Doc). x.place)) (cond-false _ _ _ missed) ∙ places_alike coll idkey docs ∙ sym (ap (option_map (λ (x : TableRow). x.place)) (cond-false _ _ _ missed))
]
