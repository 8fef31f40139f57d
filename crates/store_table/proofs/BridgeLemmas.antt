-- From a database to the table of documents and its index.
use Rattle.std.proofs.Common.{◌≡◌, ◌≢◌, ◌⊎◌, inl, inr, ℕ, ◌%◌, Bool, true, false, ◌||◌, List, [], ◌∷◌, map, length, take, slice_index, Option, Some, None, option_map, bytes_eq, refl, sym, ap, subst, subst₂, ◌∙◌, arith, take_all, ne_eqb}
use Rattle.std.proofs.Math.Path.{fun_ext}
use Rattle.std.proofs.lemmas.Bool.{and_parts, cases_Bool, cond-true, cond-false}
use Rattle.std.proofs.lemmas.Slice.Eq.{bytes_eq-Decides}
use Rattle.std.specs.List.{list_any}
use Rattle.std.specs.List.Sorted.{IsPermutation}
use Rattle.sqlite_pages.specs.PageMap.{PageMap}
use Rattle.sqlite_wal.specs.Recovery as raw
use Rattle.sqlite_wal.specs.Recovery.{Image, AreWhole}
use Rattle.sqlite_wal.proofs.RecoveryLemmas.{recovers_once}
use Rattle.sqlite_pool.specs.Stored.{stored_size, trimmed, Adopts}
use Rattle.sqlite_pool.specs.File.{in_use}
use Rattle.sqlite_value.specs.Keys.{plain}
use Rattle.sqlite_record.specs.Record.{decode}
use Rattle.sqlite_btree.specs.Cut.{IsIn}
use Rattle.sqlite_btree.proofs.ViewLemmas.{ascends_rows}
use Rattle.sqlite_trees.specs.Tree.{Trees}
use Rattle.sqlite_trees.specs.Objects.{catalog_tree}
use Rattle.sqlite_sql.specs.Catalog as catalog
use Rattle.sqlite_schema.specs.declared.schema.Constraint.TheVariants.{Unique}
use Rattle.sqlite_schema.specs.declared.schema.Schema.{Schema}
use Rattle.sqlite_rules.specs.Lists.{Has}
use Rattle.sqlite_rules.proofs.ListLemmas.{all_has, has_got}
use Rattle.sqlite_catalog.specs.Listing.{IsSound, IsGuarded, Lists, automatic}
use Rattle.sqlite_catalog.proofs.ReadLemmas.{lists_once}
use Rattle.sqlite_store.specs.declared.catalog.Wanted.{Wanted}
use Rattle.sqlite_store.specs.Db.{table_row, roots_of}
use Rattle.sqlite_store.specs.Listing.{file_trees, IsOurs}
use Rattle.sqlite.specs.Effect.{Database}
use Rattle.sqlite.specs.Opening.{HoldsIn}
use Rattle.store_table.specs.Schema.{documents_at, HasDocuments}
use Rattle.store_table.specs.Rows.{TableRow, is_in, is_row_named, columns_of, IsRising, ListsSchema}
use Rattle.store_table.proofs.StatementLemmas.{seen}
use Rattle.store_table.specs.Documents.{Doc, AreDocuments, entry_of, is_named}
use Rattle.store_table.proofs.DocumentLemmas.{in_map, out_of_map}
use Rattle.store_table.specs.Bridge.{as_doc, Bridges, Shows, FindsAlike, VisitsAlike, NamesAlike}
use Rattle.store_table.proofs.SizeLemmas.{no_sums, one_size}
use Rattle.store_table.proofs.PageLemmas.{TableIn, IndexIn, table_in, index_in}
use Rattle.store_table.proofs.PageTreeLemmas.{in_order, same_rows, entries_are, moved_in, one_place}
use Rattle.store_table.proofs.PageUniqueLemmas.{one_name}
use Rattle.store_table.proofs.FirstRowLemmas.{table_at, index_at}

to_has : {X : Type 0} (x : X) (xs : List X) → IsIn x xs → Has xs x
to_has x [] h = h
to_has x (y ∷ ys) (inl same) = inl same
to_has x (y ∷ ys) (inr there) = inr (to_has x ys there)

named_parts : (c k : List ℕ) (d : Doc) → is_named c k d ≡ true → (d.coll ≡ c) × (d.idkey ≡ k)
named_parts c k d h =
    let parts = and_parts (bytes_eq d.coll c) (bytes_eq d.idkey k) h in
    ((bytes_eq-Decides d.coll c).0 parts.0, (bytes_eq-Decides d.idkey k).0 parts.1)

lists_of : (first : Database) (trees : Trees) → ListsSchema (record { schema = first.schema; trees = trees }) → Lists (trees catalog_tree) first.schema
unfolding ListsSchema
lists_of first trees h = h

module _ (size : ℕ) (pages : PageMap) (wanted : List Wanted) (schema : Schema) (trees : Trees) (ours : IsOurs size true wanted pages)
    (reads : trees ≡ file_trees size wanted pages) (sound : IsSound schema trees) (docs : List TableRow) (place tree : ℕ)
    (stands : HasDocuments schema.tables place tree) (rows : IsPermutation (map columns_of docs) (trees tree)) (up : IsRising docs) where
  pub has_table : Has schema.tables (documents_at tree)
  has_table = has_got schema.tables place (documents_at tree) stands.at

  -- the index that UNIQUE has
  pub has_index : (t : ℕ) × Has schema.indexes (automatic (documents_at tree) 0 (2 ∷ 3 ∷ []) t)
  has_index = all_has (IsGuarded schema.indexes) schema.tables (documents_at tree) sound.lists.guarded has_table 0 (2 ∷ 3 ∷ []) refl

  its : TableIn size pages wanted schema trees ours reads sound tree
  its = table_in size pages wanted schema trees ours reads sound (documents_at tree) has_table refl

  their : IndexIn size pages wanted schema trees ours reads sound has_index.0
  their = index_in size pages wanted schema trees ours reads sound (documents_at tree) (automatic (documents_at tree) 0 (2 ∷ 3 ∷ []) has_index.0) has_table has_index.1 refl refl refl

  same : map columns_of docs ≡ map table_row its.rows
  same = in_order docs its.rows up (ascends_rows its.table) (subst (λ l. IsPermutation (map columns_of docs) l) its.shows rows)

  are_rows : map columns_of docs ≡ trees tree
  are_rows = same ∙ sym its.shows

  entries : IsPermutation (map entry_of (map as_doc docs)) (map decode their.records)
  entries =
      subst₂ (λ x y. IsPermutation x y) (ap (map (catalog.entry_of (2 ∷ 3 ∷ []))) (sym are_rows) ∙ entries_are docs) their.shows
      (all_has (λ i. catalog.IsIndexOf i.columns (trees i.table) (trees i.tree)) schema.indexes (automatic (documents_at tree) 0 (2 ∷ 3 ∷ []) has_index.0) sound.obeys.indexed has_index.1)

  has_row : (d : TableRow) → IsIn d docs → Has (trees tree) (columns_of d)
  has_row d there = subst (λ l. Has l (columns_of d)) are_rows (to_has (columns_of d) (map columns_of docs) (in_map columns_of d docs there))

  one_of_name : (coll idkey : List ℕ) (d e : Doc) → IsIn d (map as_doc docs) → IsIn e (map as_doc docs) → is_named coll idkey d ≡ true → is_named coll idkey e ≡ true → e ≡ d
  one_of_name coll idkey d e d_there e_there d_named e_named =
      let r = out_of_map as_doc d docs d_there in
      let s = out_of_map as_doc e docs e_there in
      let p = named_parts coll idkey d d_named in
      let q = named_parts coll idkey e e_named in
      let c : r.0.coll ≡ s.0.coll = ap (λ (x : Doc). x.coll) (sym r.2) ∙ p.0 ∙ sym q.0 ∙ ap (λ (x : Doc). x.coll) s.2 in
      let k : r.0.idkey ≡ s.0.idkey = ap (λ (x : Doc). x.idkey) (sym r.2) ∙ p.1 ∙ sym q.1 ∙ ap (λ (x : Doc). x.idkey) s.2 in
      let at = one_name schema trees tree has_index.0 r.0 s.0 (sound.obeys.rules Unique) has_table has_index.1 (has_row r.0 r.1) (has_row s.0 s.1) c k in
      s.2 ∙ ap as_doc (one_place docs r.0 s.0 up r.1 s.1 at) ∙ sym r.2

  -- at the roots that the schema names
  pub documents_in : AreDocuments size pages (slice_index (roots_of size wanted (in_use size pages)) tree) (slice_index (roots_of size wanted (in_use size pages)) has_index.0) (map as_doc docs)
  documents_in = record {
    rows = its.rows;
    table_layout = its.layout;
    table_laid = its.laid;
    tabled = its.table;
    shows = same_rows docs its.rows same;
    records = their.records;
    index_layout = their.layout;
    index_laid = their.laid;
    indexed = their.index;
    listed = λ d there. moved_in (map entry_of (map as_doc docs)) (map decode their.records) (entry_of d) entries (in_map entry_of d (map as_doc docs) there);
    leads = λ e there. out_of_map entry_of e (map as_doc docs) (moved_in (map decode their.records) (map entry_of (map as_doc docs)) e (Rattle.std.proofs.lemmas.List.Sorted.IsPermutation-sym (map entry_of (map as_doc docs)) (map decode their.records) entries) there);
    apart = one_of_name;
  }

-- pages without sums are used whole
plain_page : (size : ℕ) (o : Option (List ℕ)) → ((bytes : List ℕ) → o ≡ Some bytes → length bytes ≡ size) → option_map (take size) o ≡ o
plain_page size None h = refl
plain_page size (Some bytes) h = ap Some (take_all size bytes (omega (arith, h bytes refl)))

pub plain_pages : (size : ℕ) (image : Image) (pages found : PageMap) → size % 16 ≢ 8 → Adopts size image found → raw.Recovers size image pages → found ≡ pages
unfolding trimmed
plain_pages size image pages found plain was is =
    let all : stored_size size ≡ size = rw (ne_eqb _ 8 plain) (omega arith) in
    let here : raw.Recovers size image was.stored = subst (λ n. raw.Recovers n image was.stored) all was.found in
    let used : trimmed size was.stored ≡ was.stored = fun_ext λ n. plain_page size (was.stored n) (λ bytes at. was.whole.sized n bytes at ∙ all) in
    sym was.shows ∙ used ∙ recovers_once size image was.stored pages here is

-- the rows of the store are those of the pages
pub bridge : Bridges
bridge size image trees first docs pages table index holds shows plain is two =
    let here : holds.pages ≡ pages = plain_pages size image pages holds.pages plain holds.found is in
    let h = seen shows.table in
    let one : first.schema ≡ holds.schema = lists_once (trees catalog_tree) first.schema holds.schema (lists_of first trees h.listed) holds.sound.lists in
    let stands : HasDocuments holds.schema.tables h.place h.tree = subst (λ (s : Schema). HasDocuments s.tables h.place h.tree) one h.stands in
    let ours : IsOurs size true holds.wanted pages = subst (IsOurs size true holds.wanted) here holds.ours in
    let reads : trees ≡ file_trees size holds.wanted pages = holds.reads ∙ ap (file_trees size holds.wanted) here in
    let t = has_index size pages holds.wanted holds.schema trees ours reads holds.sound docs h.place h.tree stands h.rows h.rising in
    let are = documents_in size pages holds.wanted holds.schema trees ours reads holds.sound docs h.place h.tree stands h.rows h.rising in
    subst₂ (λ a b. AreDocuments size pages a b (map as_doc docs))
    (table_at size pages holds.wanted holds.schema trees ours reads holds.sound table index two (documents_at h.tree)
    (has_table size pages holds.wanted holds.schema trees ours reads holds.sound docs h.place h.tree stands h.rows h.rising))
    (index_at size pages holds.wanted holds.schema trees ours reads holds.sound table index two (automatic (documents_at h.tree) 0 (2 ∷ 3 ∷ []) t.0) t.1)
    are

pub all_shown : Shows
all_shown image trees first docs size pages table index held shows named is plain two =
    let one = one_size image trees held size named pages is plain in
    let here : HoldsIn size image trees = subst (λ n. HoldsIn n image trees) one held.2 in
    let sums : size % 16 ≢ 8 = subst (λ n. n % 16 ≢ 8) one (no_sums image trees held size named pages is plain) in
    bridge size image trees first docs pages table index here shows sums is two

pub finds_alike : FindsAlike
finds_alike coll idkey [] = refl
finds_alike coll idkey (d ∷ docs) = elim (cases_Bool (is_row_named coll idkey d)) [
  | inl met ↦ ap (option_map (λ (x : Doc). x.body)) (cond-true _ _ _ met) ∙ sym (ap (option_map (λ (x : TableRow). x.body)) (cond-true _ _ _ met))
  | inr not_met ↦ ap (option_map (λ (x : Doc). x.body)) (cond-false _ _ _ not_met) ∙ finds_alike coll idkey docs ∙ sym (ap (option_map (λ (x : TableRow). x.body)) (cond-false _ _ _ not_met))
]

pub visits_alike : VisitsAlike
visits_alike coll [] = refl
visits_alike coll (d ∷ docs) = elim (cases_Bool (is_in coll d)) [
  | inl met ↦ cond-true _ _ _ met ∙ ap (λ l. as_doc d ∷ l) (visits_alike coll docs) ∙ ap (map as_doc) (sym (cond-true _ _ _ met))
  | inr not_met ↦ cond-false _ _ _ not_met ∙ visits_alike coll docs ∙ ap (map as_doc) (sym (cond-false _ _ _ not_met))
]

or_left : (x y : Bool) → x ≡ true → (x || y) ≡ true
or_left true y h = refl
or_left false y h = absurd (cc)

or_right : (x y : Bool) → y ≡ true → (x || y) ≡ true
or_right true y h = refl
or_right false y h = h

either : (x y : Bool) → (x || y) ≡ true → (x ≡ true) ⊎ (y ≡ true)
either true y h = inl refl
either false y h = inr h

-- one of them passes a test
any_in : {X : Type 0} (test : X → Bool) (x : X) (xs : List X) → IsIn x xs → test x ≡ true → list_any test xs ≡ true
any_in test x [] there h = absurd there
any_in test x (y ∷ ys) (inl same) h = or_left (test y) _ (ap test (sym same) ∙ h)
any_in test x (y ∷ ys) (inr there) h = or_right (test y) _ (any_in test x ys there h)

one_in : {X : Type 0} (test : X → Bool) (xs : List X) → list_any test xs ≡ true → (x : X) × IsIn x xs × (test x ≡ true)
one_in test [] h = absurd (cc)
one_in test (y ∷ ys) h = elim (either (test y) _ h) [ inl here ↦ (y, inl refl, here) | inr later ↦ let r = one_in test ys later in (r.0, inr r.1, r.2) ]

same_truth : (a b : Bool) → (a ≡ true → b ≡ true) → (b ≡ true → a ≡ true) → a ≡ b
same_truth true b f h = sym (f refl)
same_truth false true f h = h refl
same_truth false false f h = refl

pub names_alike : NamesAlike
names_alike names docs are c = same_truth (list_any (bytes_eq c) names) (list_any (is_in c) docs)
    (λ h.
    let n = one_in (bytes_eq c) names h in
    let d = are.met n.0 n.1 in
    let r = out_of_map as_doc d.0 docs d.1 in
    any_in (is_in c) r.0 docs r.1 ((bytes_eq-Decides r.0.coll c).1 (sym (ap (λ (x : Doc). x.coll) r.2) ∙ d.2 ∙ sym ((bytes_eq-Decides c n.0).0 n.2))))
    (λ h.
    let d = one_in (is_in c) docs h in
    any_in (bytes_eq c) d.0.coll names (are.all (as_doc d.0) (in_map as_doc d.0 docs d.1)) ((bytes_eq-Decides c d.0.coll).1 (sym ((bytes_eq-Decides d.0.coll c).0 d.2))))
