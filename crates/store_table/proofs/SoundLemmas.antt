-- The table of documents obeys its rules, whatever documents it has, if no two have one name.
use Rattle.std.proofs.Common.{◌≡◌, inl, inr, ℕ, ℤ, true, false, not, ◌&&◌, Bool, List, [], ◌∷◌, map, refl, sym, subst, ◌∙◌, arith, true≢false}
use Rattle.std.specs.Ordering.{is_eq}
use Rattle.std.specs.List.Sorted.{IsPermutation}
use Rattle.std.proofs.lemmas.Bool.{and_parts}
use Rattle.std.proofs.lemmas.Int.{ints}
use Rattle.std.proofs.lemmas.Bool.Decides.{nat_tests}
use Rattle.std.proofs.lemmas.Slice.Eq.{bytes_eq-Decides}
use Rattle.sqlite_value.specs.declared.value.Value.TheVariants.{Int, Text, Blob}
use Rattle.sqlite_value.specs.Order.{value_cmp}
use Rattle.sqlite_value.specs.Keys.{plain}
use Rattle.sqlite_value.specs.declared.keys.Collation.TheVariants.{Binary}
use Rattle.sqlite_value.proofs.KeyLemmas.{first_key-plain}
use Rattle.sqlite_value.proofs.OrderLemmas.{value_cmp-Int}
use Rattle.sqlite_sql.specs.Ops.{binary}
use Rattle.sqlite_sql.specs.Catalog as catalog
use Rattle.sqlite_trees.specs.Tree.{Trees, rowid}
use Rattle.sqlite_schema.specs.declared.schema.Constraint.{Constraint}
use Rattle.sqlite_schema.specs.declared.schema.Constraint.TheVariants.{Datatype, NotNull, Check, PrimaryKey, Unique, ForeignKey}
use Rattle.sqlite_schema.specs.declared.schema.Table.{Table}
use Rattle.sqlite_schema.specs.declared.schema.Index.{Index}
use Rattle.sqlite_schema.specs.declared.schema.Schema.{Schema}
use Rattle.sqlite_schema.specs.Rules.{equal, differ, agree, clashes, guards, passes, Obeys}
use Rattle.sqlite_rules.specs.Lists.{Has}
use Rattle.sqlite_rules.proofs.ListLemmas.{all_from, test_from, some_has}
use Rattle.sqlite_rules.proofs.RuleLemmas.{keeps_from}
use Rattle.sqlite_btree.specs.Cut.{IsIn}
use Rattle.store_table.specs.Schema.{documents_at}
use Rattle.store_table.specs.Rows.{TableRow, columns_of}
use Rattle.store_table.proofs.ReadLemmas.{text_test, blob_test}
use Rattle.store_table.proofs.DocumentLemmas.{out_of_map}
use Rattle.store_table.proofs.UseLemmas.{own_index}

-- documents of one name have one place
abbrev pub AreApart : List TableRow → Type 0
AreApart docs = (d e : TableRow) → IsIn d docs → IsIn e docs → d.coll ≡ e.coll → d.idkey ≡ e.idkey → d.place ≡ e.place

pub of_has : {X : Type 0} (x : X) (xs : List X) → Has xs x → IsIn x xs
of_has x [] h = h
of_has x (y ∷ xs) (inl same) = inl same
of_has x (y ∷ xs) (inr there) = inr (of_has x xs there)

equal_text : (a b : List ℕ) → equal Binary (Text a) (Text b) ≡ true → a ≡ b
unfolding binary
equal_text a b h = (bytes_eq-Decides a b).0 (sym (text_test a b) ∙ go (is_eq (value_cmp (Text a) (Text b))) refl)
  where
    go : (t : Bool) → is_eq (value_cmp (Text a) (Text b)) ≡ t → t ≡ true
    go true e = refl
    go false e = absurd (let no = rw e at h in cc)

equal_blob : (a b : List ℕ) → equal Binary (Blob a) (Blob b) ≡ true → a ≡ b
unfolding binary
equal_blob a b h = (bytes_eq-Decides a b).0 (sym (blob_test a b) ∙ go (is_eq (value_cmp (Blob a) (Blob b))) refl)
  where
    go : (t : Bool) → is_eq (value_cmp (Blob a) (Blob b)) ≡ t → t ≡ true
    go true e = refl
    go false e = absurd (let no = rw e at h in cc)

same_place : (p q : ℤ) → p ≡ q → differ (Int p) (Int q) ≡ false
unfolding binary
same_place p q e = rw (e, value_cmp-Int q q) (grind (arith, ints, nat_tests))

one_key : (d e : TableRow) → agree plain (2 ∷ 3 ∷ []) (columns_of d) (2 ∷ 3 ∷ []) (columns_of e) ≡ true → (d.coll ≡ e.coll) × (d.idkey ≡ e.idkey)
one_key d e h =
    let parts = and_parts _ _ (rw first_key-plain at h) in
    (equal_text d.coll e.coll parts.0, equal_blob d.idkey e.idkey (and_parts _ _ parts.1).0)

both_or : (a b : Bool) → (a ≡ true → b ≡ true → ⊥) → not (a && b) ≡ true
both_or true true h = absurd (h refl refl)
both_or true false h = refl
both_or false b h = refl

module _ (schema : Schema) (tree index : ℕ) (tables : (t : Table) → Has schema.tables t → t ≡ documents_at tree)
    (indexes : (i : Index) → Has schema.indexes i → i ≡ own_index tree index) (next : Trees) (docs : List TableRow) (rows : next tree ≡ map columns_of docs) (apart : AreApart docs)
    (entries : IsPermutation (map (catalog.entry_of (2 ∷ 3 ∷ [])) (map columns_of docs)) (next index)) where
  no_clash : (d : TableRow) → IsIn d docs → clashes plain (2 ∷ 3 ∷ []) (next tree) (columns_of d) ≡ true → ⊥
  no_clash d there clash =
      let other = some_has _ _ (subst (λ l. clashes plain (2 ∷ 3 ∷ []) l (columns_of d) ≡ true) rows clash) in
      let e = out_of_map columns_of other.0 docs (of_has other.0 (map columns_of docs) other.1) in
      let parts = and_parts _ _ (subst (λ r. (agree plain (2 ∷ 3 ∷ []) r (2 ∷ 3 ∷ []) (columns_of d) && differ (rowid r) (rowid (columns_of d))) ≡ true) e.2 other.2) in
      let key = one_key e.0 d parts.0 in
      true≢false (sym parts.1 ∙ same_place e.0.place d.place (apart e.0 d e.1 there key.0 key.1))

  row_passes : (rule : Constraint) (d : TableRow) → IsIn d docs → passes rule schema next (documents_at tree) (columns_of d) ≡ true
  row_passes Datatype d there = refl
  row_passes NotNull d there = refl
  row_passes Check d there = refl
  row_passes PrimaryKey d there = refl
  row_passes Unique d there = test_from _ schema.indexes (λ i known.
      rw (indexes i known) (both_or (guards (own_index tree index) (documents_at tree)) (clashes plain (2 ∷ 3 ∷ []) (next tree) (columns_of d)) (λ _ clash. no_clash d there clash)))
  row_passes ForeignKey d there = refl

  pub obeys : Obeys schema next
  obeys = record {
    rules = λ rule. keeps_from rule schema next (λ t row listed there.
        let is = tables t listed in
        let here : Has (map columns_of docs) row = subst (λ l. Has l row) rows (subst (λ (u : Table). Has (next u.tree) row) is there) in
        let d = out_of_map columns_of row docs (of_has row (map columns_of docs) here) in
        rw (is, d.2) (row_passes rule d.0 d.1));
    indexed = all_from _ schema.indexes (λ i known.
        rw (indexes i known) (subst (λ l. IsPermutation (map (catalog.entry_of (2 ∷ 3 ∷ [])) l) (next index)) (sym rows) entries));
  }
