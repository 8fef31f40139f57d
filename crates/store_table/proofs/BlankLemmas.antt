-- A table that is made beside others is there, without a row.
use Rattle.std.proofs.Common.{◌≡◌, ◌⊎◌, inl, inr, ◌<◌, ◌≤◌, ◌^◌, ◌+◌, ◌++◌, ◌∷◌, [], ℕ, zero, suc, max, fold, List, true, false, ◌==◌, nat_le, length, find, slice_get, filter, Option, None, Some, option_map, option_and_then, Ok, Err, Result, OnOk, refl, sym, ap, subst, ◌∙◌, arith, eq-eqb, codes}
use Rattle.std.specs.List.{AllByRecursion, AllZip, position_from}
use Rattle.std.specs.List.Sorted.{IsPermutation}
use Rattle.std.proofs.lemmas.List.Sorted.{IsPermutation-refl}
use Rattle.std.proofs.lemmas.Bool.{cases_Bool}
use Rattle.std.proofs.lemmas.Bool.Decides.{nat_tests}
use Rattle.sqlite.specs.Order.{Row}
use Rattle.sqlite_value.specs.declared.keys.Order.{Order}
use Rattle.sqlite.specs.Schema.{Schema}
use Rattle.sqlite.specs.Table.{Table}
use Rattle.sqlite_schema.specs.declared.schema.Index.{Index}
use Rattle.sqlite_schema.specs.declared.schema.Reference.{Reference}
use Rattle.sqlite_schema.specs.Names.{same_name}
use Rattle.sqlite_schema.specs.Rules.{parent_key, key_in, key_places, declared_order}
use Rattle.sqlite_resolve.specs.Compile.{table_defined_by}
use Rattle.sqlite_resolve.specs.Lowering.{Checked}
use Rattle.sqlite_catalog.specs.Change.{created, next_tree, past_views}
use Rattle.sqlite_catalog.specs.Listing.{IsTableRow, is_table_row}
use Rattle.sqlite_trees.specs.Objects.{catalog_tree}
use Rattle.sqlite.specs.Does.{lacks_sequence, sequence_text}
use Rattle.sqlite.specs.Effect.{Database}
use Rattle.sqlite.specs.State.{State}
use Rattle.sqlite.specs.declared.error.Error.{Error}
use Rattle.sqlite_tied.specs.Compute.{everything}
use Rattle.store_table.specs.Schema.{documents, documents_at, is_key_in, HasDocuments, IsFree}
use Rattle.store_table.specs.Beside.{AddsCounts, AddsTable, StandsBeside}
use Rattle.store_table.specs.Rows.{RowsIn, HoldsRows, IsBlank}
use Rattle.store_table.proofs.StatementLemmas.{lists_own, unseen}

-- ---- lists

all_weaker : {X : Type 0} (P Q : X → Type 0) → ((x : X) → P x → Q x) → (xs : List X) → AllByRecursion P xs → AllByRecursion Q xs
all_weaker P Q f [] h = tt
all_weaker P Q f (x ∷ xs) h = (f x h.0, all_weaker P Q f xs h.1)

all_both : {X : Type 0} (P : X → Type 0) (xs ys : List X) → AllByRecursion P xs → AllByRecursion P ys → AllByRecursion P (xs ++ ys)
all_both P [] ys h k = k
all_both P (x ∷ xs) ys h k = (h.0, all_both P xs ys h.1 k)

pub all_at : {X : Type 0} (P : X → Type 0) (xs : List X) (at : ℕ) (x : X) → AllByRecursion P xs → slice_get xs at ≡ Some x → P x
all_at P [] at x h is = absurd (cc)
all_at P (y ∷ xs) zero x h is = let same : y ≡ x = cc in subst P same h.0
all_at P (y ∷ xs) (suc at) x h is = all_at P xs at x h.1 is

got_at : (before after : List Table) (t : Table) → slice_get (before ++ t ∷ after) (length before) ≡ Some t
got_at [] after t = refl
got_at (x ∷ before) after t = got_at before after t

named_first : (name : List ℕ) (before after : List Table) (t : Table) (at : ℕ) → position_from (λ (x : Table). same_name x.name name) at before ≡ None → same_name t.name name ≡ true
    → position_from (λ (x : Table). same_name x.name name) at (before ++ t ∷ after) ≡ Some (at + length before)
named_first name [] after t at none is = rw is (ap Some (omega arith))
named_first name (x ∷ before) after t at none is = elim (cases_Bool (same_name x.name name)) [
  | inl hit ↦ absurd (let e = rw hit at none in cc)
  | inr miss ↦ rw miss (named_first name before after t (at + 1) (rw miss at none) is ∙ ap Some (omega arith))
]

found_by : (tree : ℕ) (before after : List Table) (t : Table) → AllByRecursion (λ (x : Table). (x.tree == tree) ≡ false) before → (t.tree == tree) ≡ true → find (λ (x : Table). x.tree == tree) (before ++ t ∷ after) ≡ Some t
found_by tree [] after t none is = rw is refl
found_by tree (x ∷ before) after t none is = rw none.0 (found_by tree before after t none.1 is)

-- ---- trees

abbrev over_tables : ℕ → List Table → ℕ
over_tables = fold (λ n (t : Table). max n (t.tree + 1))

abbrev over_indexes : ℕ → List Index → ℕ
over_indexes = fold (λ n (i : Index). max n (i.tree + 1))

tables_grow : (n : ℕ) (ts : List Table) → n ≤ over_tables n ts
tables_grow n [] = omega arith
tables_grow n (t ∷ ts) = let more = tables_grow (max n (t.tree + 1)) ts in omega (arith, more)

indexes_grow : (n : ℕ) (xs : List Index) → n ≤ over_indexes n xs
indexes_grow n [] = omega arith
indexes_grow n (i ∷ xs) = let more = indexes_grow (max n (i.tree + 1)) xs in omega (arith, more)

tables_below : (n : ℕ) (ts : List Table) → AllByRecursion (λ (t : Table). t.tree < over_tables n ts) ts
tables_below n [] = tt
tables_below n (t ∷ ts) = let more = tables_grow (max n (t.tree + 1)) ts in (omega (arith, more), tables_below (max n (t.tree + 1)) ts)

next_above : (s : Schema) → AllByRecursion (λ (t : Table). t.tree < next_tree s) s.tables
next_above s =
    let grown = indexes_grow (over_tables (past_views s) s.tables) s.indexes in
    all_weaker (λ (t : Table). t.tree < over_tables (past_views s) s.tables) (λ (t : Table). t.tree < next_tree s) (λ t low. omega (arith, low, grown)) s.tables (tables_below (past_views s) s.tables)

other_tree : (a b : ℕ) → a < b → (a == b) ≡ false
other_tree a b low = grind (arith, nat_tests)

higher_tree : (a b : ℕ) → a < b → (b == a) ≡ false
higher_tree a b low = grind (arith, nat_tests)

-- ---- references

key_elsewhere : (tree : ℕ) (t : Table) (places : Option (List ℕ)) → (t.tree == tree) ≡ false → is_key_in tree (option_and_then (key_in t) places) ≡ false
key_elsewhere tree t None other = refl
key_elsewhere tree t (Some places) other = go (declared_order t places)
  where
    go : (o : Option Order) → is_key_in tree (option_map (λ o. (t.tree, places, o)) o) ≡ false
    go None = refl
    go (Some o) = other

-- a table of another name or another tree isn't the parent
abbrev Misses : ℕ → List ℕ → Table → Type 0
Misses tree name t = ((t.tree == tree) ≡ false) ⊎ (same_name t.name name ≡ false)

no_parent : (tree : ℕ) (name columns : List ℕ) (ref : Reference) (ts : List Table) → AllByRecursion (Misses tree ref.parent) ts → is_key_in tree (parent_key ts ref) ≡ false
no_parent tree name columns ref [] h = refl
no_parent tree name columns ref (t ∷ ts) h = elim (cases_Bool (same_name t.name ref.parent)) [
  | inl hit ↦ elim h.0 [ inl other ↦ rw hit (key_elsewhere tree t (key_places t ref.parent_columns) other) | inr miss ↦ absurd (let e = rw hit at miss in cc) ]
  | inr miss ↦ rw miss (no_parent tree name columns ref ts h.1)
]

-- ---- what is added

abbrev references_of : Checked Table → List Reference
references_of (Ok t) = t.references
references_of (Err e) = []

counts_refer : (counts : Table) → table_defined_by sequence_text ≡ Ok counts → counts.references ≡ []
unfolding everything
counts_refer counts is = sym (ap references_of is)

-- no table after that of documents has its tree, or refers to another
pub record AreApart (tree : ℕ) (rest : List Table) : Type 0 where
  pub trees : AllByRecursion (λ (t : Table). (t.tree == tree) ≡ false) rest
  pub references : AllByRecursion (λ (t : Table). t.references ≡ []) rest

added : (s after : Schema) → AddsCounts (created s documents) after → (rest : List Table) × (after.tables ≡ s.tables ++ documents_at (next_tree s) ∷ rest) × AreApart (next_tree s) rest
added s after h = elim (cases_Bool (lacks_sequence (created s documents))) [
  | inl lacks ↦
      let made = rw lacks at h in
      let table : Table = record made.0 { tree = next_tree (created s documents) } in
      let both = next_above (created s documents) in
      let low : next_tree s < next_tree (created s documents) = all_at (λ (t : Table). t.tree < next_tree (created s documents)) (created s documents).tables (length s.tables) (documents_at (next_tree s)) both (got_at s.tables [] (documents_at (next_tree s))) in
      let far : (next_tree (created s documents) == next_tree s) ≡ false = higher_tree (next_tree s) (next_tree (created s documents)) low in
      (table ∷ [], ap (λ (x : Schema). x.tables) made.2 ∙ joined s.tables (documents_at (next_tree s)) table, record { trees = (far, tt); references = (counts_refer made.0 made.1, tt) })
  | inr has ↦ ([], ap (λ (x : Schema). x.tables) (rw has at h), record { trees = tt; references = tt })
]
  where
    joined : (xs : List Table) (t u : Table) → (xs ++ t ∷ []) ++ u ∷ [] ≡ xs ++ t ∷ u ∷ []
    joined [] t u = refl
    joined (x ∷ xs) t u = ap (λ ts. x ∷ ts) (joined xs t u)

-- ---- the table is there

low_trees : (rs : List Row) (ts : List Table) → AllZip IsTableRow rs ts → AllByRecursion (λ (t : Table). t.tree < 65536) ts
low_trees [] [] h = tt
low_trees [] (t ∷ ts) h = absurd h
low_trees (r ∷ rs) [] h = absurd h
low_trees (r ∷ rs) (t ∷ ts) h = (h.0.described.low, low_trees rs ts h.1)

is_stored : (tree : ℕ) → tree < 65536 → nat_le (2 ^ 31) tree ≡ false
is_stored tree low = grind (arith, nat_tests)

own_name : same_name (codes "documents") (codes "documents") ≡ true
unfolding everything
own_name = refl

none_refers : (tree : ℕ) (tables : List Table) (refs : List Reference) → AllByRecursion (λ (t : Table). ((t.tree == tree) ≡ false) ⊎ (t.name ≡ codes "documents")) tables
    → AllByRecursion (λ ref. same_name (codes "documents") ref.parent ≡ false) refs → AllByRecursion (λ ref. is_key_in tree (parent_key tables ref) ≡ false) refs
none_refers tree tables [] apart h = tt
none_refers tree tables (ref ∷ refs) apart h = (
  no_parent tree [] [] ref tables (all_weaker (λ (t : Table). ((t.tree == tree) ≡ false) ⊎ (t.name ≡ codes "documents")) (Misses tree ref.parent)
      (λ t way. elim way [ inl other ↦ inl other | inr is ↦ inr (ap (λ n. same_name n ref.parent) is ∙ h.0) ]) tables apart),
  none_refers tree tables refs apart h.1,
)

abbrev Unreferring : Table → Type 0
Unreferring t = AllByRecursion (λ ref. same_name (codes "documents") ref.parent ≡ false) t.references

pub stands_beside : (old after : Schema) → IsFree old.tables → AddsCounts (created old documents) after → AllByRecursion (λ (t : Table). t.tree < 65536) after.tables → HasDocuments after.tables (length old.tables) (next_tree old)
stands_beside old after free adds low =
    let tree = next_tree old in
    let it = added old after adds in
    let rest = it.0 in
    let doc = documents_at tree in
    let all = old.tables ++ doc ∷ rest in
    let own : (tree == tree) ≡ true = eq-eqb tree tree refl in
    let before = all_weaker (λ (t : Table). t.tree < tree) (λ (t : Table). (t.tree == tree) ≡ false) (λ t k. other_tree t.tree tree k) old.tables (next_above old) in
    let apart : AllByRecursion (λ (t : Table). ((t.tree == tree) ≡ false) ⊎ (t.name ≡ codes "documents")) all =
    all_both _ old.tables (doc ∷ rest) (all_weaker _ (λ (t : Table). ((t.tree == tree) ≡ false) ⊎ (t.name ≡ codes "documents")) (λ t k. inl k) old.tables before)
    (inr refl, all_weaker (λ (t : Table). (t.tree == tree) ≡ false) (λ (t : Table). ((t.tree == tree) ≡ false) ⊎ (t.name ≡ codes "documents")) (λ t k. inl k) rest it.2.trees) in
    let refer : AllByRecursion Unreferring all =
    all_both Unreferring old.tables (doc ∷ rest) free.unreferred
    (tt, all_weaker (λ (t : Table). t.references ≡ []) Unreferring (λ t none. subst (λ (refs : List Reference). AllByRecursion (λ ref. same_name (codes "documents") ref.parent ≡ false) refs) (sym none) tt) rest it.2.references) in
    subst (λ (ts : List Table). HasDocuments ts (length old.tables) tree) (sym it.1) (record {
      named = named_first (codes "documents") old.tables rest doc 0 free.unnamed own_name ∙ ap Some (omega arith);
      at = got_at old.tables rest doc;
      stored = is_stored tree (all_at (λ (t : Table). t.tree < 65536) all (length old.tables) doc (subst (λ (ts : List Table). AllByRecursion (λ (t : Table). t.tree < 65536) ts) it.1 low) (got_at old.tables rest doc));
      own = found_by tree old.tables rest doc before own;
      unreferred = all_weaker Unreferring (λ (t : Table). AllByRecursion (λ ref. is_key_in tree (parent_key all ref) ≡ false) t.references) (λ t none. none_refers tree all t.references apart none) all refer;
    })

-- the table that was made, with no row
pub rows_beside : (old new : Database) → IsFree old.schema.tables → AddsTable old new → RowsIn new []
rows_beside old new free h =
    let low = low_trees (filter is_table_row (new.trees catalog_tree)) new.schema.tables h.sound.lists.listed.tables in
    unseen (record {
      place = length old.schema.tables;
      tree = next_tree old.schema;
      listed = lists_own new h.sound;
      stands = stands_beside old.schema new.schema free h.schema low;
      rows = subst (λ rs. IsPermutation [] rs) (sym h.empty) (IsPermutation-refl []);
      rising = tt;
    })

-- what a connection shows
pub blank_shows : (old new : State) → IsBlank old → StandsBeside old new → HoldsRows new []
blank_shows old new h s = record { is_open = s.0.is_open; autocommit = s.0.mode; settled = sym s.0.committed_is; table = rows_beside old.now new.now h.free s.1 }

pub blank_ok : (old new : State) → IsBlank old → (r : Result ℕ Error) → OnOk r (StandsBeside old new) → OnOk r (HoldsRows new [])
blank_ok old new h (Ok n) s = blank_shows old new h s
blank_ok old new h (Err e) s = tt
