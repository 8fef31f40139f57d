-- The names of the collections.
use Rattle.std.proofs.Common.{◌≡◌, ℕ, List, [], ◌∷◌, ◌++◌, map, Bool, true, false, ◌||◌, cond, None, Ok, Err, IsTrue, String, Vec, Global, refl, ap, ◌∙◌, sym, subst, append_assoc, append-nil}
use Rattle.std.specs.Prelude.{Result, IfOk, IfErr, IsUtf8, bytes_eq, string_bytes}
use Rattle.std.specs.BTreeSet.{BTreeSet}
use Rattle.std.specs.Cmp.Lexicographic.{slice_cmp}
use Rattle.std.specs.List.{AllByRecursion, list_any}
use Rattle.std.specs.List.Sorted.{IsStrictlySortedBy}
use Rattle.std.specs.Ordering.{nat_cmp}
use Rattle.std.specs.declared.cmp.Ordering.{Ordering}
use Rattle.std.specs.declared.cmp.Ordering.TheVariants.{Less}
use Rattle.store_table.specs.Moves.{Lists}
use Rattle.store_table.specs.Names.{has_name}
use Rattle.store_table.specs.Rows.{TableRow, is_in}
use Rattle.store_table.specs.declared.fault.Fault.{Fault}
use Rattle.store_table.specs.declared.fault.Fault.TheVariants as faults
use Rattle.store_model.specs.State.{AllAfter, AreAscending, collections, holds, refused}
use Rattle.store_model.specs.Table.{DocumentTable, documents_of}
use Rattle.store_model.specs.declared.error.ErrorKind.TheVariants.{Memory}
use Rattle.store_model.proofs.RowLemmas.{list_of-state_of}
use Rattle.bson_store.specs.Calls.{Does}
use Rattle.bson_store.specs.Export.{bytes_of_each}
use Rattle.bson_store.specs.Questions.{as_names}
use Rattle.bson_store.specs.Refusals.{kind_of_fault, reply_by}
use Rattle.store_model.specs.Refusal.{refusal}
use Rattle.bson_store.specs.Shown.{AreRowsOf}
use Rattle.store_model.specs.declared.error.StoreError.{StoreError}
use Rattle.bson_store.proofs.ServeLemmas.{denied, memory_other, stays}
use Rattle.bson_base.proofs.MemberLemmas.{equal_keys, same_key}

abbrev pub Name : Type 0
Name = Vec ℕ Global

abbrev pub name_cmp : Name → Name → Ordering
name_cmp x y = slice_cmp nat_cmp x.items y.items

-- ---- the names of a set in its order

all_after : (x : Name) (xs : List Name) → AllByRecursion (λ y. name_cmp x y ≡ Less) xs → AllAfter x.items (bytes_of_each xs)
all_after x [] h = tt
all_after x (y ∷ xs) h = (h.0, all_after x xs h.1)

pub in_order : (xs : List Name) → IsStrictlySortedBy name_cmp xs → AreAscending (bytes_of_each xs)
unfolding IsStrictlySortedBy
in_order [] h = tt
in_order (x ∷ xs) h = (all_after x xs h.0, in_order xs h.1)

bytes_of-append : (xs ys : List Name) → bytes_of_each (xs ++ ys) ≡ bytes_of_each xs ++ bytes_of_each ys
bytes_of-append [] ys = refl
bytes_of-append (x ∷ xs) ys = ap (λ l. x.items ∷ l) (bytes_of-append xs ys)

named_among : (front : List Name) (x : Name) (back : List Name) → IsTrue (has_name (front ++ x ∷ back) x.items)
named_among [] x back = by (bytes_eq x.items x.items) (same_key x.items)
  where
    by : (b : Bool) → b ≡ true → IsTrue (b || has_name back x.items)
    by true e = refl
    by false e = cc
named_among (y ∷ front) x back = by (bytes_eq x.items y.items) (named_among front x back)
  where
    by : (b : Bool) → IsTrue (has_name (front ++ x ∷ back) x.items) → IsTrue (b || has_name (front ++ x ∷ back) x.items)
    by true h = refl
    by false h = h

-- the names that were taken come before those that are left
pub record SoFar (all left : List Name) (texts : List (String Global)) : Type 0 where
  pub front : List Name
  pub split : all ≡ front ++ left
  pub same : map string_bytes texts ≡ bytes_of_each front

pub so_far_start : (all left : List Name) (texts : List (String Global)) → left ≡ all → texts ≡ [] → SoFar all left texts
so_far_start all left texts is none = record { front = []; split = sym is; same = ap (map string_bytes) none }

pub so_far_more : (all left rest : List Name) (x : Name) (texts more : List (String Global)) → left ≡ x ∷ rest → map string_bytes more ≡ map string_bytes texts ++ x.items ∷ [] → SoFar all left texts → SoFar all rest more
so_far_more all left rest x texts more is put h = record {
  front = h.front ++ x ∷ [];
  split = h.split ∙ ap (λ l. h.front ++ l) is ∙ sym (append_assoc h.front (x ∷ []) rest);
  same = put ∙ ap (λ l. l ++ x.items ∷ []) h.same ∙ sym (bytes_of-append h.front (x ∷ []));
}

pub so_far_all : (all left : List Name) (texts : List (String Global)) → left ≡ [] → SoFar all left texts → map string_bytes texts ≡ bytes_of_each all
so_far_all all left texts none h = h.same ∙ ap bytes_of_each (sym (append-nil h.front) ∙ ap (λ l. h.front ++ l) (sym none) ∙ sym h.split)

pub so_far_utf8 : (all left rest : List Name) (x : Name) (texts : List (String Global)) → left ≡ x ∷ rest → SoFar all left texts → ((n : List ℕ) → IsTrue (has_name all n) → IsUtf8 n) → IsUtf8 x.items
so_far_utf8 all left rest x texts is h texts_all = texts_all x.items (subst (λ l. IsTrue (has_name l x.items)) (sym (h.split ∙ ap (λ l. h.front ++ l) is)) (named_among h.front x rest))

-- ---- the names that hold a document

pub has_bytes : (n : List ℕ) (xs : List Name) → list_any (bytes_eq n) (bytes_of_each xs) ≡ has_name xs n
has_bytes n [] = refl
has_bytes n (x ∷ xs) = ap (λ b. bytes_eq n x.items || b) (has_bytes n xs)

pub holds_is : (n : List ℕ) (a : DocumentTable) (docs : List TableRow) → AreRowsOf a docs → list_any (is_in n) docs ≡ holds (documents_of a n)
holds_is n [] [] each = refl
holds_is n [] (d ∷ docs) each = absurd each
holds_is n (r ∷ rs) [] each = absurd each
holds_is n (r ∷ rs) (d ∷ docs) each = by (bytes_eq d.coll n) refl (bytes_eq n r.name) refl (holds_is n rs docs each.1)
  where
    by : (c : Bool) → bytes_eq d.coll n ≡ c → (b : Bool) → bytes_eq n r.name ≡ b → list_any (is_in n) docs ≡ holds (documents_of rs n)
        → (c || list_any (is_in n) docs) ≡ holds (cond b (r.document ∷ documents_of rs n) (documents_of rs n))
    by true i true e rest = refl
    by false i false e rest = rest
    by false i true e rest = let t : bytes_eq d.coll n ≡ true = rw (each.0.name, equal_keys n r.name e) (same_key r.name) in cc
    by true i false e rest = let t : bytes_eq n r.name ≡ true = rw (← each.0.name, equal_keys d.coll n i) (same_key n) in cc

-- each is a text
pub texts_in : (n : List ℕ) (a : DocumentTable) (docs : List TableRow) → AreRowsOf a docs → IsTrue (list_any (is_in n) docs) → IsUtf8 n
texts_in n [] [] each h = cc
texts_in n [] (d ∷ docs) each h = absurd each
texts_in n (r ∷ rs) [] each h = absurd each
texts_in n (r ∷ rs) (d ∷ docs) each h = by (bytes_eq d.coll n) refl h (texts_in n rs docs each.1)
  where
    by : (c : Bool) → bytes_eq d.coll n ≡ c → IsTrue (c || list_any (is_in n) docs) → (IsTrue (list_any (is_in n) docs) → IsUtf8 n) → IsUtf8 n
    by true i h rest = subst IsUtf8 (sym each.0.name ∙ equal_keys d.coll n i) each.0.text
    by false i h rest = rest h

-- ---- exits

listed_in : (docs : List TableRow) (ns : List (List ℕ)) → AreAscending ns → ((n : List ℕ) → list_any (bytes_eq n) ns ≡ list_any (is_in n) docs) → Does collections (Rattle.store_model.specs.State.names ns) docs docs
listed_in docs ns asc each a s = (
  a,
  s,
  (None, (((ns, record { ascending = asc; each = λ n. each n ∙ holds_is n a docs s.each ∙ ap holds (sym (list_of-state_of a n)) }, refl), refl), stays a, tt)),
)

untold_in : (docs : List TableRow) (e : StoreError) → (((n : List ℕ) → IsTrue (list_any (is_in n) docs) → IsUtf8 n) → e ≡ refusal Memory) → Does collections (refused e.kind e.document) docs docs
untold_in docs e h a s = rw (h (λ n t. texts_in n a docs s.each t)) (denied docs collections faults.Memory memory_other (λ d. d) a s)

pub told : (docs after : List TableRow) (set : BTreeSet Name) (r : Result (Vec (String Global) Global) StoreError) → IfOk r (λ v. map string_bytes v.items ≡ bytes_of_each set.keys) → IfOk r (λ v. AreAscending (map string_bytes v.items))
    → (((n : List ℕ) → IsTrue (has_name set.keys n) → IsUtf8 n) → IfErr r (λ e. e ≡ refusal Memory)) → Lists (Ok set) docs after → Does collections (reply_by as_names r) docs after
told docs after set (Ok v) same asc refuses h = rw h.same (listed_in docs (map string_bytes v.items) asc (λ n. ap (list_any (bytes_eq n)) same ∙ has_bytes n set.keys ∙ h.names n))
told docs after set (Err e) same asc refuses h = rw h.same (untold_in docs e (λ texts. refuses (λ n t. texts n (subst IsTrue (h.names n) t))))

pub unlisted : (docs after : List TableRow) (x : Fault) → Lists (Err x) docs after → Does collections (refused (kind_of_fault x) None) docs after
unlisted docs after x h = rw h.same (denied docs collections x h.faults (λ d. d))
