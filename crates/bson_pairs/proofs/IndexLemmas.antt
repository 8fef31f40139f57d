-- The index of distinct keys: how it is searched, and how it grows and shrinks.
use Rattle.std.proofs.Common.{◌≡◌, ◌&&◌, ◌||◌, IfSome, ℕ, zero, suc, ◌+◌, ◌-◌, ◌<◌, ◌≤◌, Bool, true, false, not, cond, T, List, [], ◌∷◌, ◌++◌, map, length, take, drop, insert, remove, get_or, slice_get, nat_lt, Option, Some, None, is_some, option_map, String, string_bytes, bytes_eq, position, refl, sym, ap, ◌∙◌, subst, arith, append_assoc, length-append, add-one, true≢false, rules}
use Rattle.std.specs.Cmp.{tied_itself}
use Rattle.std.specs.Cmp.Lexicographic.{nat_list_cmp_total, nat_list_eq_equiv}
use Rattle.std.specs.FinMap.{slice_cmp-IsAntisymmetric, nat_cmp-IsAntisymmetric}
use Rattle.std.specs.FinMap.Entries.{put as place, find, by_order, below_all, is_sorted, where_key, is_sorted-where_key, find-where_key, find-append, length-put, same_entries}
use Rattle.std.specs.List.{AllByRecursion, IsDistinct, list_any, position_from, take-map, drop-map}
use Rattle.std.specs.Map.{values_of}
use Rattle.std.specs.Ordering.{is_lt, is_eq, ordering_reverse, eq_by_cmp}
use Rattle.std.specs.declared.alloc.Global.{Global}
use Rattle.std.specs.declared.cmp.Ordering.{Ordering}
use Rattle.std.specs.declared.cmp.Ordering.TheVariants.{Less, Equal, Greater}
use Rattle.std.proofs.lemmas.Iterator.Adapters.{position_from-zero}
use Rattle.std.proofs.Math.ListN.{get_or-map, length-map}
use Rattle.std.proofs.Math.Seq.{take-append_seam}
use Rattle.std.proofs.lemmas.List.{map-append}
use Rattle.std.proofs.lemmas.List.Sorted.{IsPermutation-remove}
use Rattle.std.proofs.lemmas.Map.Keys.{IsDistinct-head, IsDistinct-tail, IsDistinct-push, IsDistinct-IsPermutation}
use Rattle.std.proofs.lemmas.Map.Text.{is_eq-slice_cmp}
use Rattle.std.proofs.lemmas.Option.{slice_get_within, slice_get-map, get_or_from_slice_get}
use Rattle.std.proofs.lemmas.Slice.Eq.{bytes_eq-Decides}
use Rattle.bson_pairs.specs.Ascending.{key_cmp, ascending, find-ascending, is_sorted-ascending, same_ascending}
use Rattle.bson_pairs.specs.Index.{numbered_from, index_of, places_of, is_key, place_without, IsIndexedAt, GoesAt}
use Rattle.bson_pairs.specs.Keyed.{Key, key_bytes, get}
use Rattle.bson_pairs.specs.Over.{over}

-- ---- the order of keys

and_first : (a b : Bool) → T (a && b) → T a
and_first true b h = tt
and_first false b h = h

and_second : (a b : Bool) → T (a && b) → T b
and_second true b h = h
and_second false b h = absurd h

less : (o : Ordering) → T (is_lt o) → o ≡ Less
less Less h = refl
less Equal h = absurd h
less Greater h = absurd h

pub same_key : (k l : Key) → key_cmp k l ≡ Equal → k ≡ l
same_key = slice_cmp-IsAntisymmetric nat_cmp-IsAntisymmetric

turned : (k l : Key) → key_cmp k l ≡ Less → key_cmp l k ≡ Greater
turned k l h = nat_list_cmp_total.antisymm l k ∙ ap ordering_reverse h

turned_back : (k l : Key) → key_cmp k l ≡ Greater → key_cmp l k ≡ Less
turned_back k l h = nat_list_cmp_total.antisymm l k ∙ ap ordering_reverse h

-- ---- what is in it

module _ {V : Type 0} (P : Key × V → Type 0) where
  all-place : (k : Key) (v : V) (es : List (Key × V)) → P (k, v) → AllByRecursion P es → AllByRecursion P (place key_cmp k v es)
  all-place k v [] p h = (p, tt)
  all-place k v (e ∷ es) p h =
      elim (key_cmp k e.0) as (λ o. key_cmp k e.0 ≡ o → AllByRecursion P (by_order o ((k, v) ∷ e ∷ es) ((e.0, v) ∷ es) (e ∷ place key_cmp k v es))) [
        | Less ↦ λ _. (p, h)
        | Equal ↦ λ t. (subst (λ l. P (l, v)) (same_key k e.0 t) p, h.1)
        | Greater ↦ λ _. (h.0, all-place k v es p h.1)
      ] refl

  pub all-ascending : (ps : List (Key × V)) → AllByRecursion P ps → AllByRecursion P (ascending ps)
  all-ascending [] h = tt
  all-ascending (p ∷ ps) h = all-place p.0 p.1 (ascending ps) h.0 (all-ascending ps h.1)

pub slice_get_seam : {A : Type 0} (xs : List A) (y : A) (ys : List A) → slice_get (xs ++ y ∷ ys) (length xs) ≡ Some y
slice_get_seam [] y ys = refl
slice_get_seam (x ∷ xs) y ys = slice_get_seam xs y ys

stands_from : (before ks : List Key) (n : ℕ) → n ≡ length before → AllByRecursion (λ e. slice_get (before ++ ks) e.1 ≡ Some e.0) (numbered_from n ks)
stands_from before [] n e = tt
stands_from before (k ∷ ks) n e =
    let later = stands_from (before ++ k ∷ []) ks (n + 1) (ap (λ m. m + 1) e ∙ sym (length-append before (k ∷ []))) in
    (ap (slice_get (before ++ k ∷ ks)) e ∙ slice_get_seam before k ks, subst (λ l. AllByRecursion (λ e. slice_get l e.1 ≡ Some e.0) (numbered_from (n + 1) ks)) (append_assoc before (k ∷ []) ks) later)

-- each entry has the key at its place
pub standing : (ks : List Key) → AllByRecursion (λ e. slice_get ks e.1 ≡ Some e.0) (index_of ks)
standing ks = all-ascending (λ e. slice_get ks e.1 ≡ Some e.0) (numbered_from 0 ks) (stands_from [] ks 0 refl)

all_at : {A : Type 0} (P : A → Type 0) (xs : List A) (j : ℕ) (x : A) → AllByRecursion P xs → slice_get xs j ≡ Some x → P x
all_at P [] j x h e = absurd (cc)
all_at P (y ∷ ys) zero x h e = let same : y ≡ x = cc in subst P same h.0
all_at P (y ∷ ys) (suc j) x h e = all_at P ys j x h.1 e

some_at : {A : Type 0} (xs : List A) (j : ℕ) → j < length xs → (x : A) × (slice_get xs j ≡ Some x)
some_at [] j h = absurd (omega arith)
some_at (x ∷ xs) zero h = (x, refl)
some_at (x ∷ xs) (suc j) h = some_at xs j (omega arith)

-- the places are those of keys
places_are : (ks : List Key) (es : List (Key × ℕ)) → AllByRecursion (λ e. slice_get ks e.1 ≡ Some e.0) es → AllByRecursion (λ i. i < length ks) (values_of es)
places_are ks [] h = tt
places_are ks (e ∷ es) h = (slice_get_within ks e.1 e.0 h.0, places_are ks es h.1)

pub places_within : (ks : List Key) → AllByRecursion (λ i. i < length ks) (places_of ks)
places_within ks = places_are ks (index_of ks) (standing ks)

length-places : (es : List (Key × ℕ)) → length (values_of es) ≡ length es
length-places [] = refl
length-places (e ∷ es) = ap suc (length-places es)

pub length-places_of : (ks : List Key) → length (places_of ks) ≡ length (index_of ks)
length-places_of ks = length-places (index_of ks)

-- what is read at j of the places
place_at : (ks : List Key) (order : List ℕ) (j : ℕ) → order ≡ places_of ks → j < length order
    → (k : Key) × (slice_get (index_of ks) j ≡ Some (k, get_or order j 0)) × (slice_get ks (get_or order j 0) ≡ Some k)
place_at ks order j is within =
    let es = index_of ks in
    let e = some_at es j (subst (λ n. j < n) (ap length is ∙ length-places es) within) in
    let same : e.0.1 ≡ get_or order j 0 = sym (get_or_from_slice_get (values_of es) j e.0.1 0 (slice_get-map (λ e. e.1) es j ∙ ap (option_map (λ e. e.1)) e.1)) ∙ ap (λ l. get_or l j 0) (sym is) in
    (e.0.0, subst (λ n. slice_get es j ≡ Some (e.0.0, n)) same e.1, subst (λ n. slice_get ks n ≡ Some e.0.0) same (all_at (λ e. slice_get ks e.1 ≡ Some e.0) es j e.0 (standing ks) e.1))

pub place_within : (ts : List (String Global)) (order : List ℕ) (j : ℕ) → order ≡ places_of (key_bytes ts) → j < length order → get_or order j 0 < length ts
place_within ts order j is within = subst (λ n. get_or order j 0 < n) (length-map ts string_bytes) (slice_get_within (key_bytes ts) (get_or order j 0) _ (place_at (key_bytes ts) order j is within).2)

-- a text that is read through the places is in the index there
pub read_at : (ts : List (String Global)) (order : List ℕ) (j : ℕ) (t : String Global) → order ≡ places_of (key_bytes ts) → j < length order → t ≡ get_or ts (get_or order j 0) t
    → slice_get (index_of (key_bytes ts)) j ≡ Some (string_bytes t, get_or order j 0)
read_at ts order j t is within read =
    let r = place_at (key_bytes ts) order j is within in
    let same : r.0 ≡ string_bytes t
    = sym (get_or_from_slice_get (key_bytes ts) (get_or order j 0) r.0 (string_bytes t) r.2) ∙ get_or-map string_bytes ts (get_or order j 0) t ∙ ap string_bytes (sym read) in
    subst (λ k. slice_get (index_of (key_bytes ts)) j ≡ Some (k, get_or order j 0)) same r.1

-- ---- a key's place

get-numbered : (k : Key) (n : ℕ) (ks : List Key) → get k (numbered_from n ks) ≡ position_from (bytes_eq k) n ks
get-numbered k n [] = refl
get-numbered k n (l ∷ ks) = ap (cond (bytes_eq k l) (Some n)) (get-numbered k (n + 1) ks)

from_texts : (k : Key) (n : ℕ) (ts : List (String Global)) → position_from (bytes_eq k) n (key_bytes ts) ≡ position_from (is_key k) n ts
from_texts k n [] = refl
from_texts k n (t ∷ ts) = ap (cond (bytes_eq k (string_bytes t)) (Some n)) (from_texts k (n + 1) ts)

pub position-key_bytes : (k : Key) (ts : List (String Global)) → position (bytes_eq k) (key_bytes ts) ≡ position (is_key k) ts
position-key_bytes k ts = position_from-zero (bytes_eq k) (key_bytes ts) ∙ from_texts k 0 ts ∙ sym (position_from-zero (is_key k) ts)

-- the index finds what a search of one text after the other finds
pub find-index : (k : Key) (ts : List (String Global)) → find key_cmp k (index_of (key_bytes ts)) ≡ position (is_key k) ts
find-index k ts = find-ascending k (numbered_from 0 (key_bytes ts)) ∙ get-numbered k 0 (key_bytes ts) ∙ from_texts k 0 ts ∙ sym (position_from-zero (is_key k) ts)

-- ---- a list in the order of its keys

module _ {V : Type 0} where
  all_above : (k : Key) (f : Key × V) (es : List (Key × V)) → key_cmp k f.0 ≡ Less → T (below_all key_cmp f.0 es) → AllByRecursion (λ e. key_cmp k e.0 ≡ Less) es
  all_above k f [] p h = tt
  all_above k f (e ∷ es) p h = (nat_list_cmp_total.trans k f.0 e.0 p (less _ (and_first _ _ h)), all_above k f es p (and_second _ _ h))

  below_at : (f : Key) (es : List (Key × V)) (j : ℕ) (e : Key × V) → T (below_all key_cmp f es) → slice_get es j ≡ Some e → key_cmp f e.0 ≡ Less
  below_at f [] j e h is = absurd (cc)
  below_at f (x ∷ es) zero e h is = let same : x ≡ e = cc in subst (λ x. key_cmp f x.0 ≡ Less) same (less _ (and_first _ _ h))
  below_at f (x ∷ es) (suc j) e h is = below_at f es j e (and_second _ _ h) is

  -- if the one at j is above k, so are those after it
  pub above_from : (k : Key) (es : List (Key × V)) (j : ℕ) (e : Key × V) → T (is_sorted key_cmp es) → slice_get es j ≡ Some e → key_cmp k e.0 ≡ Less → AllByRecursion (λ e. key_cmp k e.0 ≡ Less) (drop j es)
  above_from k [] j e h is p = absurd (cc)
  above_from k (x ∷ es) zero e h is p =
      let same : x ≡ e = cc in
      let q : key_cmp k x.0 ≡ Less = subst (λ x. key_cmp k x.0 ≡ Less) (sym same) p in
      (q, all_above k x es q (and_first _ _ h))
  above_from k (x ∷ es) (suc j) e h is p = above_from k es j e (and_second _ _ h) is p

  -- if the one at j is below k, so are those before it
  pub below_to : (k : Key) (es : List (Key × V)) (j : ℕ) (e : Key × V) → T (is_sorted key_cmp es) → slice_get es j ≡ Some e → key_cmp k e.0 ≡ Greater → AllByRecursion (λ e. key_cmp k e.0 ≡ Greater) (take (suc j) es)
  below_to k [] j e h is p = absurd (cc)
  below_to k (x ∷ es) zero e h is p = let same : x ≡ e = cc in (subst (λ x. key_cmp k x.0 ≡ Greater) (sym same) p, tt)
  below_to k (x ∷ es) (suc j) e h is p =
      let first = below_at x.0 es j e (and_first _ _ h) is in
      (turned x.0 k (nat_list_cmp_total.trans x.0 e.0 k first (turned_back k e.0 p)), below_to k es j e (and_second _ _ h) is p)

  -- a key between those below and those above isn't there, and would go there
  pub absent_between : (k : Key) (es : List (Key × V)) (j : ℕ) → AllByRecursion (λ e. key_cmp k e.0 ≡ Greater) (take j es) → AllByRecursion (λ e. key_cmp k e.0 ≡ Less) (drop j es)
      → find key_cmp k es ≡ None
  absent_between k [] j h g = refl
  absent_between k (e ∷ es) zero h g = ap (λ o. cond (is_eq o) (Some e.1) (find key_cmp k es)) g.0 ∙ absent_between k es zero tt g.1
  absent_between k (e ∷ es) (suc j) h g = ap (λ o. cond (is_eq o) (Some e.1) (find key_cmp k es)) h.0 ∙ absent_between k es j h.1 g

  pub goes_between : (k : Key) (v : V) (es : List (Key × V)) (j : ℕ) → AllByRecursion (λ e. key_cmp k e.0 ≡ Greater) (take j es) → AllByRecursion (λ e. key_cmp k e.0 ≡ Less) (drop j es)
      → place key_cmp k v es ≡ insert es j (k, v)
  goes_between k v [] zero h g = refl
  goes_between k v [] (suc j) h g = refl
  goes_between k v (e ∷ es) zero h g = ap (λ o. by_order o ((k, v) ∷ e ∷ es) ((e.0, v) ∷ es) (e ∷ place key_cmp k v es)) g.0
  goes_between k v (e ∷ es) (suc j) h g = ap (λ o. by_order o ((k, v) ∷ e ∷ es) ((e.0, v) ∷ es) (e ∷ place key_cmp k v es)) h.0 ∙ ap (λ l. e ∷ l) (goes_between k v es j h.1 g)

  -- a look-up finds what is there
  pub find_at : (k : Key) (v : V) (es : List (Key × V)) (j : ℕ) → T (is_sorted key_cmp es) → slice_get es j ≡ Some (k, v) → find key_cmp k es ≡ Some v
  find_at k v [] j h is = absurd (cc)
  find_at k v (x ∷ es) zero h is =
      let same : x ≡ (k, v) = cc in
      ap (λ o. cond (is_eq o) (Some x.1) (find key_cmp k es)) (ap (λ x. key_cmp k x.0) same ∙ tied_itself nat_list_cmp_total k) ∙ ap (λ x. Some x.1) same
  find_at k v (x ∷ es) (suc j) h is =
      ap (λ o. cond (is_eq o) (Some x.1) (find key_cmp k es)) (turned x.0 k (below_at x.0 es j (k, v) (and_first _ _ h) is)) ∙ find_at k v es j (and_second _ _ h) is

  find_get : (k : Key) (ps : List (Key × V)) → find key_cmp k ps ≡ get k ps
  find_get k [] = refl
  find_get k (p ∷ ps) = λ i. cond (is_eq-slice_cmp k p.0 i) (Some p.1) (find_get k ps i)

pub is_sorted-index : (ks : List Key) → T (is_sorted key_cmp (index_of ks))
is_sorted-index ks = is_sorted-ascending (numbered_from 0 ks)

-- ---- one more key

pub none-numbered : (k : Key) (n : ℕ) (ks : List Key) → AllByRecursion (λ y. bytes_eq k y ≡ false) ks → get k (numbered_from n ks) ≡ None
none-numbered k n [] h = refl
none-numbered k n (l ∷ ks) h = rw (h.0) (none-numbered k (n + 1) ks h.1)

length-index_from : (n : ℕ) (ks : List Key) → IsDistinct bytes_eq ks → length (ascending (numbered_from n ks)) ≡ length ks
length-index_from n [] d = refl
length-index_from n (k ∷ ks) d =
    let es = ascending (numbered_from (n + 1) ks) in
    let gone : find key_cmp k es ≡ None = find-ascending k (numbered_from (n + 1) ks) ∙ none-numbered k (n + 1) ks (IsDistinct-head bytes_eq k ks d) in
    length-put key_cmp nat_list_cmp_total k n es (is_sorted-ascending (numbered_from (n + 1) ks)) ∙ ap (λ o. cond (is_some o) (length es) (length es + 1)) gone
    ∙ ap (λ m. m + 1) (length-index_from (n + 1) ks (IsDistinct-tail bytes_eq k ks d)) ∙ add-one (length ks)

pub length-index : (ks : List Key) → IsDistinct bytes_eq ks → length (index_of ks) ≡ length ks
length-index = length-index_from 0

numbered-push : (n : ℕ) (ks : List Key) (k : Key) → numbered_from n (ks ++ k ∷ []) ≡ numbered_from n ks ++ (k, n + length ks) ∷ []
numbered-push n [] k = ap (λ m. (k, m) ∷ []) (let e : n ≡ n + 0 = omega arith in e)
numbered-push n (l ∷ ks) k = ap (λ r. (l, n) ∷ r) (numbered-push (n + 1) ks k ∙ ap (λ m. numbered_from (n + 1) ks ++ (k, m) ∷ []) (let e : n + 1 + length ks ≡ n + suc (length ks) = omega arith in e))

pub index-push : (ks : List Key) (k : Key) → find key_cmp k (index_of ks) ≡ None → index_of (ks ++ k ∷ []) ≡ place key_cmp k (length ks) (index_of ks)
index-push ks k gone =
    let ps = numbered_from 0 ks in
    let missing : find key_cmp k ps ≡ None = find_get k ps ∙ sym (find-ascending k ps) ∙ gone in
    let alike : (q : Key) → get q (numbered_from 0 (ks ++ k ∷ [])) ≡ get q ((k, length ks) ∷ ps)
    = λ q. ap (get q) (numbered-push 0 ks k ∙ ap (λ m. ps ++ (k, m) ∷ []) (let e : 0 + length ks ≡ length ks = omega arith in e)) ∙ sym (find_get q (ps ++ (k, length ks) ∷ [])) ∙ find-append key_cmp nat_list_cmp_total ps k (length ks) q missing
    ∙ (λ i. cond (is_eq-slice_cmp q k i) (Some (length ks)) (find_get q ps i)) in
    same_ascending (numbered_from 0 (ks ++ k ∷ [])) ((k, length ks) ∷ ps) alike

values_of-insert : (es : List (Key × ℕ)) (j : ℕ) (k : Key) (n : ℕ) → values_of (insert es j (k, n)) ≡ insert (values_of es) j n
values_of-insert es j k n = map-append (λ e. e.1) (take j es) ((k, n) ∷ drop j es) ∙ (λ i. sym (take-map (λ e. e.1) j es) i ++ n ∷ sym (drop-map (λ e. e.1) j es) i)

pub places-push : (ks : List Key) (k : Key) (j : ℕ) → GoesAt k j ks → places_of (ks ++ k ∷ []) ≡ insert (places_of ks) j (length ks)
places-push ks k j g = ap values_of (index-push ks k g.1 ∙ g.2 (length ks)) ∙ values_of-insert (index_of ks) j k (length ks)

any-numbered : (k : Key) (n : ℕ) (ks : List Key) → list_any (bytes_eq k) ks ≡ is_some (get k (numbered_from n ks))
any-numbered k n [] = refl
any-numbered k n (l ∷ ks) = elim (bytes_eq k l) as (λ b. list_any (bytes_eq k) ks ≡ is_some (get k (numbered_from (n + 1) ks)) → (b || list_any (bytes_eq k) ks) ≡ is_some (cond b (Some n) (get k (numbered_from (n + 1) ks)))) [
  | true ↦ λ e. refl
  | false ↦ λ e. e
] (any-numbered k (n + 1) ks)

pub distinct-push : (ks : List Key) (k : Key) → IsDistinct bytes_eq ks → find key_cmp k (index_of ks) ≡ None → IsDistinct bytes_eq (ks ++ k ∷ [])
distinct-push ks k d gone = IsDistinct-push nat_list_eq_equiv ks k d (any-numbered k 0 ks ∙ ap is_some (sym (find-ascending k (numbered_from 0 ks)) ∙ gone))

-- ---- one key less

below_not_at : {V : Type 0} (k : Key) (es : List (Key × V)) → T (below_all key_cmp k es) → where_key key_cmp (λ x. not (eq_by_cmp key_cmp k x)) es ≡ es
below_not_at k [] h = refl
below_not_at k (e ∷ es) h =
    ap (λ o. cond (not (is_eq o)) (e ∷ where_key key_cmp (λ x. not (eq_by_cmp key_cmp k x)) es) (where_key key_cmp (λ x. not (eq_by_cmp key_cmp k x)) es)) (less _ (and_first _ _ h))
    ∙ ap (λ l. e ∷ l) (below_not_at k es (and_second _ _ h))

remove_is : {V : Type 0} (k : Key) (v : V) (es : List (Key × V)) (j : ℕ) → T (is_sorted key_cmp es) → slice_get es j ≡ Some (k, v) → where_key key_cmp (λ x. not (eq_by_cmp key_cmp k x)) es ≡ remove es j
remove_is k v [] j h is = absurd (cc)
remove_is k v (x ∷ es) zero h is =
    let same : k ≡ x.0 = let e : x ≡ (k, v) = cc in sym (ap (λ x. x.0) e) in
    ap (λ o. cond (not (is_eq o)) (x ∷ where_key key_cmp (λ x. not (eq_by_cmp key_cmp k x)) es) (where_key key_cmp (λ x. not (eq_by_cmp key_cmp k x)) es)) (ap (key_cmp k) (sym same) ∙ tied_itself nat_list_cmp_total k)
    ∙ below_not_at k es (subst (λ l. T (below_all key_cmp l es)) (sym same) (and_first _ _ h))
remove_is k v (x ∷ es) (suc j) h is =
    ap (λ o. cond (not (is_eq o)) (x ∷ where_key key_cmp (λ x. not (eq_by_cmp key_cmp k x)) es) (where_key key_cmp (λ x. not (eq_by_cmp key_cmp k x)) es)) (turned x.0 k (below_at x.0 es j (k, v) (and_first _ _ h) is))
    ∙ ap (λ l. x ∷ l) (remove_is k v es j (and_second _ _ h) is)

module _ {V W : Type 0} (h : V → W) where
  below_all-over : (k : Key) (es : List (Key × V)) → below_all key_cmp k (over h es) ≡ below_all key_cmp k es
  below_all-over k [] = refl
  below_all-over k (e ∷ es) = ap (λ b. is_lt (key_cmp k e.0) && b) (below_all-over k es)

  is_sorted-over : (es : List (Key × V)) → is_sorted key_cmp (over h es) ≡ is_sorted key_cmp es
  is_sorted-over [] = refl
  is_sorted-over (e ∷ es) = λ i. below_all-over e.0 es i && is_sorted-over es i

one_less : (n m : ℕ) → m ≤ n → place_without m (n + 1) ≡ n
one_less n m h = elim (nat_lt m (n + 1)) as (λ b. nat_lt m (n + 1) ≡ b → cond b (n + 1 - 1) (n + 1) ≡ n) [
  | true ↦ λ e. omega arith
  | false ↦ λ e. absurd (true≢false (sym (above (n + 1) m (omega arith)) ∙ e))
] refl
  where
    above : (n m : ℕ) → m < n → nat_lt m n ≡ true
    above n m h = search (rules, h)

the_same : (n m : ℕ) → n ≤ m → place_without m n ≡ n
the_same n m h = search (rules, h)

option_over : {V W : Type 0} (h : V → W) (b : Bool) (o : Option V) → option_map h (cond b None o) ≡ cond b None (option_map h o)
option_over h true o = refl
option_over h false o = refl

option_some : {V W : Type 0} (h : V → W) (b : Bool) (v : V) (o : Option V) → option_map h (cond b (Some v) o) ≡ cond b (Some (h v)) (option_map h o)
option_some h true v o = refl
option_some h false v o = refl

-- places counted from one further on, moved down
moved_down : (q : Key) (n m : ℕ) (ks : List Key) → m ≤ n → get q (numbered_from n ks) ≡ option_map (place_without m) (get q (numbered_from (n + 1) ks))
moved_down q n m [] h = refl
moved_down q n m (k ∷ ks) h =
    (λ i. cond (bytes_eq q k) (Some (sym (one_less n m h) i)) (moved_down q (n + 1) m ks (omega arith) i))
    ∙ sym (option_some (place_without m) (bytes_eq q k) (n + 1) (get q (numbered_from (n + 1 + 1) ks)))

-- what a look-up finds of the other keys
get-removed : (q k : Key) (n m i : ℕ) (ks : List Key) → m ≡ n + i → IsDistinct bytes_eq ks → slice_get ks i ≡ Some k
    → get q (numbered_from n (remove ks i)) ≡ cond (bytes_eq q k) None (option_map (place_without m) (get q (numbered_from n ks)))
get-removed q k n m i [] e d is = absurd (cc)
get-removed q k n m zero (l ∷ ks) e d is =
    let same : l ≡ k = cc in
    let at : m ≡ n = omega (arith, e) in
    elim (bytes_eq q l) as (λ b. bytes_eq q l ≡ b → get q (numbered_from n ks) ≡ cond b None (option_map (place_without m) (cond b (Some n) (get q (numbered_from (n + 1) ks))))) [
      | true ↦ λ t. ap (λ r. get r (numbered_from n ks)) ((bytes_eq-Decides q l).0 t) ∙ none-numbered l n ks (IsDistinct-head bytes_eq l ks d)
      | false ↦ λ t. moved_down q n m ks (omega arith)
    ] refl
    ∙ ap (λ l. cond (bytes_eq q l) None (option_map (place_without m) (get q (numbered_from n (l ∷ ks))))) same
    ∙ ap (λ l. cond (bytes_eq q k) None (option_map (place_without m) (get q (numbered_from n (l ∷ ks))))) (sym same)
get-removed q k n m (suc i) (l ∷ ks) e d is =
    let apart : bytes_eq l k ≡ false = all_at (λ y. bytes_eq l y ≡ false) ks i k (IsDistinct-head bytes_eq l ks d) is in
    let later = get-removed q k (n + 1) m i ks (omega arith) (IsDistinct-tail bytes_eq l ks d) is in
    elim (bytes_eq q l) as (λ b. bytes_eq q l ≡ b → cond b (Some n) (get q (numbered_from (n + 1) (remove ks i))) ≡ cond (bytes_eq q k) None (option_map (place_without m) (cond b (Some n) (get q (numbered_from (n + 1) ks))))) [
      | true ↦ λ t. ap Some (sym (the_same n m (omega arith))) ∙ ap (λ b. cond b None (Some (place_without m n))) (sym (ap (λ r. bytes_eq r k) ((bytes_eq-Decides q l).0 t) ∙ apart))
      | false ↦ λ t. later
    ] refl

find-over : {V W : Type 0} (h : V → W) (q : Key) (es : List (Key × V)) → find key_cmp q (over h es) ≡ option_map h (find key_cmp q es)
find-over h q [] = refl
find-over h q (e ∷ es) = ap (cond (is_eq (key_cmp q e.0)) (Some (h e.1))) (find-over h q es) ∙ sym (option_some h (is_eq (key_cmp q e.0)) e.1 (find key_cmp q es))

not_cond : {V : Type 0} (b : Bool) (o : Option V) → cond (not b) o None ≡ cond b None o
not_cond true o = refl
not_cond false o = refl

alike : (k q x : Key) → key_cmp q x ≡ Equal → not (eq_by_cmp key_cmp k x) ≡ not (eq_by_cmp key_cmp k q)
alike k q x t = ap (λ x. not (eq_by_cmp key_cmp k x)) (sym (same_key q x t))

flipped : (k q : Key) → is_eq (key_cmp k q) ≡ bytes_eq q k
flipped k q = is_eq-slice_cmp k q ∙ nat_list_eq_equiv.symm k q

pub index-remove : (ks : List Key) (k : Key) (i j : ℕ) → IsDistinct bytes_eq ks → slice_get (index_of ks) j ≡ Some (k, i) → index_of (remove ks i) ≡ over (place_without i) (remove (index_of ks) j)
index-remove ks k i j d is =
    let es = index_of ks in
    let rest = where_key key_cmp (λ x. not (eq_by_cmp key_cmp k x)) es in
    let there = all_at (λ e. slice_get ks e.1 ≡ Some e.0) es j (k, i) (standing ks) is in
    let sorted : T (is_sorted key_cmp (over (place_without i) rest)) = subst T (sym (is_sorted-over (place_without i) rest)) (is_sorted-where_key key_cmp (λ x. not (eq_by_cmp key_cmp k x)) es (is_sorted-index ks)) in
    let found : (q : Key) → find key_cmp q (index_of (remove ks i)) ≡ find key_cmp q (over (place_without i) rest)
    = λ q. find-ascending q (numbered_from 0 (remove ks i)) ∙ get-removed q k 0 i i ks (let e : i ≡ 0 + i = omega arith in e) d there
    ∙ sym (find-over (place_without i) q rest
    ∙ ap (option_map (place_without i)) (find-where_key key_cmp (λ x. not (eq_by_cmp key_cmp k x)) q (alike k q) es ∙ ap (λ b. cond (not b) (find key_cmp q es) None) (flipped k q) ∙ not_cond (bytes_eq q k) (find key_cmp q es))
    ∙ option_over (place_without i) (bytes_eq q k) (find key_cmp q es)
    ∙ ap (λ o. cond (bytes_eq q k) None (option_map (place_without i) o)) (find-ascending q (numbered_from 0 ks))) in
    same_entries key_cmp nat_list_cmp_total same_key (index_of (remove ks i)) (over (place_without i) rest) (is_sorted-index (remove ks i)) sorted found
    ∙ ap (over (place_without i)) (remove_is k i es j (is_sorted-index ks) is)

values_of-over_places : (h : ℕ → ℕ) (es : List (Key × ℕ)) → values_of (over h es) ≡ map h (values_of es)
values_of-over_places h [] = refl
values_of-over_places h (e ∷ es) = ap (λ l. h e.1 ∷ l) (values_of-over_places h es)

map-remove : {A B : Type 0} (f : A → B) (xs : List A) (j : ℕ) → map f (remove xs j) ≡ remove (map f xs) j
map-remove f xs j = map-append f (take j xs) (drop (suc j) xs) ∙ (λ i. sym (take-map f j xs) i ++ sym (drop-map f (suc j) xs) i)

pub places-remove : (ks : List Key) (k : Key) (i j : ℕ) → IsDistinct bytes_eq ks → slice_get (index_of ks) j ≡ Some (k, i) → places_of (remove ks i) ≡ map (place_without i) (remove (places_of ks) j)
places-remove ks k i j d is = ap values_of (index-remove ks k i j d is) ∙ values_of-over_places (place_without i) (remove (index_of ks) j) ∙ ap (map (place_without i)) (map-remove (λ e. e.1) (index_of ks) j)

pub distinct-remove : (ks : List Key) (k : Key) (i : ℕ) → IsDistinct bytes_eq ks → slice_get ks i ≡ Some k → IsDistinct bytes_eq (remove ks i)
distinct-remove ks k i d is =
    IsDistinct-tail bytes_eq k (remove ks i)
    (IsDistinct-IsPermutation bytes_eq nat_list_eq_equiv.symm ks (k ∷ remove ks i) (IsPermutation-remove ks i k (slice_get_within ks i k is) (sym (get_or_from_slice_get ks i k k is))) d)

-- ---- what the calls say

module _ (ts : List (String Global)) (k : Key) (order : List ℕ) (j x : ℕ) (is : order ≡ places_of (key_bytes ts)) (s : IsIndexedAt k j (key_bytes ts)) (read : x ≡ get_or order j x) where
  pub found_entry : slice_get (index_of (key_bytes ts)) j ≡ Some (k, x)
  found_entry =
      let es = index_of (key_bytes ts) in
      let same : s.0 ≡ x = sym (get_or_from_slice_get (values_of es) j s.0 x (slice_get-map (λ e. e.1) es j ∙ ap (option_map (λ e. e.1)) s.1)) ∙ ap (λ l. get_or l j x) (sym is) ∙ sym read in
      subst (λ n. slice_get es j ≡ Some (k, n)) same s.1

  pub found_there : slice_get (key_bytes ts) x ≡ Some k
  found_there = all_at (λ e. slice_get (key_bytes ts) e.1 ≡ Some e.0) (index_of (key_bytes ts)) j (k, x) (standing (key_bytes ts)) found_entry

  pub found_position : Some x ≡ position (is_key k) ts
  found_position = sym (find_at k x (index_of (key_bytes ts)) j (is_sorted-index (key_bytes ts)) found_entry) ∙ find-index k ts

  pub found_within : x < length ts
  found_within = subst (λ n. x < n) (length-map ts string_bytes) (slice_get_within (key_bytes ts) x k found_there)

pub gone_position : (ts : List (String Global)) (k : Key) (j : ℕ) → GoesAt k j (key_bytes ts) → None ≡ position (is_key k) ts
gone_position ts k j g = sym g.1 ∙ find-index k ts

pub order_length : (ts : List (String Global)) (order : List ℕ) → order ≡ places_of (key_bytes ts) → IsDistinct bytes_eq (key_bytes ts) → length order ≡ length ts
order_length ts order is d = ap length is ∙ length-places_of (key_bytes ts) ∙ length-index (key_bytes ts) d ∙ length-map ts string_bytes

pub pushed : (ts us : List (String Global)) (t : String Global) (order places : List ℕ) (at n : ℕ) → order ≡ places_of (key_bytes ts) → IsDistinct bytes_eq (key_bytes ts) → GoesAt (string_bytes t) at (key_bytes ts)
    → n ≡ length ts → us ≡ ts ++ t ∷ [] → places ≡ insert order at n → (places ≡ places_of (key_bytes us)) × IsDistinct bytes_eq (key_bytes us)
pushed ts us t order places at n is d goes long grown put =
    let k = string_bytes t in
    let whole : key_bytes us ≡ key_bytes ts ++ k ∷ [] = ap key_bytes grown ∙ map-append string_bytes ts (t ∷ []) in (
      put ∙ (λ i. insert (is i) at ((long ∙ sym (length-map ts string_bytes)) i)) ∙ sym (places-push (key_bytes ts) k at goes) ∙ ap places_of (sym whole),
      subst (IsDistinct bytes_eq) (sym whole) (distinct-push (key_bytes ts) k d goes.1),
    )

pub removed : (ts us : List (String Global)) (k : Key) (order places : List ℕ) (j x : ℕ) → order ≡ places_of (key_bytes ts) → IsDistinct bytes_eq (key_bytes ts) → IsIndexedAt k j (key_bytes ts) → x ≡ get_or order j x
    → us ≡ remove ts x → places ≡ map (place_without x) (remove order j) → (places ≡ places_of (key_bytes us)) × IsDistinct bytes_eq (key_bytes us)
removed ts us k order places j x is d s read shrunk taken =
    let whole : key_bytes us ≡ remove (key_bytes ts) x = ap key_bytes shrunk ∙ map-remove string_bytes ts x in (
      taken ∙ ap (λ l. map (place_without x) (remove l j)) is ∙ sym (places-remove (key_bytes ts) k x j d (found_entry ts k order j x is s read)) ∙ ap places_of (sym whole),
      subst (IsDistinct bytes_eq) (sym whole) (distinct-remove (key_bytes ts) k x d (found_there ts k order j x is s read)),
    )

pub front : {A : Type 0} (n : ℕ) (xs ys : List A) → n ≡ length xs → take n (xs ++ ys) ≡ xs
front n xs ys e = ap (λ n. take n (xs ++ ys)) e ∙ take-append_seam xs ys

-- copies of texts have the texts' index
pub copied : (ts us : List (String Global)) (order : List ℕ) → order ≡ places_of (key_bytes ts) → IsDistinct bytes_eq (key_bytes ts) → key_bytes us ≡ key_bytes ts → (order ≡ places_of (key_bytes us)) × IsDistinct bytes_eq (key_bytes us)
copied ts us order is d same = (is ∙ ap places_of (sym same), subst (IsDistinct bytes_eq) (sym same) d)

distinct-nil : IsDistinct bytes_eq []
unfolding IsDistinct
distinct-nil = tt

pub nothing : (ts : List (String Global)) (order : List ℕ) → ts ≡ [] → order ≡ [] → (order ≡ places_of (key_bytes ts)) × IsDistinct bytes_eq (key_bytes ts)
nothing ts order none empty = (empty ∙ ap (λ l. places_of (key_bytes l)) (sym none), subst (λ l. IsDistinct bytes_eq (key_bytes l)) (sym none) distinct-nil)

position_from_within : {A : Type 0} (p : A → Bool) (n : ℕ) (xs : List A) → IfSome (position_from p n xs) (λ i. i < n + length xs)
position_from_within p n [] = tt
position_from_within p n (x ∷ xs) =
    elim (p x) as (λ b. IfSome (cond b (Some n) (position_from p (n + 1) xs)) (λ i. i < n + suc (length xs))) [
      | true ↦ omega arith
      | false ↦ weaker (position_from p (n + 1) xs) (λ i h. omega (arith, h)) (position_from_within p (n + 1) xs)
    ]
  where
    weaker : {P Q : ℕ → Type 0} (o : Option ℕ) → ((i : ℕ) → P i → Q i) → IfSome o P → IfSome o Q
    weaker None f h = tt
    weaker (Some i) f h = f i h

pub position_within : {A : Type 0} (p : A → Bool) (xs : List A) (r : Option ℕ) → r ≡ position p xs → IfSome r (λ i. i < length xs)
position_within p xs r is =
    subst (λ o. IfSome o (λ i. i < length xs)) (sym (is ∙ position_from-zero p xs)) (subst (λ n. IfSome (position_from p 0 xs) (λ i. i < n)) (let e : 0 + length xs ≡ length xs = omega arith in e) (position_from_within p 0 xs))
