-- A tree of places, as it grows.
use Rattle.std.proofs.Common.{◌≡◌, ℕ, zero, suc, ◌+◌, ◌<◌, ◌≤◌, false, cond, List, [], ◌∷◌, ◌++◌, length, take, get_or, Some, None, String, string_bytes, bytes_eq, refl, sym, ap, ◌∙◌, subst, arith}
use Rattle.std.specs.BTreeMap.{insert_entry, is_at}
use Rattle.std.specs.Cmp.Lexicographic.{nat_list_eq_equiv}
use Rattle.std.specs.FinMap.Entries.{put as place, find, by_order}
use Rattle.std.specs.List.{IsDistinct}
use Rattle.std.specs.Map.{lookup, values_of}
use Rattle.std.specs.Ordering.{is_eq, match_ordering}
use Rattle.std.specs.String.{string_cmp}
use Rattle.std.specs.declared.alloc.Global.{Global}
use Rattle.std.specs.declared.cmp.Ordering.{Ordering}
use Rattle.std.specs.declared.cmp.Ordering.TheVariants.{Less, Equal, Greater}
use Rattle.std.proofs.lemmas.List.{map-append}
use Rattle.std.proofs.lemmas.List.Elements.{All-from_recursion}
use Rattle.std.proofs.lemmas.Map.Keys.{IsDistinct-head, IsDistinct-tail}
use Rattle.std.proofs.Math.ListN.{length-map, get_or-map}
use Rattle.bson_pairs.proofs.IndexLemmas.{index-push, distinct-push}
use Rattle.bson_pairs.specs.Ascending.{key_cmp, find-ascending}
use Rattle.bson_pairs.specs.Index.{numbered_from, index_of, places_of, seen_places}
use Rattle.bson_pairs.specs.Keyed.{Key, key_bytes, get}

seen-by_order : (o : Ordering) (a b c : List (String Global × ℕ)) → seen_places (match_ordering o a b c) ≡ by_order o (seen_places a) (seen_places b) (seen_places c)
seen-by_order Less a b c = refl
seen-by_order Equal a b c = refl
seen-by_order Greater a b c = refl

pub seen-insert : (es : List (String Global × ℕ)) (t : String Global) (n : ℕ) → seen_places (insert_entry string_cmp es t n) ≡ place key_cmp (string_bytes t) n (seen_places es)
seen-insert [] t n = refl
seen-insert (e ∷ es) t n =
    seen-by_order (string_cmp t e.0) ((t, n) ∷ e ∷ es) ((e.0, n) ∷ es) (e ∷ insert_entry string_cmp es t n)
    ∙ ap (λ l. by_order (key_cmp (string_bytes t) (string_bytes e.0)) ((string_bytes t, n) ∷ seen_places (e ∷ es)) ((string_bytes e.0, n) ∷ seen_places es) ((string_bytes e.0, e.1) ∷ l)) (seen-insert es t n)

pub seen-find : (k : Key) (es : List (String Global × ℕ)) → lookup (is_at (λ s. key_cmp k (string_bytes s))) es ≡ find key_cmp k (seen_places es)
seen-find k [] = refl
seen-find k (e ∷ es) = ap (cond (is_eq (key_cmp k (string_bytes e.0))) (Some e.1)) (seen-find k es)

pub seen-values : (es : List (String Global × ℕ)) → values_of (seen_places es) ≡ values_of es
seen-values [] = refl
seen-values (e ∷ es) = ap (λ l. e.1 ∷ l) (seen-values es)

-- one more text, whose copy goes into the tree
pub tree-push : (ts : List (String Global)) (t s : String Global) (es fs : List (String Global × ℕ)) (n : ℕ) → seen_places es ≡ index_of (key_bytes ts) → find key_cmp (string_bytes t) (index_of (key_bytes ts)) ≡ None
    → string_bytes s ≡ string_bytes t → n ≡ length ts → fs ≡ insert_entry string_cmp es s n → seen_places fs ≡ index_of (key_bytes (ts ++ t ∷ []))
tree-push ts t s es fs n is gone copy long put =
    ap seen_places put ∙ seen-insert es s n ∙ (λ i. place key_cmp (copy i) ((long ∙ sym (length-map ts string_bytes)) i) (is i)) ∙ sym (index-push (key_bytes ts) (string_bytes t) gone)
    ∙ ap index_of (sym (map-append string_bytes ts (t ∷ [])))

pub distinct-pushed : (ts : List (String Global)) (t : String Global) → IsDistinct bytes_eq (key_bytes ts) → find key_cmp (string_bytes t) (index_of (key_bytes ts)) ≡ None → IsDistinct bytes_eq (key_bytes (ts ++ t ∷ []))
distinct-pushed ts t d gone = subst (IsDistinct bytes_eq) (sym (map-append string_bytes ts (t ∷ []))) (distinct-push (key_bytes ts) (string_bytes t) d gone)

-- of distinct keys none is among those before it
none_before : (n : ℕ) (ks : List Key) (i : ℕ) (d : Key) → IsDistinct bytes_eq ks → i < length ks → get (get_or ks i d) (numbered_from n (take i ks)) ≡ None
none_before n [] i d h l = absurd (omega arith)
none_before n (k ∷ ks) zero d h l = refl
none_before n (k ∷ ks) (suc i) d h l =
    let apart : bytes_eq (get_or ks i d) k ≡ false = nat_list_eq_equiv.symm (get_or ks i d) k ∙ All-from_recursion (λ y. bytes_eq k y ≡ false) ks (IsDistinct-head bytes_eq k ks h) i d (omega arith) in
    rw apart (none_before (n + 1) ks i d (IsDistinct-tail bytes_eq k ks h) (omega arith))

take-key_bytes : (ts : List (String Global)) (i : ℕ) → key_bytes (take i ts) ≡ take i (key_bytes ts)
take-key_bytes [] zero = refl
take-key_bytes [] (suc i) = refl
take-key_bytes (t ∷ ts) zero = refl
take-key_bytes (t ∷ ts) (suc i) = ap (λ l. string_bytes t ∷ l) (take-key_bytes ts i)

length-take_within : {A : Type 0} (xs : List A) (i : ℕ) → i ≤ length xs → length (take i xs) ≡ i
length-take_within [] zero h = refl
length-take_within [] (suc i) h = absurd (omega arith)
length-take_within (x ∷ xs) zero h = refl
length-take_within (x ∷ xs) (suc i) h = ap suc (length-take_within xs i (omega arith))

take_more : {A : Type 0} (xs : List A) (i : ℕ) (x : A) → i < length xs → x ≡ get_or xs i x → take (i + 1) xs ≡ take i xs ++ x ∷ []
take_more [] i x h e = absurd (omega arith)
take_more (y ∷ xs) zero x h e = ap (λ z. z ∷ []) (sym e)
take_more {A} (y ∷ xs) (suc i) x h e =
    ap (λ n. take n (y ∷ xs)) (let s : suc i + 1 ≡ suc (i + 1) = omega arith in s) ∙ ap (λ l. y ∷ l) (take_more xs i x (omega arith) e)

-- the next text of a list goes into the tree of those before it
pub tree-next : (ts : List (String Global)) (t s : String Global) (es fs : List (String Global × ℕ)) (i : ℕ) → IsDistinct bytes_eq (key_bytes ts) → i < length ts → t ≡ get_or ts i t → string_bytes s ≡ string_bytes t
    → seen_places es ≡ index_of (key_bytes (take i ts)) → fs ≡ insert_entry string_cmp es s i → seen_places fs ≡ index_of (key_bytes (take (i + 1) ts))
tree-next ts t s es fs i d within read copy is put =
    let k = string_bytes t in
    let same : get_or (key_bytes ts) i k ≡ k = get_or-map string_bytes ts i t ∙ ap string_bytes (sym read) in
    let gone : find key_cmp k (index_of (key_bytes (take i ts))) ≡ None
    = find-ascending k (numbered_from 0 (key_bytes (take i ts))) ∙ ap (λ ks. get k (numbered_from 0 ks)) (take-key_bytes ts i)
    ∙ ap (λ q. get q (numbered_from 0 (take i (key_bytes ts)))) (sym same) ∙ none_before 0 (key_bytes ts) i k d (subst (λ n. i < n) (sym (length-map ts string_bytes)) within) in
    tree-push (take i ts) t s es fs i is gone copy (sym (length-take_within ts i (omega arith))) put ∙ ap (λ l. index_of (key_bytes l)) (sym (take_more ts i t within read))

-- the places of a tree are those of its texts
pub tree-places : (ts : List (String Global)) (es : List (String Global × ℕ)) → seen_places es ≡ index_of (key_bytes ts) → values_of es ≡ places_of (key_bytes ts)
tree-places ts es is = sym (seen-values es) ∙ ap values_of is
