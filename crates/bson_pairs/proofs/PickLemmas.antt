-- The pairs at the places of the index are the pairs ascending by their keys.
use Rattle.std.proofs.Common.{◌≡◌, All, ℕ, zero, suc, ◌+◌, ◌<◌, List, [], ◌∷◌, ◌++◌, length, get_or, slice_get, Option, Some, unwrap_or, String, string_bytes, refl, sym, ap, ◌∙◌, subst, arith, length-append, append_assoc}
use Rattle.std.specs.List.{AllByRecursion, zip}
use Rattle.std.specs.Map.{values_of}
use Rattle.std.proofs.Math.ListN.{length-map}
use Rattle.std.proofs.lemmas.List.Elements.{All-from_recursion, All-head, All-same}
use Rattle.std.specs.declared.alloc.Global.{Global}
use Rattle.bson_pairs.proofs.IndexLemmas.{all-ascending, slice_get_seam, places_within}
use Rattle.bson_pairs.specs.Ascending.{ascending, ascending-over}
use Rattle.bson_pairs.specs.Index.{numbered_from, index_of, places_of, pick, with_first}
use Rattle.bson_pairs.specs.Keyed.{Key, key_bytes, entries_of}
use Rattle.bson_pairs.specs.Over.{over}

module _ {V : Type 0} where
  -- the value at each place
  values_at : (before vs : List V) (ks : List Key) (n : ℕ) → n ≡ length before → length vs ≡ length ks → over (slice_get (before ++ vs)) (numbered_from n ks) ≡ over Some (zip ks vs)
  values_at before [] [] n e l = refl
  values_at before [] (k ∷ ks) n e l = absurd (omega arith)
  values_at before (v ∷ vs) [] n e l = absurd (omega arith)
  values_at before (v ∷ vs) (k ∷ ks) n e l =
      let later = values_at (before ++ v ∷ []) vs ks (n + 1) (ap (λ m. m + 1) e ∙ sym (length-append before (v ∷ []))) (omega arith) in
      let moved = subst (λ w. over (slice_get w) (numbered_from (n + 1) ks) ≡ over Some (zip ks vs)) (append_assoc before (v ∷ []) vs) later in
      λ i. (k, (ap (slice_get (before ++ v ∷ vs)) e ∙ slice_get_seam before v vs) i) ∷ moved i

  -- an entry has the key of the pair at its place
  abbrev HasPair : List (Key × V) → List V → Key × ℕ → Type 0
  HasPair ps vs e = (v : V) × (slice_get ps e.1 ≡ Some (e.0, v)) × (slice_get vs e.1 ≡ Some v)

  pairs_stand : (before : List (Key × V)) (bs vs : List V) (ks : List Key) (n : ℕ) → n ≡ length before → n ≡ length bs → length vs ≡ length ks
      → AllByRecursion (HasPair (before ++ zip ks vs) (bs ++ vs)) (numbered_from n ks)
  pairs_stand before bs [] [] n e f l = tt
  pairs_stand before bs (v ∷ vs) [] n e f l = tt
  pairs_stand before bs [] (k ∷ ks) n e f l = absurd (omega arith)
  pairs_stand before bs (v ∷ vs) (k ∷ ks) n e f l =
      let later = pairs_stand (before ++ (k, v) ∷ []) (bs ++ v ∷ []) vs ks (n + 1) (ap (λ m. m + 1) e ∙ sym (length-append before ((k, v) ∷ []))) (ap (λ m. m + 1) f ∙ sym (length-append bs (v ∷ []))) (omega arith) in
      let one = subst (λ ps. AllByRecursion (HasPair ps ((bs ++ v ∷ []) ++ vs)) (numbered_from (n + 1) ks)) (append_assoc before ((k, v) ∷ []) (zip ks vs)) later in
      let both = subst (λ ws. AllByRecursion (HasPair (before ++ (k, v) ∷ zip ks vs) ws) (numbered_from (n + 1) ks)) (append_assoc bs (v ∷ []) vs) one in
      ((v, ap (slice_get (before ++ (k, v) ∷ zip ks vs)) e ∙ slice_get_seam before (k, v) (zip ks vs), ap (slice_get (bs ++ v ∷ vs)) f ∙ slice_get_seam bs v vs), both)

  picked : (ps : List (Key × V)) (vs : List V) (es : List (Key × ℕ)) → AllByRecursion (HasPair ps vs) es → over Some (pick ps (values_of es)) ≡ over (slice_get vs) es
  picked ps vs [] h = refl
  picked ps vs (e ∷ es) h =
      ap (λ o. over Some (with_first o (pick ps (values_of es)))) h.0.1 ∙ (λ i. (e.0, sym h.0.2 i) ∷ picked ps vs es h.1 i)

  abbrev head_or : Key × Option V → List (Key × Option V) → Key × Option V
  head_or d [] = d
  head_or d (x ∷ xs) = x

  abbrev tail_of : List (Key × Option V) → List (Key × Option V)
  tail_of [] = []
  tail_of (x ∷ xs) = xs

  same_some : (xs ys : List (Key × V)) → over Some xs ≡ over Some ys → xs ≡ ys
  same_some [] [] e = refl
  same_some [] (y ∷ ys) e = absurd (cc)
  same_some (x ∷ xs) [] e = absurd (cc)
  same_some (x ∷ xs) (y ∷ ys) e =
      let first = ap (head_or (x.0, Some x.1)) e in
      λ i. ((first i).0, unwrap_or (first i).1 x.1) ∷ same_some xs ys (ap tail_of e) i

  pub pick-index : (ks : List (String Global)) (vs : List V) → length vs ≡ length ks → pick (entries_of ks vs) (places_of (key_bytes ks)) ≡ ascending (entries_of ks vs)
  pick-index ks vs l =
      let bs = key_bytes ks in
      let long : length vs ≡ length bs = l ∙ length_bytes ks in
      same_some (pick (entries_of ks vs) (places_of bs)) (ascending (entries_of ks vs))
      (picked (entries_of ks vs) vs (index_of bs) (all-ascending (HasPair (entries_of ks vs) vs) (numbered_from 0 bs) (pairs_stand [] [] vs bs 0 refl refl long))
      ∙ sym (ascending-over (slice_get vs) (numbered_from 0 bs)) ∙ ap ascending (values_at [] vs bs 0 refl long) ∙ ascending-over Some (entries_of ks vs))
    where
      length_bytes : (ks : List (String Global)) → length ks ≡ length (key_bytes ks)
      length_bytes [] = refl
      length_bytes (k ∷ ks) = ap suc (length_bytes ks)

  -- what is at a place
  slice_get-keyed : (ks : List (String Global)) (vs : List V) (i : ℕ) (d : String Global) (e : V) → i < length ks → length vs ≡ length ks → slice_get (entries_of ks vs) i ≡ Some (string_bytes (get_or ks i d), get_or vs i e)
  slice_get-keyed [] vs i d e h l = absurd (omega arith)
  slice_get-keyed (x ∷ ks) [] i d e h l = absurd (omega arith)
  slice_get-keyed (x ∷ ks) (y ∷ vs) zero d e h l = refl
  slice_get-keyed (x ∷ ks) (y ∷ vs) (suc i) d e h l = slice_get-keyed ks vs i d e (omega arith) (omega arith)

pub texts_within : (ks : List (String Global)) → All (λ i. i < length ks) (places_of (key_bytes ks))
texts_within ks = All-from_recursion (λ i. i < length ks) (places_of (key_bytes ks)) (subst (λ n. AllByRecursion (λ i. i < n) (places_of (key_bytes ks))) (length-map ks string_bytes) (places_within (key_bytes ks)))

-- the pair at the first of some places, and those at the others
pub pick-next : {V : Type 0} (ks : List (String Global)) (vs : List V) (i : ℕ) (rest places : List ℕ) (d : String Global) (e : V) → All (λ i. i < length ks) places → length vs ≡ length ks → places ≡ i ∷ rest
    → pick (entries_of ks vs) places ≡ (string_bytes (get_or ks i d), get_or vs i e) ∷ pick (entries_of ks vs) rest
pick-next ks vs i rest places d e within l is =
    ap (pick (entries_of ks vs)) is ∙ ap (λ o. with_first o (pick (entries_of ks vs) rest)) (slice_get-keyed ks vs i d e (first_within ks i rest places within is) l)
  where
    first_within : (ks : List (String Global)) (i : ℕ) (rest places : List ℕ) → All (λ i. i < length ks) places → places ≡ i ∷ rest → i < length ks
    first_within ks i rest places within is = All-head (λ i. i < length ks) i rest (All-same (λ i. i < length ks) (i ∷ rest) places (sym is) within)
