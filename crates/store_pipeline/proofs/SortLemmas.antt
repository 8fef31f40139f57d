-- A list in the order of keys, one more in it, and its first ones.
use Rattle.std.proofs.Common.{◌≡◌, ◌∙◌, append-nil, ℕ, zero, suc, ◌+◌, ◌-◌, ◌<◌, ◌≤◌, List, [], ◌∷◌, ◌++◌, map, take, drop, length, get_or, Vec, Bool, true, ◌==◌, Some, refl, sym, ap, subst, arith, append_assoc}
use Rattle.std.specs.Borrow.{Bor}
use Rattle.std.specs.declared.alloc.Global.{Global}
use Rattle.std.specs.List.{filter, insert}
use Rattle.std.specs.List.Sorted.{IsPermutation, IsSortedBy, IsStableBy, ties}
use Rattle.std.proofs.Math.Seq.{take-append_seam}
use Rattle.std.proofs.lemmas.List.{length-take, map-append, take-take, take_all, take_more}
use Rattle.std.proofs.lemmas.List.Elements.{filter-append}
use Rattle.std.proofs.lemmas.List.Edits.{insert_end}
use Rattle.std.proofs.lemmas.List.Sorted.{IsPermutation-refl, IsPermutation-trans, IsPermutation-cons, IsPermutation-map, IsPermutation-to_front}
use Rattle.bson_base.specs.Value.{Members}
use Rattle.store_pipeline.proofs.KeyLemmas.{weak}
use Rattle.store_pipeline.proofs.PlaceLemmas.{one_order, place, Rises, place_at, place_moves, place_rises, place_ties, rises_of, sorted_of, sorted_take, sorted_through, stable_through, take_insert, take_place, zip_insert, zip_long, zip_more, zip_take}
use Rattle.store_pipeline.specs.Bodies.{AreBodies, AreLent, document_at, IsBody, IsPlaceFor, keys_of, OfBody}
use Rattle.store_pipeline.specs.Held.{HoldsFirst}
use Rattle.store_pipeline.specs.declared.sorted.keys.SortKey.{SortKey}
use Rattle.store_pipeline.specs.Order.{cut, goes_before, Key, Sorts}

pub nothing_sorted : (ks : List Key) → Sorts ks [] []
nothing_sorted ks = record { permutation = IsPermutation-refl []; ordered = sorted_of (goes_before ks) [] tt; stable = λ z. refl }

-- one more, in its place
pub one_placed : (ks : List Key) (ds es : List Members) (d : Members) → Sorts ks ds es → Sorts ks (ds ++ d ∷ []) (place (goes_before ks) d es)
one_placed ks ds es d s =
    let lt = goes_before ks in
    let rises = rises_of lt es s.ordered in
    record {
      permutation = IsPermutation-trans _ _ _ (IsPermutation-to_front ds d) (IsPermutation-trans _ _ _ (IsPermutation-cons d _ _ s.permutation) (place_moves lt d es));
      ordered = sorted_of lt (place lt d es) (place_rises lt (weak ks) d es rises);
      stable = λ z. place_ties lt (weak ks) z d es rises ∙ ap (λ l. l ++ filter (ties lt z) (d ∷ [])) (s.stable z) ∙ sym (filter-append (ties lt z) ds (d ∷ []));
    }

pub some_list : (ks : List Key) (ds : List Members) → (es : List Members) × Sorts ks ds es
some_list ks ds = from ds [] [] (nothing_sorted ks)
  where
    from : (more ds es : List Members) → Sorts ks ds es → (fs : List Members) × Sorts ks (ds ++ more) fs
    from [] ds es s = (es, subst (λ (l : List Members). Sorts ks l es) (sym (append-nil ds)) s)
    from (d ∷ more) ds es s =
        let one = from more (ds ++ d ∷ []) (place (goes_before ks) d es) (one_placed ks ds es d s) in
        (one.0, subst (λ (l : List Members). Sorts ks l one.0) (append_assoc ds (d ∷ []) more) one.1)

pub one_list : (ks : List Key) (ds es fs : List Members) → Sorts ks ds es → Sorts ks ds fs → es ≡ fs
one_list ks ds es fs s t = let lt = goes_before ks in one_order lt (weak ks) es fs (rises_of lt es s.ordered) (rises_of lt fs t.ordered) (λ z. s.stable z ∙ sym (t.stable z))

-- ---- a part

drop_front : (n m : ℕ) (ds : List Members) → take m (drop n (take (n + m) ds)) ≡ take m (drop n ds)
drop_front zero m ds = let e : 0 + m ≡ m = omega arith in ap (λ k. take m (take k ds)) e ∙ take-take m m ds (omega arith)
drop_front (suc n) m [] = let e : suc n + m ≡ suc (n + m) = omega arith in ap (λ k. take m (drop (suc n) (take k []))) e
drop_front (suc n) m (d ∷ ds) = let e : suc n + m ≡ suc (n + m) = omega arith in ap (λ k. take m (drop (suc n) (take k (d ∷ ds)))) e ∙ drop_front n m ds

pub part_in_first : (skip limit : ℕ) (ds : List Members) → cut skip (Some limit) (take (skip + limit) ds) ≡ cut skip (Some limit) ds
part_in_first = drop_front

-- ---- places in the order

pub places_sorted : (ks : List Key) (ds : List Members) (ps qs : List ℕ) → map (document_at ds) ps ≡ ds → IsPermutation ps qs → IsSortedBy (λ i j. goes_before ks (document_at ds i) (document_at ds j)) qs
    → IsStableBy (λ i j. goes_before ks (document_at ds i) (document_at ds j)) ps qs → Sorts ks ds (map (document_at ds) qs)
places_sorted ks ds ps qs all moved up stable =
    let lt = goes_before ks in
    let f = document_at ds in
    record {
      permutation = subst (λ (l : List Members). IsPermutation l (map f qs)) all (IsPermutation-map f ps qs moved);
      ordered = sorted_through lt (weak ks) f qs up;
      stable = subst (λ (l : List Members). IsStableBy lt l (map f qs)) all (stable_through lt (weak ks) f ps qs stable);
    }

-- ---- what is held

pub held_at_first : (ks : List Key) (n : ℕ) → HoldsFirst ks n [] []
held_at_first ks n = record { all = []; sorts = nothing_sorted ks; are = subst (λ (l : List Members). AreBodies [] l) (sym (none n)) tt }
  where
    none : (k : ℕ) → take {A = Members} k [] ≡ []
    none zero = refl
    none (suc k) = refl

module _ (ks : List Key) (n : ℕ) (ds : List Members) (bodies : List (Vec ℕ Global)) (d : Members) (at : ℕ) (h : HoldsFirst ks n ds bodies)
    (body : List ℕ) (slice : List (Vec ℕ Global)) (same : slice ≡ bodies) (short : at ≤ length slice) (found : (es : List Members) → AreBodies slice es → IsSortedBy (goes_before ks) es → OfBody body (λ e. IsPlaceFor ks e es at)) (is : IsBody body d) where
  abbrev lt : Members → Members → Bool
  lt = goes_before ks

  abbrev first : List Members
  first = take n h.all

  within : at ≤ length bodies
  within = subst (λ (l : List (Vec ℕ Global)). at ≤ length l) same short

  stands : IsPlaceFor ks d first at
  stands = found first (subst (λ (l : List (Vec ℕ Global)). AreBodies l first) (sym same) h.are) (sorted_take lt n h.all h.sorts.ordered) d is

  long : length bodies ≡ length first
  long = zip_long (λ b e. IsBody b.items e) bodies first h.are

  inserted : insert first at d ≡ place lt d first
  inserted = place_at lt d first at (omega (arith, within, long)) stands

  first_now : take n (place lt d h.all) ≡ take n (insert first at d)
  first_now = take_place lt n d h.all ∙ ap (take n) (sym inserted)

  -- it stands behind all that may be held
  pub held_behind : n ≤ at → HoldsFirst ks n (ds ++ d ∷ []) bodies
  held_behind a =
      let few : length first ≤ n = omega (arith, length-take n h.all) in
      let here : at ≡ length first = omega (arith, few, a, within, long) in
      let all_of : n ≡ length first = omega (arith, few, a, within, long) in
      let kept : take n (insert first at d) ≡ first = ap (λ k. take n (insert first k d)) here ∙ ap (take n) (insert_end first d) ∙ ap (λ k. take k (first ++ d ∷ [])) all_of ∙ take-append_seam first (d ∷ []) in
      record {
        all = place lt d h.all;
        sorts = one_placed ks ds h.all d h.sorts;
        are = subst (λ (l : List Members). AreBodies bodies l) (sym (first_now ∙ kept)) h.are;
      }

  pub held_placed : (m : ℕ) (copy : Vec ℕ Global) → n ≡ suc m → at ≤ m → copy.items ≡ body → HoldsFirst ks n (ds ++ d ∷ []) (insert (take m bodies) at copy)
  held_placed m copy e a copied =
      let one = take_insert lt m d first at a (omega (arith, within, long)) in
      let zipped = zip_insert (λ b f. IsBody b.items f) at copy d (take m bodies) (take m first) (subst (λ (x : List ℕ). IsBody x d) (sym copied) is) (zip_take (λ b f. IsBody b.items f) m bodies first h.are) in
      record {
        all = place lt d h.all;
        sorts = one_placed ks ds h.all d h.sorts;
        are = subst (λ (l : List Members). AreBodies (insert (take m bodies) at copy) l) (sym (first_now ∙ ap (λ k. take k (insert first at d)) e ∙ one)) zipped;
      }

pub one_less : (n at : ℕ) → at < n → n ≡ suc (n - 1)
one_less zero at h = absurd (omega (arith, h))
one_less (suc n) at h = let e : suc n - 1 ≡ n = omega arith in ap suc (sym e)

-- ---- without keys

pub unmoved : (ds : List Members) → Sorts [] ds ds
unmoved ds = record { permutation = IsPermutation-refl ds; ordered = sorted_of (goes_before []) ds (level ds); stable = λ z. refl }
  where
    level : (es : List Members) → Rises (goes_before []) es
    level [] = tt
    level (d ∷ []) = tt
    level (d ∷ e ∷ es) = (refl, level (e ∷ es))

-- documents stay as they came
pub as_they_came : (ds es : List Members) → Sorts [] ds es → es ≡ ds
as_they_came ds es s = one_list [] ds es ds s (unmoved ds)

front_alone : {X : Type 0} (n : ℕ) (xs ys : List X) → n ≤ length xs → take n (xs ++ ys) ≡ take n xs
front_alone zero xs ys h = refl
front_alone (suc n) [] ys h = absurd (omega (arith, h))
front_alone (suc n) (x ∷ xs) ys h = ap (λ l. x ∷ l) (front_alone n xs ys (omega (arith, h)))

-- as many are held as there may be, and no other comes in front of them
held_still : (n : ℕ) (ds more : List Members) (bodies : List (Vec ℕ Global)) → n ≤ length bodies → HoldsFirst [] n ds bodies → HoldsFirst [] n (ds ++ more) bodies
held_still n ds more bodies enough h =
    let same = as_they_came ds h.all h.sorts in
    let first : AreBodies bodies (take n ds) = subst (λ (l : List Members). AreBodies bodies (take n l)) same h.are in
    let long : length bodies ≡ length (take n ds) = zip_long (λ b d. IsBody b.items d) bodies (take n ds) first in
    let all : n ≤ length ds = omega (arith, enough, long, length-take n ds) in
    record { all = ds ++ more; sorts = unmoved (ds ++ more); are = subst (λ (l : List Members). AreBodies bodies l) (sym (front_alone n ds more all)) first }

empty_keys : (keys : List SortKey) → true ≡ (length keys == 0) → keys_of keys ≡ []
empty_keys [] e = refl
empty_keys (k ∷ ks) e = grind arith

pub no_keys : (keys : List SortKey) (b : Bool) → b ≡ (length keys == 0) → b ≡ true → keys_of keys ≡ []
no_keys keys b is on = empty_keys keys (sym on ∙ is)

pub full_of : (ks : List Key) (n : ℕ) (ds more : List Members) (bodies : List (Vec ℕ Global)) → ks ≡ [] → n ≤ length bodies → HoldsFirst ks n ds bodies → HoldsFirst ks n (ds ++ more) bodies
full_of ks n ds more bodies none enough h = subst (λ (l : List Key). HoldsFirst l n (ds ++ more) bodies) (sym none) (held_still n ds more bodies enough (subst (λ (l : List Key). HoldsFirst l n ds bodies) none h))

-- ---- bodies that are lent, one place after the other

module _ (f : ℕ → Members) where
  places_more : (places : List ℕ) (i d : ℕ) → i < length places → map f (take (i + 1) places) ≡ map f (take i places) ++ f (get_or places i d) ∷ []
  places_more places i d h = ap (map f) (take_more places i d h) ∙ map-append f (take i places) (get_or places i d ∷ [])

  pub lent_more : (lent now : List (Bor (List ℕ))) (places : List ℕ) (i d : ℕ) (body : Bor (List ℕ)) → i < length places → now ≡ lent ++ body ∷ [] → IsBody body.now (f (get_or places i d))
      → AreLent lent (map f (take i places)) → AreLent now (map f (take (i + 1) places))
  lent_more lent now places i d body h is there are =
      subst (λ (l : List Members). AreLent now l) (sym (places_more places i d h))
      (subst (λ (l : List (Bor (List ℕ))). AreLent l (map f (take i places) ++ f (get_or places i d) ∷ [])) (sym is) (zip_more (λ b e. IsBody b.now e) lent (map f (take i places)) body (f (get_or places i d)) are there))

  pub all_lent : (lent : List (Bor (List ℕ))) (slice places : List ℕ) (i : ℕ) → slice ≡ places → length slice ≤ i → AreLent lent (map f (take i slice)) → AreLent lent (map f places)
  all_lent lent slice places i e h are = subst (λ (l : List ℕ). AreLent lent (map f l)) (take_all i slice h ∙ e) are
