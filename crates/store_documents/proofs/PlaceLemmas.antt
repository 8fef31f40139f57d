-- Where a key goes among keys that ascend.
use Rattle.std.proofs.Common.{◌≡◌, ◌<◌, ◌≤◌, ◌-◌, ℕ, zero, suc, List, [], ◌∷◌, ◌⊎◌, inl, inr, true, false, length, get_or, refl, sym, ap, ◌∙◌, subst, arith}
use Rattle.std.specs.Prelude.{insert}
use Rattle.std.specs.Borrow.{Bor}
use Rattle.std.specs.List.{AllByRecursion}
use Rattle.std.specs.Ordering.{ordering_reverse}
use Rattle.std.specs.declared.cmp.Ordering.TheVariants.{Less, Equal, Greater}
use Rattle.std.proofs.lemmas.Cmp.{nat_list_cmp_total, tied_itself}
use Rattle.std.proofs.lemmas.Map.Lookups.{exact_bytes}
use Rattle.store_documents.specs.Order.{Ascends, GoesAt, HasKey, IsPutInOrder, key_cmp}

abbrev Key : Type 0
Key = List ℕ

after : (k l : Key) → key_cmp k l ≡ Less → key_cmp l k ≡ Greater
after k l e = nat_list_cmp_total.antisymm l k ∙ ap ordering_reverse e

before : (k l : Key) → key_cmp k l ≡ Greater → key_cmp l k ≡ Less
before k l e = nat_list_cmp_total.antisymm l k ∙ ap ordering_reverse e

unlike_less : (k l : Key) → key_cmp k l ≡ Less → l ≡ k → ⊥
unlike_less k l less same =
    let one = subst (λ (m : Key). key_cmp k m ≡ Less) same less in
    let other = tied_itself nat_list_cmp_total k in
    absurd cc

unlike_greater : (k l : Key) → key_cmp k l ≡ Greater → l ≡ k → ⊥
unlike_greater k l more same =
    let one = subst (λ (m : Key). key_cmp k m ≡ Greater) same more in
    let other = tied_itself nat_list_cmp_total k in
    absurd cc

-- what was taken was not refused
pub taken : (full has : Type 0) → (full → ⊥) → (has → ⊥) → (true ≡ false → full ⊎ has) × (full ⊎ has → true ≡ false)
taken full has room new = (λ wrong. absurd cc, by_case)
  where
    by_case : full ⊎ has → true ≡ false
    by_case (inl f) = absurd (room f)
    by_case (inr h) = absurd (new h)

abbrev Pair : Type 0 → Type 0
Pair T = Bor Key × T

module _ {T : Type 0} where
  -- ---- the search, from the last pair to the first

  -- the key is less than that of the pair at this place, which may be the end
  abbrev pub Left : Key → ℕ → List (Pair T) → Type 0
  Left k n [] = n ≡ 0
  Left k zero (p ∷ ps) = key_cmp k p.0.now ≡ Less
  Left k (suc n) (p ∷ ps) = Left k n ps

  pub at_end : (k : Key) (ps : List (Pair T)) → Left k (length ps) ps
  at_end k [] = refl
  at_end k (p ∷ ps) = at_end k ps

  pub within : (k : Key) (n : ℕ) (ps : List (Pair T)) → Left k n ps → n ≤ length ps
  within k n [] h = omega (arith, h)
  within k zero (p ∷ ps) h = omega arith
  within k (suc n) (p ∷ ps) h = omega (arith, within k n ps h)

  down : (k : Key) (n : ℕ) (ps : List (Pair T)) (d : Pair T) → Left k (suc n) ps → key_cmp k (get_or ps n d).0.now ≡ Less → Left k n ps
  down k n [] d h less = absurd (omega (arith, h))
  down k zero (p ∷ ps) d h less = less
  down k (suc n) (p ∷ ps) d h less = down k n ps d h less

  -- one place down
  pub one_down : (k : Key) (n : ℕ) (ps : List (Pair T)) (d : Pair T) → 0 < n → Left k n ps → key_cmp k (get_or ps (n - 1) d).0.now ≡ Less → Left k (n - 1) ps
  one_down k zero ps d some h less = absurd (omega (arith, some))
  one_down k (suc n) ps d some h less =
      let one : suc n - 1 ≡ n = omega arith in
      subst (λ m. Left k m ps) (sym one) (down k n ps d h (subst (λ m. key_cmp k (get_or ps m d).0.now ≡ Less) one less))

  -- the first place
  pub first : (k : Key) (ps : List (Pair T)) → Left k 0 ps → GoesAt k 0 ps
  first k [] h = tt
  first k (p ∷ ps) h = h

  above : (q : Key) (n : ℕ) (ps : List (Pair T)) (d : Pair T) → AllByRecursion (λ r. key_cmp q r.0.now ≡ Less) ps → n < length ps → key_cmp q (get_or ps n d).0.now ≡ Less
  above q n [] d all inside = absurd (omega (arith, inside))
  above q zero (p ∷ ps) d all inside = all.0
  above q (suc n) (p ∷ ps) d all inside = above q n ps d all.1 (omega (arith, inside))

  found : (k : Key) (n : ℕ) (ps : List (Pair T)) (d : Pair T) → Ascends ps → Left k (suc n) ps → key_cmp k (get_or ps n d).0.now ≡ Greater → GoesAt k (suc n) ps
  found k n [] d up h more = absurd (omega (arith, h))
  found k zero (p ∷ ps) d up h more = (more, first k ps h)
  found k (suc n) (p ∷ ps) d up h more =
      let q = (get_or ps n d).0.now in
      let low = above p.0.now n ps d up.0 (omega (arith, within k (suc n) ps h)) in
      (after p.0.now k (nat_list_cmp_total.trans p.0.now q k low (before k q more)), found k n ps d up.1 h more)

  pub behind : (k : Key) (n : ℕ) (ps : List (Pair T)) (d : Pair T) → 0 < n → Ascends ps → Left k n ps → key_cmp k (get_or ps (n - 1) d).0.now ≡ Greater → GoesAt k n ps
  behind k zero ps d some up h more = absurd (omega (arith, some))
  behind k (suc n) ps d some up h more =
      let one : suc n - 1 ≡ n = omega arith in
      found k n ps d up h (subst (λ m. key_cmp k (get_or ps m d).0.now ≡ Greater) one more)

  met : (k : Key) (n : ℕ) (ps : List (Pair T)) (d : Pair T) → Left k (suc n) ps → key_cmp k (get_or ps n d).0.now ≡ Equal → HasKey k ps
  met k n [] d h tied = absurd (omega (arith, h))
  met k zero (p ∷ ps) d h tied = inl (sym (exact_bytes k p.0.now tied))
  met k (suc n) (p ∷ ps) d h tied = inr (met k n ps d h tied)

  -- the key of the pair before this place
  pub met_before : (k : Key) (n : ℕ) (ps : List (Pair T)) (d : Pair T) → 0 < n → Left k n ps → key_cmp k (get_or ps (n - 1) d).0.now ≡ Equal → HasKey k ps
  met_before k zero ps d some h tied = absurd (omega (arith, some))
  met_before k (suc n) ps d some h tied =
      let one : suc n - 1 ≡ n = omega arith in
      met k n ps d h (subst (λ m. key_cmp k (get_or ps m d).0.now ≡ Equal) one tied)

  -- ---- a key that goes among them is none of theirs

  below_all : (k : Key) (ps : List (Pair T)) → AllByRecursion (λ r. key_cmp k r.0.now ≡ Less) ps → HasKey k ps → ⊥
  below_all k [] all has = has
  below_all k (p ∷ ps) all (inl same) = unlike_less k p.0.now all.0 same
  below_all k (p ∷ ps) all (inr has) = below_all k ps all.1 has

  -- ---- a pair that was put

  all_above : (k l : Key) (ps : List (Pair T)) → key_cmp k l ≡ Less → AllByRecursion (λ r. key_cmp l r.0.now ≡ Less) ps → AllByRecursion (λ r. key_cmp k r.0.now ≡ Less) ps
  all_above k l [] less all = tt
  all_above k l (p ∷ ps) less all = (nat_list_cmp_total.trans k l p.0.now less all.0, all_above k l ps less all.1)

  pub apart : (k : Key) (n : ℕ) (ps : List (Pair T)) → Ascends ps → GoesAt k n ps → HasKey k ps → ⊥
  apart k zero [] up goes has = has
  apart k zero (p ∷ ps) up goes (inl same) = unlike_less k p.0.now goes same
  apart k zero (p ∷ ps) up goes (inr has) = below_all k ps (all_above k p.0.now ps goes up.0) has
  apart k (suc n) [] up goes has = has
  apart k (suc n) (p ∷ ps) up goes (inl same) = unlike_greater k p.0.now goes.0 same
  apart k (suc n) (p ∷ ps) up goes (inr has) = apart k n ps up.1 goes.1 has

  still_above : (q : Key) (n : ℕ) (ps : List (Pair T)) (p : Pair T) → key_cmp q p.0.now ≡ Less → AllByRecursion (λ r. key_cmp q r.0.now ≡ Less) ps → GoesAt p.0.now n ps → AllByRecursion (λ r. key_cmp q r.0.now ≡ Less) (insert ps n p)
  still_above q zero [] p less all goes = (less, tt)
  still_above q zero (r ∷ ps) p less all goes = (less, all)
  still_above q (suc n) [] p less all goes = absurd goes
  still_above q (suc n) (r ∷ ps) p less all goes = (all.0, still_above q n ps p less all.1 goes.1)

  pub ascends_still : (n : ℕ) (ps : List (Pair T)) (p : Pair T) → Ascends ps → GoesAt p.0.now n ps → Ascends (insert ps n p)
  ascends_still zero [] p up goes = (tt, tt)
  ascends_still zero (q ∷ ps) p up goes = ((goes, all_above p.0.now q.0.now ps goes up.0), up)
  ascends_still (suc n) [] p up goes = absurd goes
  ascends_still (suc n) (q ∷ ps) p up goes = (still_above q.0.now n ps p (before p.0.now q.0.now goes.0) up.0 goes.1, ascends_still n ps p up.1 goes.1)

  pub put_there : (k : Bor Key) (x : T) (ps new : List (Pair T)) (n : ℕ) → Ascends ps → GoesAt k.now n ps → new ≡ insert ps n (k, x) → IsPutInOrder k x ps new
  put_there k x ps new n up goes is = (subst Ascends (sym is) (ascends_still n ps (k, x) up goes), n, goes, is)
