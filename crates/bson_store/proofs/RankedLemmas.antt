-- Places that are put under ranks and parts, and taken away.
use Rattle.std.proofs.Common.{◌≡◌, ◌≢◌, ◌<◌, ◌≤ℤ◌, ◌<ℤ◌, ℕ, ℤ, pos, negsuc, ◌-◌, ◌^◌, ◌&&◌, not, Bool, true, false, cond, is_eq, List, [], ◌∷◌, ◌++◌, filter, inl, inr, ◌⊎◌, append_assoc, map, refl, sym, ap, ◌∙◌, subst, arith}
use Rattle.std.specs.BTreeSet.{contains_by}
use Rattle.std.specs.List.{list_any}
use Rattle.std.specs.Cmp.{ranks}
use Rattle.std.specs.Ordering.{MatchOrdering, is_le, is_lt, int_cmp, int_eq, nat_cmp, ordering_then}
use Rattle.std.specs.declared.cmp.Ordering.{Ordering}
use Rattle.std.specs.declared.cmp.Ordering.TheVariants.{Less, Equal as Alike, Greater}
use Rattle.std.proofs.lemmas.List.{append-nil}
use Rattle.std.proofs.lemmas.Cmp.{int_ranked}
use Rattle.std.proofs.lemmas.Int.{ints}
use Rattle.std.specs.Int.{w64}
use Rattle.std.specs.Prelude.{FitsSigned}
use Rattle.std.specs.BTreeMap.Range.{range_contains}
use Rattle.std.specs.declared.ops.Bound.TheVariants.{Included}
use Rattle.bson_store.specs.Lists.{is_among}
use Rattle.bson_store.proofs.AmongLemmas.{or_cases, or_left, or_right, same_place}
use Rattle.bson_store.specs.Ranked.{HasRanked, beside}
use Rattle.bson_store.specs.declared.indexed.ranks.Ranks.{Ranks}

record AreEqual (r : ℕ) (q p : ℤ) (k : ℕ × ℤ × ℤ) : Type 0 where
  rank : r ≡ k.0
  part : q ≡ k.1
  place : p ≡ k.2

equal_parts : (r : ℕ) (q p : ℤ) (k : ℕ × ℤ × ℤ) → is_eq (beside r q p k) ≡ true → AreEqual r q p k
equal_parts r q p k h = by (nat_cmp r k.0) (int_cmp q k.1) (int_cmp p k.2) (ranks r k.0) (int_ranked q k.1 (int_cmp q k.1) refl) (int_ranked p k.2 (int_cmp p k.2) refl) h
  where
    by : (a b c : Ordering) → MatchOrdering a (r < k.0) (r ≡ k.0) (k.0 < r) → MatchOrdering b (q <ℤ k.1) (q ≡ k.1) (k.1 <ℤ q) → MatchOrdering c (p <ℤ k.2) (p ≡ k.2) (k.2 <ℤ p)
        → is_eq (ordering_then (ordering_then a b) c) ≡ true → AreEqual r q p k
    by Alike Alike Alike x y z e = record { rank = x; part = y; place = z }
    by Less b c x y z e = absurd cc
    by Greater b c x y z e = absurd cc
    by Alike Less c x y z e = absurd cc
    by Alike Greater c x y z e = absurd cc
    by Alike Alike Less x y z e = absurd cc
    by Alike Alike Greater x y z e = absurd cc

equal_self : (r : ℕ) (q p : ℤ) → is_eq (beside r q p (r, q, p)) ≡ true
equal_self r q p = by (nat_cmp r r) (int_cmp q q) (int_cmp p p) (ranks r r) (int_ranked q q (int_cmp q q) refl) (int_ranked p p (int_cmp p p) refl)
  where
    by : (a b c : Ordering) → MatchOrdering a (r < r) (r ≡ r) (r < r) → MatchOrdering b (q <ℤ q) (q ≡ q) (q <ℤ q) → MatchOrdering c (p <ℤ p) (p ≡ p) (p <ℤ p)
        → is_eq (ordering_then (ordering_then a b) c) ≡ true
    by Alike Alike Alike x y z = refl
    by Less b c x y z = absurd (omega (arith, x))
    by Greater b c x y z = absurd (omega (arith, x))
    by Alike Less c x y z = absurd (omega (arith, ints, y))
    by Alike Greater c x y z = absurd (omega (arith, ints, y))
    by Alike Alike Less x y z = absurd (omega (arith, ints, z))
    by Alike Alike Greater x y z = absurd (omega (arith, ints, z))

-- with the key, or without it, and all others as they were
abbrev pub Becomes : Ranks → Ranks → ℕ → ℤ → ℤ → Bool → Type 0
Becomes old new r q p b = (k : ℕ × ℤ × ℤ) → contains_by (beside k.0 k.1 k.2) new.keys ≡ cond (is_eq (beside r q p k)) b (contains_by (beside k.0 k.1 k.2) old.keys)

-- the key is the one that was handed in
pub handed : (old new : Ranks) (r : ℕ) (x q y p : ℤ) (b : Bool) → x ≡ q → y ≡ p → Becomes old new r x y b → Becomes old new r q p b
handed old new r x q y p b e f u = subst (λ z. Becomes old new r q z b) f (subst (λ z. Becomes old new r z y b) e u)

module _ (old new : Ranks) (r : ℕ) (q p : ℤ) where
  at_itself : (b : Bool) → Becomes old new r q p b → contains_by (beside r q p) new.keys ≡ b
  at_itself b u = u (r, q, p) ∙ ap (λ x. cond x b (contains_by (beside r q p) old.keys)) (equal_self r q p)

  pub put_there : FitsSigned w64 p → Becomes old new r q p true → HasRanked new r q p
  put_there fits u = (at_itself true u, fits)

  pub put_kept : Becomes old new r q p true → (s : ℕ) (y z : ℤ) → HasRanked old s y z → HasRanked new s y z
  put_kept u s y z h = (u (s, y, z) ∙ by (is_eq (beside r q p (s, y, z))) (contains_by (beside s y z) old.keys) h.0, h.1)
    where
      by : (b c : Bool) → c ≡ true → cond b true c ≡ true
      by true c e = refl
      by false c e = e

  put_only : Becomes old new r q p true → (s : ℕ) (y z : ℤ) → (AreEqual r q p (s, y, z) → ⊥) → HasRanked new s y z → HasRanked old s y z
  put_only u s y z other h = (by (is_eq (beside r q p (s, y, z))) (contains_by (beside s y z) old.keys) (λ e. other (equal_parts r q p (s, y, z) e)) (sym (u (s, y, z)) ∙ h.0), h.1)
    where
      by : (b c : Bool) → (b ≡ true → ⊥) → cond b true c ≡ true → c ≡ true
      by true c n e = absurd (n refl)
      by false c n e = e

  pub put_others : Becomes old new r q p true → (s : ℕ) (y z : ℤ) → ((r ≡ s) × (q ≡ y) → ⊥) → HasRanked new s y z → HasRanked old s y z
  put_others u s y z other h = put_only u s y z (λ e. other (e.rank, e.part)) h

  pub put_elsewhere : Becomes old new r q p true → (s : ℕ) (y z : ℤ) → z ≢ p → HasRanked new s y z → HasRanked old s y z
  put_elsewhere u s y z other h = put_only u s y z (λ e. other (sym e.place)) h

  pub take_gone : Becomes old new r q p false → HasRanked new r q p → ⊥
  take_gone u h = let e = at_itself false u in let f = h.0 in absurd cc

  pub take_kept : Becomes old new r q p false → (s : ℕ) (y z : ℤ) → z ≢ p → HasRanked old s y z → HasRanked new s y z
  take_kept u s y z other h = (u (s, y, z) ∙ by (is_eq (beside r q p (s, y, z))) (contains_by (beside s y z) old.keys) (λ e. other (sym (equal_parts r q p (s, y, z) e).place)) h.0, h.1)
    where
      by : (b c : Bool) → (b ≡ true → ⊥) → c ≡ true → cond b false c ≡ true
      by true c n e = absurd (n refl)
      by false c n e = e

  pub take_only : Becomes old new r q p false → (s : ℕ) (y z : ℤ) → HasRanked new s y z → HasRanked old s y z
  take_only u s y z h = (by (is_eq (beside r q p (s, y, z))) (contains_by (beside s y z) old.keys) (sym (u (s, y, z)) ∙ h.0), h.1)
    where
      by : (b c : Bool) → cond b false c ≡ true → c ≡ true
      by true c e = absurd cc
      by false c e = e

-- ---- between two parts

abbrev key : ℕ → ℤ → ℤ → ℕ × ℤ × ℤ
key r q p = (r, q, p)

-- the bounds of a range are the keys that were handed in
pub bounded : (rs : Ranks) (r : ℕ) (x low y high : ℤ) (s e : ℕ × ℤ × ℤ) (all : List (ℕ × ℤ × ℤ)) → s.0 ≡ r → s.1 ≡ x → s.2 ≡ negsuc (2 ^ 63 - 1) → e.0 ≡ r → e.1 ≡ y → e.2 ≡ pos (2 ^ 63 - 1) → x ≡ low → y ≡ high
    → all ≡ filter (range_contains (λ (a b : ℕ × ℤ × ℤ). beside a.0 a.1 a.2 b) (Included s) (Included e)) rs.keys.keys
    → all ≡ filter (range_contains (λ (a b : ℕ × ℤ × ℤ). beside a.0 a.1 a.2 b) (Included (r, low, negsuc (2 ^ 63 - 1))) (Included (r, high, pos (2 ^ 63 - 1)))) rs.keys.keys
bounded rs r x low y high s e all s0 s1 s2 e0 e1 e2 l u is =
    let first = ap (λ a. key a s.1 s.2) s0 ∙ ap (λ b. key r b s.2) (s1 ∙ l) ∙ ap (λ d. key r low d) s2 in
    let last = ap (λ a. key a e.1 e.2) e0 ∙ ap (λ b. key r b e.2) (e1 ∙ u) ∙ ap (λ d. key r high d) e2 in
    is ∙ ap (λ a. filter (range_contains (λ (a b : ℕ × ℤ × ℤ). beside a.0 a.1 a.2 b) (Included a) (Included e)) rs.keys.keys) first
    ∙ ap (λ a. filter (range_contains (λ (a b : ℕ × ℤ × ℤ). beside a.0 a.1 a.2 b) (Included (key r low (negsuc (2 ^ 63 - 1)))) (Included a)) rs.keys.keys) last

abbrev pub places_in : List (ℕ × ℤ × ℤ) → List ℤ
places_in ks = map (λ (k : ℕ × ℤ × ℤ). k.2) ks

pub one_more : (xs new whole : List ℤ) (k : ℕ × ℤ × ℤ) (ks rest : List (ℕ × ℤ × ℤ)) → ks ≡ k ∷ rest → new ≡ xs ++ k.2 ∷ [] → xs ++ places_in ks ≡ whole → new ++ places_in rest ≡ whole
one_more xs new whole k ks rest split put h = ap (λ l. l ++ places_in rest) put ∙ append_assoc xs (k.2 ∷ []) (places_in rest) ∙ sym (ap (λ l. xs ++ places_in l) split) ∙ h

-- a test that passes the key
pub lies_between : (test : ℕ × ℤ × ℤ → Bool) (r : ℕ) (q p : ℤ) (ks : List (ℕ × ℤ × ℤ)) → test (r, q, p) ≡ true → list_any (λ k. is_eq (beside r q p k)) ks ≡ true → is_among p (places_in (filter test ks)) ≡ true
lies_between test r q p [] t h = absurd cc
lies_between test r q p (k ∷ ks) t h = by (test k) refl (or_cases (is_eq (beside r q p k)) (list_any (λ k. is_eq (beside r q p k)) ks) h) (λ e. lies_between test r q p ks t e)
  where
    same : is_eq (beside r q p k) ≡ true → (r, q, p) ≡ k
    same e =
        let x = equal_parts r q p k e in
        ap (λ a. key a q p) x.rank ∙ ap (λ b. key k.0 b p) x.part ∙ ap (λ d. key k.0 k.1 d) x.place

    by : (b : Bool) → test k ≡ b → (is_eq (beside r q p k) ≡ true) ⊎ (list_any (λ k. is_eq (beside r q p k)) ks ≡ true) → (list_any (λ k. is_eq (beside r q p k)) ks ≡ true → is_among p (places_in (filter test ks)) ≡ true)
        → is_among p (places_in (cond b (k ∷ filter test ks) (filter test ks))) ≡ true
    by true e (inl one) more = or_left (int_eq k.2 p) (is_among p (places_in (filter test ks))) (subst (λ z. int_eq z p ≡ true) (equal_parts r q p k one).place (same_place p))
    by true e (inr rest) more = or_right (int_eq k.2 p) (is_among p (places_in (filter test ks))) (more rest)
    by false e (inl one) more = let x : test k ≡ true = subst (λ z. test z ≡ true) (same one) t in absurd cc
    by false e (inr rest) more = more rest

within : (p : ℤ) → FitsSigned w64 p → (negsuc (2 ^ 63 - 1) ≤ℤ p) × (p ≤ℤ pos (2 ^ 63 - 1))
within (pos n) h = (omega (arith, ints), omega (arith, ints, h.sfits))
within (negsuc n) h = (omega (arith, ints, h.sfits), omega (arith, ints))

module _ (r : ℕ) (low high q p : ℤ) (l : low ≤ℤ q) (u : q ≤ℤ high) (fits : FitsSigned w64 p) where
  not_before : is_le (beside r low (negsuc (2 ^ 63 - 1)) (r, q, p)) ≡ true
  not_before = by (nat_cmp r r) (int_cmp low q) (int_cmp (negsuc (2 ^ 63 - 1)) p) (ranks r r) (int_ranked low q (int_cmp low q) refl) (int_ranked (negsuc (2 ^ 63 - 1)) p (int_cmp (negsuc (2 ^ 63 - 1)) p) refl)
    where
      by : (a b c : Ordering) → MatchOrdering a (r < r) (r ≡ r) (r < r) → MatchOrdering b (low <ℤ q) (low ≡ q) (q <ℤ low) → MatchOrdering c (negsuc (2 ^ 63 - 1) <ℤ p) (negsuc (2 ^ 63 - 1) ≡ p) (p <ℤ negsuc (2 ^ 63 - 1))
          → is_le (ordering_then (ordering_then a b) c) ≡ true
      by Less b c x y z = refl
      by Greater b c x y z = absurd (omega (arith, x))
      by Alike Less c x y z = refl
      by Alike Greater c x y z = absurd (omega (arith, ints, l, y))
      by Alike Alike Less x y z = refl
      by Alike Alike Alike x y z = refl
      by Alike Alike Greater x y z = let w = (within p fits).0 in absurd (omega (arith, ints, z, w))

  not_past : is_lt (beside r high (pos (2 ^ 63 - 1)) (r, q, p)) ≡ false
  not_past = by (nat_cmp r r) (int_cmp high q) (int_cmp (pos (2 ^ 63 - 1)) p) (ranks r r) (int_ranked high q (int_cmp high q) refl) (int_ranked (pos (2 ^ 63 - 1)) p (int_cmp (pos (2 ^ 63 - 1)) p) refl)
    where
      by : (a b c : Ordering) → MatchOrdering a (r < r) (r ≡ r) (r < r) → MatchOrdering b (high <ℤ q) (high ≡ q) (q <ℤ high) → MatchOrdering c (pos (2 ^ 63 - 1) <ℤ p) (pos (2 ^ 63 - 1) ≡ p) (p <ℤ pos (2 ^ 63 - 1))
          → is_lt (ordering_then (ordering_then a b) c) ≡ false
      by Less b c x y z = absurd (omega (arith, x))
      by Greater b c x y z = refl
      by Alike Less c x y z = absurd (omega (arith, ints, u, y))
      by Alike Greater c x y z = refl
      by Alike Alike Less x y z = let w = (within p fits).1 in absurd (omega (arith, ints, z, w))
      by Alike Alike Alike x y z = refl
      by Alike Alike Greater x y z = refl

  -- the keys are those between the two
  pub found_between : (rs : Ranks) (all left : List (ℕ × ℤ × ℤ)) (places : List ℤ)
      → all ≡ filter (range_contains (λ (x y : ℕ × ℤ × ℤ). beside x.0 x.1 x.2 y) (Included (r, low, negsuc (2 ^ 63 - 1))) (Included (r, high, pos (2 ^ 63 - 1)))) rs.keys.keys
      → left ≡ [] → places ++ places_in left ≡ places_in all → HasRanked rs r q p → is_among p places ≡ true
  found_between rs all left places is none whole there =
      let test = range_contains (λ (x y : ℕ × ℤ × ℤ). beside x.0 x.1 x.2 y) (Included (r, low, negsuc (2 ^ 63 - 1))) (Included (r, high, pos (2 ^ 63 - 1))) in
      let passes : test (r, q, p) ≡ true = ap (λ b. b && not (is_lt (beside r high (pos (2 ^ 63 - 1)) (r, q, p)))) not_before ∙ ap not not_past in
      let e : places ≡ places_in all = sym (append-nil places) ∙ sym (ap (λ ks. places ++ places_in ks) none) ∙ whole in
      ap (is_among p) (e ∙ ap places_in is) ∙ lies_between test r q p rs.keys.keys passes there.0
