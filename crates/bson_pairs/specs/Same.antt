-- Equality of lists of pairs that ignores their order: under each key of either, both have a value, and the two are equal.
use Rattle.std.specs.Prelude.{◌≡◌, Bool, true, false, cond, ◌&&◌, ◌⊎◌, List, [], ◌∷◌, Option, Some, None, refl, bytes_eq}
use Rattle.std.specs.List.{list_all}
use Rattle.std.specs.Option.{option_eq}
use Rattle.std.specs.Map.{keys_of}
use Rattle.std.specs.Cmp.{IsEquivalence, IsPartialEquivalence, equiv, partial_equiv_from_equiv, first_so, second_so}
use Rattle.std.proofs.Common.{sym, ap, ◌∙◌, inl, inr, true≢false}
use Rattle.std.proofs.lemmas.Slice.Eq.{bytes_eq-Decides}
use Rattle.bson_pairs.specs.Keyed.{Key, get}

module _ {V : Type 0} (E : V → V → Bool) where
  abbrev pub same_at : List (Key × V) → List (Key × V) → Key → Bool
  same_at ps qs k = option_eq E (get k ps) (get k qs)

  abbrev pub pairs_eq : List (Key × V) → List (Key × V) → Bool
  pairs_eq ps qs = list_all (same_at ps qs) (keys_of ps) && list_all (same_at ps qs) (keys_of qs)

and_comm : (a b : Bool) → (a && b) ≡ (b && a)
and_comm true true = refl
and_comm true false = refl
and_comm false true = refl
and_comm false false = refl

all_pass : (t : Key → Bool) → ((k : Key) → t k ≡ true) → (ks : List Key) → list_all t ks ≡ true
all_pass t f [] = refl
all_pass t f (k ∷ ks) = ap (λ b. b && list_all t ks) (f k) ∙ all_pass t f ks

-- a key that is there passes
pub there_passes : {V : Type 0} (t : Key → Bool) (k : Key) (ps : List (Key × V)) → list_all t (keys_of ps) ≡ true → (get k ps ≡ None) ⊎ (t k ≡ true)
there_passes t k [] h = inl refl
there_passes {V} t k (p ∷ ps) h = next (bytes_eq k p.0) refl (there_passes t k ps (second_so (t p.0) _ h))
  where
    next : (b : Bool) → bytes_eq k p.0 ≡ b → (get k ps ≡ None) ⊎ (t k ≡ true) → (cond (bytes_eq k p.0) (Some p.1) (get k ps) ≡ None) ⊎ (t k ≡ true)
    next true e r = inr (ap t ((bytes_eq-Decides k p.0).0 e) ∙ first_so (t p.0) _ h)
    next false e (inl n) = inl (ap (λ b. cond b (Some p.1) (get k ps)) e ∙ n)
    next false e (inr y) = inr y

module _ {V : Type 0} (E : V → V → Bool) where
  option_eq_symm : ((x y : V) → E x y ≡ E y x) → (p q : Option V) → option_eq E p q ≡ option_eq E q p
  option_eq_symm f None None = refl
  option_eq_symm f None (Some y) = refl
  option_eq_symm f (Some x) None = refl
  option_eq_symm f (Some x) (Some y) = f x y

  option_eq_trans : ((x y z : V) → E x y ≡ true → E y z ≡ true → E x z ≡ true) → (p q s : Option V) → option_eq E p q ≡ true → option_eq E q s ≡ true → option_eq E p s ≡ true
  option_eq_trans f None None s a b = b
  option_eq_trans f None (Some y) s a b = absurd (true≢false (sym a))
  option_eq_trans f (Some x) None s a b = absurd (true≢false (sym a))
  option_eq_trans f (Some x) (Some y) None a b = b
  option_eq_trans f (Some x) (Some y) (Some z) a b = f x y z a b

  option_eq_refl : ((x : V) → E x x ≡ true) → (p : Option V) → option_eq E p p ≡ true
  option_eq_refl f None = refl
  option_eq_refl f (Some x) = f x

  pub pairs_eq_from_each : (ps qs : List (Key × V)) → ((k : Key) → same_at E ps qs k ≡ true) → pairs_eq E ps qs ≡ true
  pairs_eq_from_each ps qs h = λ i. all_pass (same_at E ps qs) h (keys_of ps) i && all_pass (same_at E ps qs) h (keys_of qs) i

  by_cases : (ps qs : List (Key × V)) (k : Key) → (get k ps ≡ None) ⊎ (same_at E ps qs k ≡ true) → (get k qs ≡ None) ⊎ (same_at E ps qs k ≡ true) → same_at E ps qs k ≡ true
  by_cases ps qs k (inr y) b = y
  by_cases ps qs k (inl a) (inr y) = y
  by_cases ps qs k (inl a) (inl b) = λ i. option_eq E (a i) (b i)

  pub each_from_pairs_eq : (ps qs : List (Key × V)) → pairs_eq E ps qs ≡ true → (k : Key) → same_at E ps qs k ≡ true
  each_from_pairs_eq ps qs h k = by_cases ps qs k (there_passes (same_at E ps qs) k ps (first_so _ _ h)) (there_passes (same_at E ps qs) k qs (second_so _ _ h))

  pub pairs_eq_symm : ((x y : V) → E x y ≡ E y x) → (ps qs : List (Key × V)) → pairs_eq E ps qs ≡ pairs_eq E qs ps
  pairs_eq_symm f ps qs =
      let back : (k : Key) → same_at E ps qs k ≡ same_at E qs ps k = λ k. option_eq_symm f (get k ps) (get k qs) in
      and_comm (list_all (same_at E ps qs) (keys_of ps)) (list_all (same_at E ps qs) (keys_of qs)) ∙ (λ i. list_all (λ k. back k i) (keys_of qs) && list_all (λ k. back k i) (keys_of ps))

  pub pairs_eq_trans : ((x y z : V) → E x y ≡ true → E y z ≡ true → E x z ≡ true) → (ps qs rs : List (Key × V)) → pairs_eq E ps qs ≡ true → pairs_eq E qs rs ≡ true → pairs_eq E ps rs ≡ true
  pairs_eq_trans f ps qs rs a b = pairs_eq_from_each ps rs (λ k. option_eq_trans f (get k ps) (get k qs) (get k rs) (each_from_pairs_eq ps qs a k) (each_from_pairs_eq qs rs b k))

  pub pairs_eq_partial : IsPartialEquivalence E → IsPartialEquivalence (pairs_eq E)
  pairs_eq_partial v = record { symm = pairs_eq_symm v.symm; trans = pairs_eq_trans v.trans }

  pub pairs_eq_equiv : IsEquivalence E → IsEquivalence (pairs_eq E)
  pairs_eq_equiv v = equiv (pairs_eq_partial (partial_equiv_from_equiv v)) (λ ps. pairs_eq_from_each ps ps (λ k. option_eq_refl v.refl (get k ps)))
