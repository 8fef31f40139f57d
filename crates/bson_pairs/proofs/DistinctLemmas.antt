-- Lists of distinct keys.
use Rattle.std.proofs.Common.{◌≡◌, ◌&&◌, ◌⊎◌, inl, inr, ℕ, zero, suc, ◌<◌, Bool, true, false, cond, List, [], ◌∷◌, length, get_or, slice_get, Option, Some, None, is_some, String, string_bytes, bytes_eq, refl, sym, ap, ◌∙◌, arith, true≢false}
use Rattle.std.specs.Cmp.{first_so, second_so}
use Rattle.std.specs.Cmp.Lexicographic.{nat_list_eq_equiv}
use Rattle.std.specs.List.{IsDistinct, list_all}
use Rattle.std.specs.Map.{keys_of, values_of}
use Rattle.std.specs.Option.{option_eq}
use Rattle.std.specs.declared.alloc.Global.{Global}
use Rattle.std.proofs.lemmas.Map.Entries.{lookup_from_place, length-keys_of}
use Rattle.std.proofs.lemmas.Slice.Eq.{bytes_eq-Decides}
use Rattle.std.proofs.Math.ListN.{get_or-map, length-map}
use Rattle.bson_pairs.specs.Keyed.{Key, key_bytes, get, has_key}
use Rattle.bson_pairs.specs.Same.{same_at, there_passes}
use Rattle.std.proofs.lemmas.Bool.{and_from}

module _ {V : Type 0} where
  pair_at : (ps : List (Key × V)) (i : ℕ) (k : Key) (v : V) → i < length ps → k ≡ get_or (keys_of ps) i k → v ≡ get_or (values_of ps) i v → slice_get ps i ≡ Some (k, v)
  pair_at [] i k v h a b = absurd (omega arith)
  pair_at (p ∷ ps) zero k v h a b = λ j. Some (sym a j, sym b j)
  pair_at (p ∷ ps) (suc i) k v h a b = pair_at ps i k v (omega arith) a b

  -- the value at a key's place is the one under the key
  pub get_at_place : (ps : List (Key × V)) (ks : List (String Global)) (i : ℕ) (s : String Global) (v : V) (k : Key) → key_bytes ks ≡ keys_of ps → IsDistinct bytes_eq (keys_of ps)
      → i < length ks → s ≡ get_or ks i s → v ≡ get_or (values_of ps) i v → bytes_eq (string_bytes s) k ≡ true → Some v ≡ get k ps
  get_at_place ps ks i s v k e distinct h a b same =
      let here : string_bytes s ≡ get_or (keys_of ps) i (string_bytes s) = ap string_bytes a ∙ sym (get_or-map string_bytes ks i s) ∙ ap (λ l. get_or l i (string_bytes s)) e in
      let long : length ks ≡ length ps = sym (length-map ks string_bytes) ∙ ap length e ∙ length-keys_of ps in
      sym (lookup_from_place nat_list_eq_equiv ps i (string_bytes s) v distinct (pair_at ps i (string_bytes s) v (omega arith) here b)) ∙ ap (λ q. get q ps) ((bytes_eq-Decides (string_bytes s) k).0 same)

-- ---- tests of all keys

module _ {V : Type 0} where
  later_too : (q : Key × V) (qs : List (Key × V)) (ks : List Key) → list_all (λ k. has_key k qs) ks ≡ true → list_all (λ k. has_key k (q ∷ qs)) ks ≡ true
  later_too q qs [] h = refl
  later_too q qs (k ∷ ks) h =
      and_from _ _ (elim (bytes_eq k q.0) as (λ b. is_some (cond b (Some q.1) (get k qs)) ≡ true) [ true ↦ refl | false ↦ first_so _ _ h ]) (later_too q qs ks (second_so (has_key k qs) _ h))

  has_each : (qs : List (Key × V)) → list_all (λ k. has_key k qs) (keys_of qs) ≡ true
  has_each [] = refl
  has_each (q ∷ qs) = and_from _ _ (ap (λ b. is_some (cond b (Some q.1) (get q.0 qs))) ((bytes_eq-Decides q.0 q.0).1 refl)) (later_too q qs (keys_of qs) (has_each qs))

-- two tests agree on the keys that pass a third, if they agree wherever it passes
agree : (t u v : Key → Bool) → ((k : Key) → v k ≡ true → t k ≡ u k) → (ks : List Key) → list_all v ks ≡ true → list_all t ks ≡ list_all u ks
agree t u v f [] h = refl
agree t u v f (k ∷ ks) h = λ i. f k (first_so _ _ h) i && agree t u v f ks (second_so (v k) _ h) i

module _ {V : Type 0} (E : V → V → Bool) where
  as_there : (p q : Option V) → is_some q ≡ true → (p ≡ None) ⊎ (option_eq E p q ≡ true) → is_some p ≡ option_eq E p q
  as_there p None s h = absurd (true≢false (sym s))
  as_there None (Some y) s h = refl
  as_there (Some x) (Some y) s (inl e) = absurd (true≢false (ap is_some e))
  as_there (Some x) (Some y) s (inr e) = sym e

  -- if all keys of the first have equal values, it is enough that the second has no other key
  pub pairs_eq-has_all : (ps qs : List (Key × V)) → list_all (same_at E ps qs) (keys_of ps) ≡ true → list_all (λ k. has_key k ps) (keys_of qs) ≡ list_all (same_at E ps qs) (keys_of qs)
  pairs_eq-has_all ps qs h =
      agree (λ k. has_key k ps) (same_at E ps qs) (λ k. has_key k qs) (λ k s. as_there (get k ps) (get k qs) s (there_passes (same_at E ps qs) k ps h)) (keys_of qs) (has_each qs)
