-- Pairs ascending by their keys, and what a hasher is fed of them.
use Rattle.std.specs.Prelude.{◌≡◌, Bool, true, T, cond, List, [], ◌∷◌, ◌++◌, Option, Some, None}
use Rattle.std.specs.Option.{option_map, option_eq}
use Rattle.std.specs.Ordering.{nat_cmp}
use Rattle.std.specs.declared.cmp.Ordering.{Ordering}
use Rattle.std.specs.declared.cmp.Ordering.TheVariants.{Less, Equal, Greater}
use Rattle.std.specs.Cmp.Lexicographic.{slice_cmp, nat_list_cmp_total}
use Rattle.std.specs.FinMap.{slice_cmp-IsAntisymmetric, nat_cmp-IsAntisymmetric}
use Rattle.std.specs.FinMap.Entries.{put as place, find, is_sorted, by_order, find-put, is_sorted-put, same_entries}
use Rattle.std.specs.Hash.{HashWrites, str}
use Rattle.std.specs.List.{flat_map}
use Rattle.std.proofs.Common.{refl, sym, ap, ◌∙◌, true≢false}
use Rattle.std.proofs.lemmas.Map.Text.{is_eq-slice_cmp}
use Rattle.bson_pairs.specs.Keyed.{Key, get}
use Rattle.bson_pairs.specs.Over.{over, get-over}
use Rattle.bson_pairs.specs.Same.{pairs_eq, each_from_pairs_eq}

-- the order of keys: that of their bytes
abbrev pub key_cmp : Key → Key → Ordering
key_cmp = slice_cmp nat_cmp

-- the pairs, ascending by their keys (the first one if a key occurs twice)
abbrev pub ascending : {V : Type 0} → List (Key × V) → List (Key × V)
ascending [] = []
ascending (p ∷ ps) = place key_cmp p.0 p.1 (ascending ps)

-- the writes of the key, and then those of the value
abbrev pub pair_writes : {V : Type 0} → (V → HashWrites) → Key × V → HashWrites
pair_writes H p = str p.0 ++ H p.1

-- the writes of each pair, ascending by the keys
abbrev pub pairs_writes : {V : Type 0} → (V → HashWrites) → List (Key × V) → HashWrites
pairs_writes H ps = flat_map (pair_writes H) (ascending ps)

module _ {V : Type 0} where
  pub find-ascending : (q : Key) (ps : List (Key × V)) → find key_cmp q (ascending ps) ≡ get q ps
  find-ascending q [] = refl
  find-ascending q (p ∷ ps) = find-put key_cmp nat_list_cmp_total q p.0 p.1 (ascending ps) ∙ (λ i. cond (is_eq-slice_cmp q p.0 i) (Some p.1) (find-ascending q ps i))

  pub is_sorted-ascending : (ps : List (Key × V)) → T (is_sorted key_cmp (ascending ps))
  is_sorted-ascending [] = tt
  is_sorted-ascending (p ∷ ps) = is_sorted-put key_cmp nat_list_cmp_total p.0 p.1 (ascending ps) (is_sorted-ascending ps)

  -- lists in which every look-up finds the same are one list, once ascending
  pub same_ascending : (ps qs : List (Key × V)) → ((q : Key) → get q ps ≡ get q qs) → ascending ps ≡ ascending qs
  same_ascending ps qs same =
      same_entries key_cmp nat_list_cmp_total (slice_cmp-IsAntisymmetric nat_cmp-IsAntisymmetric) (ascending ps) (ascending qs) (is_sorted-ascending ps) (is_sorted-ascending qs)
      (λ q. find-ascending q ps ∙ same q ∙ sym (find-ascending q qs))

module _ {V W : Type 0} (h : V → W) where
  by_order-over : (o : Ordering) (a b c : List (Key × V)) → by_order o (over h a) (over h b) (over h c) ≡ over h (by_order o a b c)
  by_order-over Less a b c = refl
  by_order-over Equal a b c = refl
  by_order-over Greater a b c = refl

  place-over : (k : Key) (v : V) (ps : List (Key × V)) → place key_cmp k (h v) (over h ps) ≡ over h (place key_cmp k v ps)
  place-over k v [] = refl
  place-over k v (p ∷ ps) =
      ap (λ l. by_order (key_cmp k p.0) ((k, h v) ∷ over h (p ∷ ps)) ((p.0, h v) ∷ over h ps) ((p.0, h p.1) ∷ l)) (place-over k v ps)
      ∙ by_order-over (key_cmp k p.0) ((k, v) ∷ p ∷ ps) ((p.0, v) ∷ ps) (p ∷ place key_cmp k v ps)

  pub ascending-over : (ps : List (Key × V)) → ascending (over h ps) ≡ over h (ascending ps)
  ascending-over [] = refl
  ascending-over (p ∷ ps) = ap (place key_cmp p.0 (h p.1)) (ascending-over ps) ∙ place-over p.0 p.1 (ascending ps)

  writes-over : (H : W → HashWrites) (ps : List (Key × V)) → flat_map (pair_writes H) (over h ps) ≡ flat_map (pair_writes (λ v. H (h v))) ps
  writes-over H [] = refl
  writes-over H (p ∷ ps) = ap (λ l. pair_writes H (p.0, h p.1) ++ l) (writes-over H ps)

  pub pairs_writes-over : (H : W → HashWrites) (ps : List (Key × V)) → pairs_writes H (over h ps) ≡ pairs_writes (λ v. H (h v)) ps
  pairs_writes-over H ps = ap (flat_map (pair_writes H)) (ascending-over ps) ∙ writes-over H (ascending ps)

module _ {V : Type 0} (E : V → V → Bool) (H : V → HashWrites) (fed : (x y : V) → E x y ≡ true → H x ≡ H y) where
  fed_option : (p q : Option V) → option_eq E p q ≡ true → option_map H p ≡ option_map H q
  fed_option None None h = refl
  fed_option None (Some y) h = absurd (true≢false (sym h))
  fed_option (Some x) None h = absurd (true≢false (sym h))
  fed_option (Some x) (Some y) h = ap Some (fed x y h)

  -- equal pairs are fed alike
  pub pairs_writes_respect : (ps qs : List (Key × V)) → pairs_eq E ps qs ≡ true → pairs_writes H ps ≡ pairs_writes H qs
  pairs_writes_respect ps qs h =
      let same : (q : Key) → get q (over H ps) ≡ get q (over H qs)
      = λ q. get-over H q ps ∙ fed_option (get q ps) (get q qs) (each_from_pairs_eq E ps qs h q) ∙ sym (get-over H q qs) in
      sym (pairs_writes-over H (λ w. w) ps) ∙ ap (flat_map (pair_writes (λ w. w))) (same_ascending (over H ps) (over H qs) same) ∙ pairs_writes-over H (λ w. w) qs
