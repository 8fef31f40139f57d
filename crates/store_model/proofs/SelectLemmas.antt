-- A filter selects both or neither of two values that mean the same.
use Rattle.std.proofs.Common.{◌≡◌, ◌↔◌, inl, inr, ℕ, suc, List, [], ◌∷◌, Bool, true, false, cond, Option, Some, None, refl, ◌∙◌, sym, subst}
use Rattle.std.specs.Prelude.{bytes_eq, IsSomeAnd, option_and_then, decimal as digits}
use Rattle.store_model.specs.Filter.{under_places, pairs, at, Filter, equals, exists, is_of, no, all_of, any_of, Filters, no_filters, filter, IsSoundFilter, AreSoundFilters, Selects, SelectsAll, SelectsAny, SameFilter, SameFilters}
use Rattle.bson_model.specs.Equal.{SameKeys}
use Rattle.bson_meaning.specs.Meaning.{norm_in_order, Same, SameItems, SameUnder, SameOption}
use Rattle.bson_base.specs.Value.{Value, scalar, array, document, scoped_code, Items, no_items, item, Members, no_members, member, look_up, value_kind, HasDistinctKeys, ItemsHaveDistinctKeys, MembersHaveDistinctKeys}
use Rattle.bson_meaning.proofs.NowLemmas.{in_order_same, same_in_order}
use Rattle.bson_meaning.proofs.ComparisonLemmas.{same_kind}
use Rattle.bson_meaning.proofs.PairwiseLemmas.{to_alike}

-- ---- what is under a key

pub same_look_up : (ms ns : Members) (q : List ℕ) → SameKeys ms ns → SameUnder ms ns → SameOption (look_up q ms) (look_up q ns)
same_look_up ms ns q keys under = to_alike ms ns keys under q

same_keyed : (i : ℕ) (vs ws : Items) (q : List ℕ) → SameItems vs ws → SameOption (look_up q (under_places i vs)) (look_up q (under_places i ws))
same_keyed i no_items no_items q h = tt
same_keyed i (item v vs) (item w ws) q h = by (bytes_eq q (digits i)) (same_keyed (suc i) vs ws q h.1)
  where
    by : (b : Bool) → SameOption (look_up q (under_places (suc i) vs)) (look_up q (under_places (suc i) ws)) → SameOption (cond b (Some v) (look_up q (under_places (suc i) vs))) (cond b (Some w) (look_up q (under_places (suc i) ws)))
    by true r = h.0
    by false r = r
same_keyed i _ _ q h = absurd h

same_pairs : (v w : Value) (q : List ℕ) → Same v w → SameOption (look_up q (pairs v)) (look_up q (pairs w))
same_pairs (scalar s) (scalar t) q h = tt
same_pairs (array vs) (array ws) q h = same_keyed 0 vs ws q h
same_pairs (document ms) (document ns) q h = same_look_up ms ns q h.0 h.1
same_pairs (scoped_code t ms) (scoped_code u ns) q h = tt
same_pairs _ _ q h = absurd h

pub same_at : (path : List (List ℕ)) (v w : Value) → Same v w → SameOption (at v path) (at w path)
same_at [] v w h = h
same_at (k ∷ path) v w h = on (look_up k (pairs v)) (look_up k (pairs w)) (same_at path) (same_pairs v w k h)
  where
    on : (o p : Option Value) → ((x y : Value) → Same x y → SameOption (at x path) (at y path)) → SameOption o p → SameOption (option_and_then (λ x. at x path) o) (option_and_then (λ y. at y path) p)
    on None None f r = tt
    on (Some x) (Some y) f r = f x y r
    on _ _ f r = absurd r

-- ---- distinct keys

abbrev pub Distinct? : Option Value → Type 0
Distinct? None = Unit {0}
Distinct? (Some v) = HasDistinctKeys v

pub look_up_distinct : (ms : Members) (q : List ℕ) → MembersHaveDistinctKeys ms → Distinct? (look_up q ms)
look_up_distinct no_members q h = tt
look_up_distinct (member k v ms) q h = by (bytes_eq q k) (look_up_distinct ms q h.2)
  where
    by : (b : Bool) → Distinct? (look_up q ms) → Distinct? (cond b (Some v) (look_up q ms))
    by true r = h.1
    by false r = r

keyed_distinct : (i : ℕ) (vs : Items) (q : List ℕ) → ItemsHaveDistinctKeys vs → Distinct? (look_up q (under_places i vs))
keyed_distinct i no_items q h = tt
keyed_distinct i (item v vs) q h = by (bytes_eq q (digits i)) (keyed_distinct (suc i) vs q h.1)
  where
    by : (b : Bool) → Distinct? (look_up q (under_places (suc i) vs)) → Distinct? (cond b (Some v) (look_up q (under_places (suc i) vs)))
    by true r = h.0
    by false r = r

pairs_distinct : (v : Value) (q : List ℕ) → HasDistinctKeys v → Distinct? (look_up q (pairs v))
pairs_distinct (scalar s) q h = tt
pairs_distinct (array vs) q h = keyed_distinct 0 vs q h
pairs_distinct (document ms) q h = look_up_distinct ms q h
pairs_distinct (scoped_code t ms) q h = tt

pub at_distinct : (path : List (List ℕ)) (v : Value) → HasDistinctKeys v → Distinct? (at v path)
at_distinct [] v h = h
at_distinct (k ∷ path) v h = on (look_up k (pairs v)) (at_distinct path) (pairs_distinct v k h)
  where
    on : (o : Option Value) → ((x : Value) → HasDistinctKeys x → Distinct? (at x path)) → Distinct? o → Distinct? (option_and_then (λ x. at x path) o)
    on None f r = tt
    on (Some x) f r = f x r

-- ---- filters

-- there is a value in both or in neither, and what is said of the one is said of the other
pub carried : (o p : Option Value) (P Q : Value → Type 0) → SameOption o p → Distinct? o → Distinct? p
    → ((x y : Value) → Same x y → HasDistinctKeys x → HasDistinctKeys y → P x ↔ Q y) → IsSomeAnd o P ↔ IsSomeAnd p Q
carried None None P Q s a b f = (λ h. h, λ h. h)
carried (Some x) (Some y) P Q s a b f = f x y s a b
carried _ _ P Q s a b f = absurd s

-- values may be exchanged for others of one meaning on both sides
pub exchanged : (x y v w : Value) → Same x y → Same v w → HasDistinctKeys x → HasDistinctKeys y → Same x v ↔ Same y w
exchanged x y v w a b c d =
    let i : norm_in_order x ≡ norm_in_order y = in_order_same x y a in
    let j : norm_in_order v ≡ norm_in_order w = in_order_same v w b in
    (λ h. same_in_order y w d (sym i ∙ in_order_same x v h ∙ j), λ h. same_in_order x v c (i ∙ in_order_same y w h ∙ sym j))

over : (p q : List (List ℕ)) (d e : Value) (P Q : Value → Type 0) → p ≡ q → Same d e → HasDistinctKeys d → HasDistinctKeys e
    → ((x y : Value) → Same x y → HasDistinctKeys x → HasDistinctKeys y → P x ↔ Q y) → IsSomeAnd (at d p) P ↔ IsSomeAnd (at e q) Q
over p q d e P Q i h k l f =
    subst (λ r. IsSomeAnd (at d p) P ↔ IsSomeAnd (at e r) Q) i (carried (at d p) (at e p) P Q (same_at p d e h) (at_distinct p d k) (at_distinct p e l) f)

mutual
  pub selects_same : (f g : Filter) (d e : Value) → SameFilter f g → Same d e → HasDistinctKeys d → HasDistinctKeys e → Selects f d ↔ Selects g e
  selects_same (equals p x) (equals q y) d e s h k l = over p q d e _ _ s.0 h k l (λ u v r a b. exchanged u v x y r s.1 a b)
  selects_same (exists p) (exists q) d e s h k l = over p q d e _ _ s h k l (λ u v r a b. (λ t. t, λ t. t))
  selects_same (is_of p m) (is_of q n) d e s h k l = over p q d e _ _ s.0 h k l (λ u v r a b. let i : value_kind u ≡ value_kind v = same_kind u v r in (λ t. sym i ∙ t ∙ s.1, λ t. i ∙ t ∙ sym s.1))
  selects_same (no f) (no g) d e s h k l = let r = selects_same f g d e s h k l in (λ n t. n (r.1 t), λ n t. n (r.0 t))
  selects_same (all_of fs) (all_of gs) d e s h k l = selects_all fs gs d e s h k l
  selects_same (any_of fs) (any_of gs) d e s h k l = selects_any fs gs d e s h k l
  selects_same _ _ d e s h k l = absurd s

  selects_all : (fs gs : Filters) (d e : Value) → SameFilters fs gs → Same d e → HasDistinctKeys d → HasDistinctKeys e → SelectsAll fs d ↔ SelectsAll gs e
  selects_all no_filters no_filters d e s h k l = (λ t. t, λ t. t)
  selects_all (filter f fs) (filter g gs) d e s h k l =
      let a = selects_same f g d e s.0 h k l in
      let b = selects_all fs gs d e s.1 h k l in
      (λ t. (a.0 t.0, b.0 t.1), λ t. (a.1 t.0, b.1 t.1))
  selects_all _ _ d e s h k l = absurd s

  selects_any : (fs gs : Filters) (d e : Value) → SameFilters fs gs → Same d e → HasDistinctKeys d → HasDistinctKeys e → SelectsAny fs d ↔ SelectsAny gs e
  selects_any no_filters no_filters d e s h k l = (λ t. t, λ t. t)
  selects_any (filter f fs) (filter g gs) d e s h k l =
      let a = selects_same f g d e s.0 h k l in
      let b = selects_any fs gs d e s.1 h k l in
      (elim [ inl t ↦ inl (a.0 t) | inr t ↦ inr (b.0 t) ], elim [ inl t ↦ inl (a.1 t) | inr t ↦ inr (b.1 t) ])
  selects_any _ _ d e s h k l = absurd s

mutual
  -- a filter is the same as itself
  pub same_filter : (f : Filter) → IsSoundFilter f → SameFilter f f
  same_filter (equals p v) h = (refl, same_in_order v v h.distinct refl)
  same_filter (exists p) h = refl
  same_filter (is_of p k) h = (refl, refl)
  same_filter (no f) h = same_filter f h
  same_filter (all_of fs) h = same_filters fs h
  same_filter (any_of fs) h = same_filters fs h

  same_filters : (fs : Filters) → AreSoundFilters fs → SameFilters fs fs
  same_filters no_filters h = tt
  same_filters (filter f fs) h = (same_filter f h.0, same_filters fs h.1)
