-- Values mean the same exactly if their normal forms with keys in order are equal.
use Rattle.std.proofs.Common.{◌≡◌, ℕ, List, Option, Some, None, refl, ap, ◌∙◌, sym}
use Rattle.std.specs.Prelude.{bytes_eq, option_map, is_some, IsSomeAnd}
use Rattle.bson_meaning.specs.Forms.{norm_in_order, norm_items_in_order, norm_members_in_order, norm, norm_members, asc, Same, SameItems, SameUnder}
use Rattle.bson_meaning.specs.declared.scalars.Zeros.{Zeros}
use Rattle.bson_model.specs.Equal.{SameKeys}
use Rattle.bson_base.specs.Value.{Value, scalar, array, document, scoped_code, Items, no_items, item, Members, no_members, member, look_up, HasDistinctKeys, ItemsHaveDistinctKeys, MembersHaveDistinctKeys}
use Rattle.bson_meaning.proofs.OrderLemmas.{look_up-asc, look_up-norm, ascending_asc, same_members}
use Rattle.bson_base.proofs.MemberLemmas.{headed, found_under, later}

pub some_and_map : (o : Option Value) (P Q : Value → Type 0) → ((w : Value) → P w → Q w) → IsSomeAnd o P → IsSomeAnd o Q
some_and_map None P Q f h = h
some_and_map (Some w) P Q f h = f w h

module _ (zeros : Zeros) where
  twice_mapped : (o : Option Value) → option_map asc (option_map (norm zeros) o) ≡ option_map (norm_in_order zeros) o
  twice_mapped (Some v) = refl
  twice_mapped None = refl

  pub look_up-in_order : (q : List ℕ) (ms : Members) → look_up q (norm_members_in_order zeros ms) ≡ option_map (norm_in_order zeros) (look_up q ms)
  look_up-in_order q ms = look_up-asc q (norm_members zeros ms) ∙ ap (option_map asc) (look_up-norm zeros q ms) ∙ twice_mapped (look_up q ms)

  alike : (o p : Option Value) → is_some o ≡ is_some p → ((v : Value) → o ≡ Some v → IsSomeAnd p (λ w. norm_in_order zeros v ≡ norm_in_order zeros w)) → option_map (norm_in_order zeros) o ≡ option_map (norm_in_order zeros) p
  alike None None h f = refl
  alike None (Some w) h f = cc
  alike (Some v) None h f = cc
  alike (Some v) (Some w) h f = ap Some (f v refl)

  members_alike : (ms ns : Members) → SameKeys ms ns → ((q : List ℕ) (v : Value) → look_up q ms ≡ Some v → IsSomeAnd (look_up q ns) (λ w. norm_in_order zeros v ≡ norm_in_order zeros w)) → norm_members_in_order zeros ms ≡ norm_members_in_order zeros ns
  members_alike ms ns keys under = same_members _ _ (ascending_asc (norm_members zeros ms)) (ascending_asc (norm_members zeros ns))
      (λ q. look_up-in_order q ms ∙ alike (look_up q ms) (look_up q ns) (keys q) (under q) ∙ sym (look_up-in_order q ns))

  mutual
    pub in_order_same : (v w : Value) → Same zeros v w → norm_in_order zeros v ≡ norm_in_order zeros w
    in_order_same (scalar s) (scalar t) h = ap scalar h
    in_order_same (array vs) (array ws) h = ap array (items_same vs ws h)
    in_order_same (document ms) (document ns) h = ap document (members_alike ms ns h.0 (λ q v e. under_at ms ns h.1 q v e))
    in_order_same (scoped_code t ms) (scoped_code u ns) h = let i : t ≡ u = h.0 in let j : norm_members_in_order zeros ms ≡ norm_members_in_order zeros ns = members_alike ms ns h.1 (λ q v e. under_at ms ns h.2 q v e) in cc
    in_order_same _ _ h = absurd h

    items_same : (vs ws : Items) → SameItems zeros vs ws → norm_items_in_order zeros vs ≡ norm_items_in_order zeros ws
    items_same no_items no_items h = refl
    items_same (item v vs) (item w ws) h = let i : norm_in_order zeros v ≡ norm_in_order zeros w = in_order_same v w h.0 in let j : norm_items_in_order zeros vs ≡ norm_items_in_order zeros ws = items_same vs ws h.1 in cc
    items_same _ _ h = absurd h

    under_at : (ms ns : Members) → SameUnder zeros ms ns → (q : List ℕ) (u : Value) → look_up q ms ≡ Some u → IsSomeAnd (look_up q ns) (λ w. norm_in_order zeros u ≡ norm_in_order zeros w)
    under_at no_members ns h q u e = cc
    under_at (member k v ms) ns h q u e =
        found_under (λ x w. norm_in_order zeros x ≡ norm_in_order zeros w) q k v u (look_up q ms) ns (bytes_eq q k) refl e (some_and_map (look_up k ns) _ _ (in_order_same v) h.0) (under_at ms ns h.1 q u)

  -- ---- and back

  abbrev Meets : Members → Members → Type 0
  Meets ms ns = (q : List ℕ) (v : Value) → look_up q ms ≡ Some v → IsSomeAnd (look_up q ns) (λ w. norm_in_order zeros v ≡ norm_in_order zeros w)

  known : (o p : Option Value) → option_map (norm_in_order zeros) o ≡ option_map (norm_in_order zeros) p → (v : Value) → o ≡ Some v → IsSomeAnd p (λ w. norm_in_order zeros v ≡ norm_in_order zeros w)
  known None p e v h = cc
  known (Some u) None e v h = cc
  known (Some u) (Some w) e v h = let i : u ≡ v = cc in let j : norm_in_order zeros u ≡ norm_in_order zeros w = cc in ap (norm_in_order zeros) (sym i) ∙ j

  kept_some : (o : Option Value) → is_some (option_map (norm_in_order zeros) o) ≡ is_some o
  kept_some None = refl
  kept_some (Some v) = refl

  stand_alike : (ms ns : Members) → norm_members_in_order zeros ms ≡ norm_members_in_order zeros ns → (q : List ℕ) → option_map (norm_in_order zeros) (look_up q ms) ≡ option_map (norm_in_order zeros) (look_up q ns)
  stand_alike ms ns e q = sym (look_up-in_order q ms) ∙ ap (look_up q) e ∙ look_up-in_order q ns

  keys_alike : (ms ns : Members) → norm_members_in_order zeros ms ≡ norm_members_in_order zeros ns → SameKeys ms ns
  keys_alike ms ns e q = sym (kept_some (look_up q ms)) ∙ ap is_some (stand_alike ms ns e q) ∙ kept_some (look_up q ns)

  meets : (ms ns : Members) → norm_members_in_order zeros ms ≡ norm_members_in_order zeros ns → Meets ms ns
  meets ms ns e q = known (look_up q ms) (look_up q ns) (stand_alike ms ns e q)

  mutual
    pub same_in_order : (v w : Value) → HasDistinctKeys v → norm_in_order zeros v ≡ norm_in_order zeros w → Same zeros v w
    same_in_order (scalar s) (scalar t) d e = cc
    same_in_order (array vs) (array ws) d e = let i : norm_items_in_order zeros vs ≡ norm_items_in_order zeros ws = cc in same_items vs ws d i
    same_in_order (document ms) (document ns) d e = let i : norm_members_in_order zeros ms ≡ norm_members_in_order zeros ns = cc in (keys_alike ms ns i, same_under ms ns d (meets ms ns i))
    same_in_order (scoped_code t ms) (scoped_code u ns) d e =
        let i : norm_members_in_order zeros ms ≡ norm_members_in_order zeros ns = cc in
        let j : t ≡ u = cc in
        (j, keys_alike ms ns i, same_under ms ns d (meets ms ns i))
    same_in_order _ _ d e = cc

    same_items : (vs ws : Items) → ItemsHaveDistinctKeys vs → norm_items_in_order zeros vs ≡ norm_items_in_order zeros ws → SameItems zeros vs ws
    same_items no_items no_items d e = tt
    same_items (item v vs) (item w ws) d e =
        let i : norm_in_order zeros v ≡ norm_in_order zeros w = cc in
        let j : norm_items_in_order zeros vs ≡ norm_items_in_order zeros ws = cc in
        (same_in_order v w d.0 i, same_items vs ws d.1 j)
    same_items _ _ d e = cc

    same_under : (ms ns : Members) → MembersHaveDistinctKeys ms → Meets ms ns → SameUnder zeros ms ns
    same_under no_members ns d f = tt
    same_under (member k v ms) ns d f =
        (some_and_map (look_up k ns) _ _ (λ w. same_in_order v w d.1) (f k v (headed k v ms)), same_under ms ns d.2 (λ q u e. f q u (later q k v u ms d.0 e)))
