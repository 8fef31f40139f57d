-- Documents compared pair by pair, the keys of both ascending.
use Rattle.std.proofs.Common.{◌≡◌, ◌↔◌, ℕ, ◌≤◌, max, List, [], ◌∷◌, Bool, true, false, not, IsTrue, MatchOption, cond, Option, Some, None, refl, ap, ◌∙◌, sym, subst, arith}
use Rattle.std.specs.FinMap.Entries.{put, by_order}
use Rattle.std.specs.List.{IsDistinct}
use Rattle.std.specs.Map.{keys_of}
use Rattle.std.specs.Ordering.{match_ordering}
use Rattle.std.specs.Prelude.{bytes_eq, is_some, IsSomeAnd}
use Rattle.std.specs.declared.cmp.Ordering.{Ordering}
use Rattle.std.specs.declared.cmp.Ordering.TheVariants.{Less, Equal, Greater}
use Rattle.bson_base.specs.Value.{Value, Members, no_members, member, look_up, levels, members_levels, MembersHaveDistinctKeys}
use Rattle.bson_model.specs.Equal.{SameKeys}
use Rattle.bson_model.specs.Keyed.{Key, ascending}
use Rattle.bson_model.specs.View.{members_of}
use Rattle.bson_model.proofs.DistinctLemmas.{none_there}
use Rattle.bson_meaning.specs.Forms.{norm_members_in_order, norm_in_order, place}
use Rattle.bson_meaning.specs.Meaning.{Same, SameUnder, SameOption}
use Rattle.bson_meaning.specs.declared.scalars.Zeros.{Zeros}
use Rattle.bson_meaning.proofs.OrderLemmas.{Order, tied, turned, look_up-place, AllAbove, IsAscending, above_more, ascending_place, none_above}
use Rattle.bson_base.proofs.MemberLemmas.{equal_keys, same_key, headed, later, found_under}

-- ---- the keys of one level ascending, the values as they are

abbrev pub up : Members → Members
up no_members = no_members
up (member k v ms) = place k v (up ms)

members_put : (k : Key) (v : Value) (ps : List (Key × Value)) → members_of (put Order k v ps) ≡ place k v (members_of ps)
members_put k v [] = refl
members_put k v (p ∷ ps) = by (members_put k v ps) (Order k p.0) refl
  where
    by : members_of (put Order k v ps) ≡ place k v (members_of ps) → (o : Ordering) → Order k p.0 ≡ o
        → members_of (by_order o ((k, v) ∷ p ∷ ps) ((p.0, v) ∷ ps) (p ∷ put Order k v ps))
        ≡ match_ordering o (member k v (member p.0 p.1 (members_of ps))) (member k v (members_of ps)) (member p.0 p.1 (place k v (members_of ps)))
    by more Less e = refl
    by more Equal e = ap (λ l. member l v (members_of ps)) (sym (tied k p.0 e))
    by more Greater e = ap (member p.0 p.1) more

pub up_members : (ps : List (Key × Value)) → members_of (ascending ps) ≡ up (members_of ps)
up_members [] = refl
up_members (p ∷ ps) = members_put p.0 p.1 (ascending ps) ∙ ap (place p.0 p.1) (up_members ps)

look_up-up : (q : List ℕ) (ms : Members) → look_up q (up ms) ≡ look_up q ms
look_up-up q no_members = refl
look_up-up q (member k v ms) = look_up-place q k v (up ms) ∙ ap (cond (bytes_eq q k) (Some v)) (look_up-up q ms)

ascending_up : (ms : Members) → IsAscending (up ms)
ascending_up no_members = tt
ascending_up (member k v ms) = ascending_place k v (up ms) (ascending_up ms)

pub levels_place : (k : List ℕ) (v : Value) (ms : Members) → members_levels (place k v ms) ≤ max (levels v) (members_levels ms)
levels_place k v no_members = omega arith
levels_place k v (member l w ms) = by (levels_place k v ms) (Order k l)
  where
    by : members_levels (place k v ms) ≤ max (levels v) (members_levels ms) → (o : Ordering)
        → members_levels (match_ordering o (member k v (member l w ms)) (member k v ms) (member l w (place k v ms))) ≤ max (levels v) (max (levels w) (members_levels ms))
    by low Less = omega arith
    by low Equal = omega arith
    by low Greater = omega (arith, low)

levels_up : (ms : Members) → members_levels (up ms) ≤ members_levels ms
levels_up no_members = omega arith
levels_up (member k v ms) = omega (arith, levels_place k v (up ms), levels_up ms)

pub ascending_low : (ps : List (Key × Value)) → members_levels (members_of (ascending ps)) ≤ members_levels (members_of ps)
ascending_low ps = subst (λ ms. members_levels ms ≤ members_levels (members_of ps)) (sym (up_members ps)) (levels_up (members_of ps))

-- ---- another value under each key

abbrev pub each : (Value → Value) → Members → Members
each f no_members = no_members
each f (member k v ms) = member k (f v) (each f ms)

place_changed : (f : Value → Value) (k : List ℕ) (v : Value) (ms : Members) → place k (f v) (each f ms) ≡ each f (place k v ms)
place_changed f k v no_members = refl
place_changed f k v (member l w ms) = by (place_changed f k v ms) (Order k l)
  where
    by : place k (f v) (each f ms) ≡ each f (place k v ms) → (o : Ordering)
        → match_ordering o (member k (f v) (member l (f w) (each f ms))) (member k (f v) (each f ms)) (member l (f w) (place k (f v) (each f ms)))
        ≡ each f (match_ordering o (member k v (member l w ms)) (member k v ms) (member l w (place k v ms)))
    by more Less = refl
    by more Equal = refl
    by more Greater = ap (member l (f w)) more

module _ (zeros : Zeros) where
  in_order_up : (ms : Members) → norm_members_in_order zeros ms ≡ each (norm_in_order zeros) (up ms)
  in_order_up no_members = refl
  in_order_up (member k v ms) = ap (place k (norm_in_order zeros v)) (in_order_up ms) ∙ place_changed (norm_in_order zeros) k v (up ms)

  -- the normal form with its keys ascending, pair by pair
  pub in_order_ascending : (ps : List (Key × Value)) → norm_members_in_order zeros (members_of ps) ≡ each (norm_in_order zeros) (members_of (ascending ps))
  in_order_ascending ps = in_order_up (members_of ps) ∙ ap (each (norm_in_order zeros)) (sym (up_members ps))

-- ---- the same meaning under each key

abbrev pub Alike : Members → Members → Type 0
Alike ms ns = (q : List ℕ) → SameOption (look_up q ms) (look_up q ns)

both_there : (o p : Option Value) → SameOption o p → is_some o ≡ is_some p
both_there None None a = refl
both_there None (Some w) a = absurd a
both_there (Some v) None a = absurd a
both_there (Some v) (Some w) a = refl

some_same : (o p : Option Value) (u : Value) → SameOption o p → o ≡ Some u → IsSomeAnd p (Same u)
some_same None p u a e = cc
some_same (Some v) None u a e = absurd a
some_same (Some v) (Some w) u a e = let i : v ≡ u = cc in subst (λ x. Same x w) i a

-- the keys of this level are distinct
abbrev pub StandOnce : Members → Type 0
StandOnce no_members = Unit {0}
StandOnce (member k v ms) = (look_up k ms ≡ None) × StandOnce ms

pub stand_once : (ps : List (Key × Value)) → IsDistinct bytes_eq (keys_of ps) → StandOnce (members_of ps)
unfolding IsDistinct
stand_once [] h = tt
stand_once (p ∷ ps) h = (none_there p.0 ps h.0, stand_once ps h.1)

pub once_here : (ms : Members) → MembersHaveDistinctKeys ms → StandOnce ms
once_here no_members d = tt
once_here (member k v ms) d = (d.0, once_here ms d.2)

under_each : (ms ns : Members) → StandOnce ms → ((q : List ℕ) (u : Value) → look_up q ms ≡ Some u → IsSomeAnd (look_up q ns) (Same u)) → SameUnder ms ns
under_each no_members ns once f = tt
under_each (member k v ms) ns once f = (f k v (headed k v ms), under_each ms ns once.1 (λ q u e. f q u (later q k v u ms once.0 e)))

pub from_alike : (ms ns : Members) → StandOnce ms → Alike ms ns → SameKeys ms ns × SameUnder ms ns
from_alike ms ns once a = (λ q. both_there (look_up q ms) (look_up q ns) (a q), under_each ms ns once (λ q u e. some_same (look_up q ms) (look_up q ns) u (a q) e))

under_at : (ms ns : Members) → SameUnder ms ns → (q : List ℕ) (u : Value) → look_up q ms ≡ Some u → IsSomeAnd (look_up q ns) (Same u)
under_at no_members ns h q u e = cc
under_at (member k v ms) ns h q u e = found_under Same q k v u (look_up q ms) ns (bytes_eq q k) refl e h.0 (under_at ms ns h.1 q u)

alike_at : (o p : Option Value) → is_some o ≡ is_some p → ((u : Value) → o ≡ Some u → IsSomeAnd p (Same u)) → SameOption o p
alike_at None None e f = tt
alike_at None (Some w) e f = cc
alike_at (Some v) None e f = cc
alike_at (Some v) (Some w) e f = f v refl

pub to_alike : (ms ns : Members) → SameKeys ms ns → SameUnder ms ns → Alike ms ns
to_alike ms ns keys under q = alike_at (look_up q ms) (look_up q ns) (keys q) (under_at ms ns under q)

alike_up : (ms ns : Members) → Alike ms ns → Alike (up ms) (up ns)
alike_up ms ns a q = subst (λ o. SameOption o (look_up q (up ns))) (sym (look_up-up q ms)) (subst (SameOption (look_up q ms)) (sym (look_up-up q ns)) (a q))

alike_down : (ms ns : Members) → Alike (up ms) (up ns) → Alike ms ns
alike_down ms ns a q = subst (λ o. SameOption o (look_up q ns)) (look_up-up q ms) (subst (SameOption (look_up q (up ms))) (look_up-up q ns) (a q))

-- ---- pair by pair

abbrev pub SameInTurn : Members → Members → Type 0
SameInTurn no_members no_members = Unit {0}
SameInTurn (member k v ms) (member l w ns) = (k ≡ l) × Same v w × SameInTurn ms ns
SameInTurn _ _ = ⊥

turn_alike : (ms ns : Members) → SameInTurn ms ns → Alike ms ns
turn_alike no_members no_members h q = tt
turn_alike (member k v ms) (member l w ns) h q =
    subst (λ m. SameOption (cond (bytes_eq q k) (Some v) (look_up q ms)) (cond (bytes_eq q m) (Some w) (look_up q ns))) h.0 (by (bytes_eq q k) (turn_alike ms ns h.2 q))
  where
    by : (b : Bool) → SameOption (look_up q ms) (look_up q ns) → SameOption (cond b (Some v) (look_up q ms)) (cond b (Some w) (look_up q ns))
    by true a = h.1
    by false a = a
turn_alike _ _ h q = absurd h

both_none : (o p : Option Value) → o ≡ None → p ≡ None → SameOption o p
both_none o p e f = subst (λ x. SameOption x p) (sym e) (subst (SameOption None) (sym f) tt)

-- if both heads have one key, what is said of all keys is said of the later ones
behind : (k : List ℕ) (v w : Value) (ms ns : Members) → AllAbove k ms → AllAbove k ns → Alike (member k v ms) (member k w ns) → Alike ms ns
behind k v w ms ns a b f q = by (bytes_eq q k) refl (f q)
  where
    by : (c : Bool) → bytes_eq q k ≡ c → SameOption (cond c (Some v) (look_up q ms)) (cond c (Some w) (look_up q ns)) → SameOption (look_up q ms) (look_up q ns)
    by true e h = subst (λ l. SameOption (look_up l ms) (look_up l ns)) (sym (equal_keys q k e)) (both_none (look_up k ms) (look_up k ns) (none_above k ms a) (none_above k ns b))
    by false e h = h

alike_turn : (ms ns : Members) → IsAscending ms → IsAscending ns → Alike ms ns → SameInTurn ms ns
alike_turn no_members no_members a b f = tt
alike_turn no_members (member l w ns) a b f = subst (SameOption None) (headed l w ns) (f l)
alike_turn (member k v ms) no_members a b f = subst (λ o. SameOption o None) (headed k v ms) (f k)
alike_turn (member k v ms) (member l w ns) a b f = by (alike_turn ms ns a.1 b.1) (Order k l) refl
  where
    by : (Alike ms ns → SameInTurn ms ns) → (o : Ordering) → Order k l ≡ o → SameInTurn (member k v ms) (member l w ns)
    by more Less e =
        let none = none_above k (member l w ns) (e, above_more k l ns e b.0) in
        absurd (subst (SameOption (Some v)) none (subst (λ o. SameOption o (look_up k (member l w ns))) (headed k v ms) (f k)))
    by more Greater e =
        let less = turned k l e in
        let none = none_above l (member k v ms) (less, above_more l k ms less a.0) in
        absurd (subst (λ o. SameOption o (Some w)) none (subst (SameOption (look_up l (member k v ms))) (headed l w ns) (f l)))
    by more Equal e =
        let i : k ≡ l = tied k l e in
        let g = subst (λ m. (q : List ℕ) → SameOption (look_up q (member k v ms)) (look_up q (member m w ns))) (sym i) f in
        let same = subst (λ o. SameOption o (Some w)) (headed k v ms) (subst (SameOption (look_up k (member k v ms))) (headed k w ns) (g k)) in
        (i, same, more (behind k v w ms ns a.0 (subst (λ m. AllAbove m ns) (sym i) b.0) g))

-- documents mean the same if their pairs do, place by place
pub in_turn : (ps qs : List (Key × Value)) → IsDistinct bytes_eq (keys_of ps)
    → (SameKeys (members_of ps) (members_of qs) × SameUnder (members_of ps) (members_of qs)) ↔ SameInTurn (members_of (ascending ps)) (members_of (ascending qs))
in_turn ps qs once =
    let ms = members_of ps in
    let ns = members_of qs in (
      λ h. subst (λ m. SameInTurn m (members_of (ascending qs))) (sym (up_members ps)) (subst (SameInTurn (up ms)) (sym (up_members qs)) (alike_turn (up ms) (up ns) (ascending_up ms) (ascending_up ns) (alike_up ms ns (to_alike ms ns h.0 h.1)))),
      λ h. from_alike ms ns (stand_once ps once) (alike_down ms ns (turn_alike (up ms) (up ns) (subst (SameInTurn (up ms)) (up_members qs) (subst (λ m. SameInTurn m (members_of (ascending qs))) (up_members ps) h)))),
    )

-- ---- what `next` returns

pub ended_if : {X : Type 0} (seen : X → Key × Value) (r : Option X) (left more : List (Key × Value)) (ended : Bool) → MatchOption r ((left ≡ []) × (more ≡ [])) (λ x. left ≡ seen x ∷ more) → is_some r ≡ not ended → IsTrue ended ↔ (left ≡ [])
ended_if seen None left more true h e = (λ _. h.0, λ _. refl)
ended_if seen None left more false h e = absurd cc
ended_if seen (Some x) left more true h e = absurd cc
ended_if seen (Some x) left more false h e = (λ t. absurd cc, λ n. cc)

-- keys that were compared
pub keys_differ : (k l : List ℕ) (b : Bool) → b ≡ not (bytes_eq k l) → b ≡ true → k ≡ l → ⊥
keys_differ k l b e t same = let one : bytes_eq k l ≡ true = subst (λ m. bytes_eq k m ≡ true) same (same_key k) in cc

pub keys_meet : (k l : List ℕ) (b : Bool) → b ≡ not (bytes_eq k l) → b ≡ false → k ≡ l
keys_meet k l b e f = equal_keys k l (by (bytes_eq k l) (sym f ∙ e))
  where
    by : (c : Bool) → false ≡ not c → c ≡ true
    by true g = refl
    by false g = cc

-- ---- one turn of a loop over both

module _ (A : Type 0) (rest left : List (Key × Value)) (so_far : A ↔ SameInTurn (members_of rest) (members_of left)) where
  at_heads : (ps qs : List (Key × Value)) → rest ≡ ps → left ≡ qs → A ↔ SameInTurn (members_of ps) (members_of qs)
  at_heads ps qs e f = (
    λ x. subst (λ y. SameInTurn (members_of ps) (members_of y)) f (subst (λ y. SameInTurn (members_of y) (members_of left)) e (so_far.0 x)),
    λ h. so_far.1 (subst (λ y. SameInTurn (members_of y) (members_of left)) (sym e) (subst (λ y. SameInTurn (members_of ps) (members_of y)) (sym f) h)),
  )

  -- the other has no pair left
  pub turn_longer : (p : Key × Value) (more : List (Key × Value)) → rest ≡ p ∷ more → left ≡ [] → A → ⊥
  turn_longer p more e f x = (at_heads (p ∷ more) [] e f).0 x

  -- the keys that come next differ
  pub turn_other_key : (p q : Key × Value) (more others : List (Key × Value)) → rest ≡ p ∷ more → left ≡ q ∷ others → (p.0 ≡ q.0 → ⊥) → A → ⊥
  turn_other_key p q more others e f n x = n ((at_heads (p ∷ more) (q ∷ others) e f).0 x).0

  -- the values that come next mean something else
  pub turn_other_value : (p q : Key × Value) (more others : List (Key × Value)) → rest ≡ p ∷ more → left ≡ q ∷ others → (Same p.1 q.1 → ⊥) → A → ⊥
  turn_other_value p q more others e f n x = n ((at_heads (p ∷ more) (q ∷ others) e f).0 x).1

  pub turn_more : (p q : Key × Value) (more others : List (Key × Value)) → rest ≡ p ∷ more → left ≡ q ∷ others → p.0 ≡ q.0 → Same p.1 q.1 → A ↔ SameInTurn (members_of more) (members_of others)
  turn_more p q more others e f k s = let both = at_heads (p ∷ more) (q ∷ others) e f in (λ x. (both.0 x).2, λ y. both.1 (k, s, y))

  none_left : (qs : List (Key × Value)) → SameInTurn no_members (members_of qs) → qs ≡ []
  none_left [] h = refl
  none_left (q ∷ qs) h = absurd h

  -- both have come to their end, or the other is longer
  pub turn_end : (ended : Bool) → rest ≡ [] → (IsTrue ended ↔ (left ≡ [])) → IsTrue ended ↔ A
  turn_end ended e last = (λ t. (at_heads [] [] e (last.0 t)).1 tt, λ x. last.1 (none_left left ((at_heads [] left e refl).0 x)))
