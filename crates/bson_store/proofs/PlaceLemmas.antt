-- Rows that are read at ascending places are read in the order of the table.
use Rattle.std.proofs.Common.{◌≡◌, ◌⊎◌, inl, inr, ◌<ℤ◌, ◌++◌, ◌∷◌, [], ℕ, ℤ, List, map, filter, find, Bool, true, false, ◌||◌, cond, Option, Some, None, refl, sym, ap, ap₂, subst, ◌∙◌, arith}
use Rattle.std.specs.List.{AllByRecursion}
use Rattle.std.specs.Ordering.{int_eq}
use Rattle.std.proofs.lemmas.Int.{ints}
use Rattle.bson_store.specs.Lists.{Ascends, is_among}
use Rattle.store_table.specs.Moves.{body_if_in}
use Rattle.store_table.specs.Rows.{TableRow, IsRising, is_at, is_in}
use Rattle.store_table.proofs.PlaceLemmas.{way, not_at_below, not_at_above, at_same, all_past, all_after}
use Rattle.bson_store.specs.Asking.{bodies_at, bodies_by}

abbrev among : List ℤ → TableRow → Bool
among places d = is_among d.place places

-- a row below all places is passed over
skipped : (coll : List ℕ) (places : List ℤ) (d : TableRow) (ds : List TableRow) → AllByRecursion (λ q. d.place <ℤ q) places → bodies_at coll places (d ∷ ds) ≡ bodies_at coll places ds
skipped coll [] d ds h = refl
skipped coll (q ∷ places) d ds h =
    let off : is_at q d ≡ false = not_at_below q d h.0 in
    ap₂ (λ (o : Option TableRow) (rest : List (List ℕ)). body_if_in coll o ++ rest) (ap (λ (b : Bool). cond b (Some d) (find (is_at q) ds)) off) (skipped coll places d ds h.1)

-- a place below all rows has none
absent : (p : ℤ) (docs : List TableRow) → AllByRecursion (λ (d : TableRow). p <ℤ d.place) docs → find (is_at p) docs ≡ None
absent p [] h = refl
absent p (d ∷ docs) h = ap (λ (b : Bool). cond b (Some d) (find (is_at p) docs)) (not_at_above p d h.0) ∙ absent p docs h.1

-- a place below all others is not among them
not_among : (p : ℤ) (places : List ℤ) → AllByRecursion (λ q. p <ℤ q) places → is_among p places ≡ false
not_among p [] h = refl
not_among p (q ∷ places) h =
    let off : int_eq q p ≡ false = not_at_above p (record { place = q; coll = []; idkey = []; body = [] }) h.0 in
    ap₂ (λ (a b : Bool). a || b) off (not_among p places h.1)

one_less : (p : ℤ) (places : List ℤ) (d : TableRow) → p <ℤ d.place → among (p ∷ places) d ≡ among places d
one_less p places d h =
    let off : int_eq p d.place ≡ false = not_at_below d.place (record { place = p; coll = []; idkey = []; body = [] }) h in
    ap (λ (a : Bool). a || is_among d.place places) off

further : (a p : ℤ) (places : List ℤ) → a <ℤ p → AllByRecursion (λ q. p <ℤ q) places → AllByRecursion (λ q. a <ℤ q) places
further a p [] l h = tt
further a p (q ∷ places) l h =
    let step = h.0 in
    let now : a <ℤ q = omega (arith, ints, l, step) in
    (now, further a p places l h.1)

-- the place of no row makes no difference
same_bodies : (coll : List ℕ) (p : ℤ) (places : List ℤ) (docs : List TableRow) → AllByRecursion (λ (d : TableRow). p <ℤ d.place) docs → bodies_by (among (p ∷ places)) coll docs ≡ bodies_by (among places) coll docs
same_bodies coll p places [] h = refl
same_bodies coll p places (d ∷ docs) h = by (is_in coll d) (same_bodies coll p places docs h.1)
  where
    at : (b : Bool) → bodies_by (among (p ∷ places)) coll docs ≡ bodies_by (among places) coll docs
        → map (λ (e : TableRow). e.body) (cond b (d ∷ filter (among (p ∷ places)) (filter (is_in coll) docs)) (filter (among (p ∷ places)) (filter (is_in coll) docs))) ≡ map (λ (e : TableRow). e.body) (cond b (d ∷ filter (among places) (filter (is_in coll) docs)) (filter (among places) (filter (is_in coll) docs)))
    at true rec = ap (λ z. d.body ∷ z) rec
    at false rec = rec

    by : (b : Bool) → bodies_by (among (p ∷ places)) coll docs ≡ bodies_by (among places) coll docs
        → map (λ (e : TableRow). e.body) (filter (among (p ∷ places)) (cond b (d ∷ filter (is_in coll) docs) (filter (is_in coll) docs))) ≡ map (λ (e : TableRow). e.body) (filter (among places) (cond b (d ∷ filter (is_in coll) docs) (filter (is_in coll) docs)))
    by true rec = ap (λ (b : Bool). map (λ (e : TableRow). e.body) (cond b (d ∷ filter (among (p ∷ places)) (filter (is_in coll) docs)) (filter (among (p ∷ places)) (filter (is_in coll) docs)))) (one_less p places d h.0) ∙ at (among places d) rec
    by false rec = rec

-- a row of which the test is known
first_row : (test : TableRow → Bool) (coll : List ℕ) (d : TableRow) (docs : List TableRow) → test d ≡ true → bodies_by test coll (d ∷ docs) ≡ cond (is_in coll d) (d.body ∷ []) [] ++ bodies_by test coll docs
first_row test coll d docs t = by (is_in coll d)
  where
    by : (b : Bool) → map (λ (e : TableRow). e.body) (filter test (cond b (d ∷ filter (is_in coll) docs) (filter (is_in coll) docs))) ≡ cond b (d.body ∷ []) [] ++ bodies_by test coll docs
    by true = ap (λ (x : Bool). map (λ (e : TableRow). e.body) (cond x (d ∷ filter test (filter (is_in coll) docs)) (filter test (filter (is_in coll) docs)))) t
    by false = refl

no_row : (test : TableRow → Bool) (coll : List ℕ) (d : TableRow) (docs : List TableRow) → test d ≡ false → bodies_by test coll (d ∷ docs) ≡ bodies_by test coll docs
no_row test coll d docs t = by (is_in coll d)
  where
    by : (b : Bool) → map (λ (e : TableRow). e.body) (filter test (cond b (d ∷ filter (is_in coll) docs) (filter (is_in coll) docs))) ≡ bodies_by test coll docs
    by true = ap (λ (x : Bool). map (λ (e : TableRow). e.body) (cond x (d ∷ filter test (filter (is_in coll) docs)) (filter test (filter (is_in coll) docs)))) t
    by false = refl

none_by : (coll : List ℕ) (docs : List TableRow) → bodies_by (among []) coll docs ≡ []
none_by coll [] = refl
none_by coll (d ∷ docs) = no_row (among []) coll d docs refl ∙ none_by coll docs

nothing_at : (coll : List ℕ) (places : List ℤ) → bodies_at coll places [] ≡ []
nothing_at coll [] = refl
nothing_at coll (p ∷ places) = nothing_at coll places

pub in_order : (coll : List ℕ) (places : List ℤ) (docs : List TableRow) → Ascends places → IsRising docs → bodies_at coll places docs ≡ bodies_by (λ (d : TableRow). is_among d.place places) coll docs
in_order coll [] docs up rising = sym (none_by coll docs)
in_order coll (p ∷ places) [] up rising = nothing_at coll (p ∷ places)
in_order coll (p ∷ places) (d ∷ docs) up rising =
    by (way d.place p) (in_order coll places docs up.1 rising.1) (in_order coll (p ∷ places) docs up rising.1) (in_order coll places (d ∷ docs) up.1 rising)
  where
    here : d.place ≡ p → bodies_at coll places docs ≡ bodies_by (among places) coll docs → bodies_at coll (p ∷ places) (d ∷ docs) ≡ bodies_by (among (p ∷ places)) coll (d ∷ docs)
    here e rec =
        let at : is_at p d ≡ true = at_same p d e in
        let is : among (p ∷ places) d ≡ true = ap (λ (b : Bool). b || is_among d.place places) (at_same d.place (record { place = p; coll = []; idkey = []; body = [] }) (sym e)) in
        let rest = skipped coll places d docs (subst (λ (q : ℤ). AllByRecursion (λ x. q <ℤ x) places) (sym e) up.0) ∙ rec ∙ sym (same_bodies coll p places docs (all_past p d docs e rising.0)) in
        ap₂ (λ (b : Bool) (bs : List (List ℕ)). body_if_in coll (cond b (Some d) (find (is_at p) docs)) ++ bs) at rest ∙ sym (first_row (among (p ∷ places)) coll d docs is)

    before : d.place <ℤ p → bodies_at coll (p ∷ places) docs ≡ bodies_by (among (p ∷ places)) coll docs → bodies_at coll (p ∷ places) (d ∷ docs) ≡ bodies_by (among (p ∷ places)) coll (d ∷ docs)
    before l rec =
        let below : AllByRecursion (λ q. d.place <ℤ q) (p ∷ places) = (l, further d.place p places l up.0) in
        skipped coll (p ∷ places) d docs below ∙ rec ∙ sym (no_row (among (p ∷ places)) coll d docs (not_among d.place (p ∷ places) below))

    behind : p <ℤ d.place → bodies_at coll places (d ∷ docs) ≡ bodies_by (among places) coll (d ∷ docs) → bodies_at coll (p ∷ places) (d ∷ docs) ≡ bodies_by (among (p ∷ places)) coll (d ∷ docs)
    behind g rec =
        let above : AllByRecursion (λ (e : TableRow). p <ℤ e.place) (d ∷ docs) = (g, all_after p d docs g rising.0) in
        ap (λ (o : Option TableRow). body_if_in coll o ++ bodies_at coll places (d ∷ docs)) (absent p (d ∷ docs) above) ∙ rec ∙ sym (same_bodies coll p places (d ∷ docs) above)

    by : (d.place <ℤ p) ⊎ ((d.place ≡ p) ⊎ (p <ℤ d.place)) → bodies_at coll places docs ≡ bodies_by (among places) coll docs → bodies_at coll (p ∷ places) docs ≡ bodies_by (among (p ∷ places)) coll docs
        → bodies_at coll places (d ∷ docs) ≡ bodies_by (among places) coll (d ∷ docs) → bodies_at coll (p ∷ places) (d ∷ docs) ≡ bodies_by (among (p ∷ places)) coll (d ∷ docs)
    by (inl l) one two three = before l two
    by (inr (inl e)) one two three = here e one
    by (inr (inr g)) one two three = behind g three
