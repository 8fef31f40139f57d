-- One row by its place.
use Rattle.std.proofs.Common.{◌≡◌, ◌⊎◌, inl, inr, ◌<ℤ◌, ℕ, ℤ, List, [], ◌∷◌, map, filter, Bool, true, false, not, cond, if◌then◌else◌, refl, ap, subst, ◌∙◌, arith, Less, Equal, Greater, int_cmp, is_eq}
use Rattle.std.specs.List.{AllByRecursion}
use lib.Signed.{lt_z}
use Rattle.std.proofs.lemmas.Int.{ints}
use Rattle.std.proofs.lemmas.Bool.{cases_Bool}
use Rattle.std.proofs.lemmas.Bool.Decides.{nat_tests}
use Rattle.sqlite.specs.declared.types.Value.TheVariants.{Int}
use Rattle.sqlite_value.specs.Order.{value_cmp}
use Rattle.sqlite_value.proofs.OrderLemmas.{value_cmp-Int}
use Rattle.sqlite_trees.specs.Tree.{put_row, has_rowid, without_rowid}
use Rattle.store_table.specs.Rows.{TableRow, columns_of, IsRising, is_at, without_place, with_body_at}

-- three ways that two places compare
pub way : (a b : ℤ) → (a <ℤ b) ⊎ ((a ≡ b) ⊎ (b <ℤ a))
way a b = elim (cases_Bool (lt_z a b)) [
  | inl l ↦ inl (grind (arith, ints))
  | inr n ↦ elim (cases_Bool (lt_z b a)) [ inl g ↦ inr (inr (grind (arith, ints))) | inr m ↦ inr (inl (omega (arith, ints))) ]
]

pub below_is : (a b : ℤ) → a <ℤ b → value_cmp (Int a) (Int b) ≡ Less
below_is a b h = value_cmp-Int a b ∙ grind (arith, ints, nat_tests)

pub above_is : (a b : ℤ) → b <ℤ a → value_cmp (Int a) (Int b) ≡ Greater
above_is a b h = value_cmp-Int a b ∙ grind (arith, ints, nat_tests)

pub itself : (a : ℤ) → int_cmp a a ≡ Equal
itself a = grind (arith, ints, nat_tests)

pub not_at_below : (p : ℤ) (d : TableRow) → d.place <ℤ p → is_at p d ≡ false
not_at_below p d h = let e : int_cmp d.place p ≡ Less = grind (arith, ints, nat_tests) in ap is_eq e

pub not_at_above : (p : ℤ) (d : TableRow) → p <ℤ d.place → is_at p d ≡ false
not_at_above p d h = let e : int_cmp d.place p ≡ Greater = grind (arith, ints, nat_tests) in ap is_eq e

pub at_same : (p : ℤ) (d : TableRow) → d.place ≡ p → is_at p d ≡ true
at_same p d h = let e : int_cmp d.place p ≡ Equal = rw h (itself p) in ap is_eq e

pub rowid_is : (p : ℤ) (d : TableRow) → has_rowid p (columns_of d) ≡ is_at p d
rowid_is p d = ap is_eq (value_cmp-Int d.place p)

pub without_is : (p : ℤ) (docs : List TableRow) → without_rowid p (map columns_of docs) ≡ map columns_of (without_place p docs)
without_is p [] = refl
without_is p (d ∷ docs) = go (is_at p d) (rowid_is p d) (without_is p docs)
  where
    go : (b : Bool) → has_rowid p (columns_of d) ≡ b → without_rowid p (map columns_of docs) ≡ map columns_of (without_place p docs)
        → cond (not (has_rowid p (columns_of d))) (columns_of d ∷ without_rowid p (map columns_of docs)) (without_rowid p (map columns_of docs)) ≡ map columns_of (cond (not b) (d ∷ without_place p docs) (without_place p docs))
    go true e h = rw e h
    go false e h = rw e (ap (λ rows. columns_of d ∷ rows) h)

-- past the place, no row is at it
pub past : (p : ℤ) (docs : List TableRow) → AllByRecursion (λ d. p <ℤ d.place) docs → (filter (is_at p) docs ≡ []) × (without_place p docs ≡ docs)
past p [] h = (refl, refl)
past p (d ∷ docs) h = let more = past p docs h.1 in let off = not_at_above p d h.0 in (rw off more.0, rw off (ap (λ ds. d ∷ ds) more.1))

pub all_past : (p : ℤ) (a : TableRow) (docs : List TableRow) → a.place ≡ p → AllByRecursion (λ b. a.place <ℤ b.place) docs → AllByRecursion (λ d. p <ℤ d.place) docs
all_past p a docs e h = subst (λ q. AllByRecursion (λ (d : TableRow). q <ℤ d.place) docs) e h

pub all_after : (p : ℤ) (a : TableRow) (docs : List TableRow) → p <ℤ a.place → AllByRecursion (λ b. a.place <ℤ b.place) docs → AllByRecursion (λ d. p <ℤ d.place) docs
all_after p a [] e h = tt
all_after p a (d ∷ docs) e h = (omega (arith, ints, e, h.0), all_after p a docs e h.1)

-- at most one row is at a place
pub at_place : (p : ℤ) (docs : List TableRow) → IsRising docs → (filter (is_at p) docs ≡ []) ⊎ ((d : TableRow) × (filter (is_at p) docs ≡ d ∷ []) × (d.place ≡ p))
at_place p [] up = inl refl
at_place p (d ∷ docs) up = elim (way d.place p) [
  | inl low ↦ let off = not_at_below p d low in rw off (at_place p docs up.1)
  | inr (inl same) ↦ let on = at_same p d same in inr (d, rw on (ap (λ ds. d ∷ ds) (past p docs (all_past p d docs same up.0)).0), same)
  | inr (inr high) ↦ let off = not_at_above p d high in inl (rw off (past p docs (all_after p d docs high up.0)).0)
]

pub rising_without : (p : ℤ) (docs : List TableRow) → IsRising docs → IsRising (without_place p docs)
rising_without p [] up = tt
rising_without p (d ∷ docs) up = go (is_at p d) (rising_without p docs up.1)
  where
    kept : (ds : List TableRow) → AllByRecursion (λ b. d.place <ℤ b.place) ds → AllByRecursion (λ b. d.place <ℤ b.place) (without_place p ds)
    kept [] h = tt
    kept (e ∷ ds) h = at (is_at p e) (kept ds h.1)
      where
        at : (b : Bool) → AllByRecursion (λ b. d.place <ℤ b.place) (without_place p ds) → AllByRecursion (λ b. d.place <ℤ b.place) (cond (not b) (e ∷ without_place p ds) (without_place p ds))
        at true k = k
        at false k = (h.0, k)

    go : (b : Bool) → IsRising (without_place p docs) → IsRising (cond (not b) (d ∷ without_place p docs) (without_place p docs))
    go true h = h
    go false h = (kept docs up.0, h)

-- ---- the row at a place becomes another one, which has the same place

abbrev pub changed_at : ℤ → (TableRow → TableRow) → List TableRow → List TableRow
changed_at p f = map (λ d. if is_at p d then f d else d)

pub none_changed : (p : ℤ) (f : TableRow → TableRow) (docs : List TableRow) → filter (is_at p) docs ≡ [] → changed_at p f docs ≡ docs
none_changed p f [] h = refl
none_changed p f (d ∷ docs) h = go (is_at p d) refl (none_changed p f docs)
  where
    go : (b : Bool) → is_at p d ≡ b → (filter (is_at p) docs ≡ [] → changed_at p f docs ≡ docs) → changed_at p f (d ∷ docs) ≡ d ∷ docs
    go true e k = absurd (let x = rw e at h in cc)
    go false e k = rw e (ap (λ ds. d ∷ ds) (k (rw e at h)))

-- it is taken out and put back
pub put_back : (p : ℤ) (f : TableRow → TableRow) → ((d : TableRow) → (f d).place ≡ d.place) → (d : TableRow) (docs : List TableRow) → IsRising docs → filter (is_at p) docs ≡ d ∷ [] → d.place ≡ p
    → put_row (columns_of (f d)) (map columns_of (without_place p docs)) ≡ map columns_of (changed_at p f docs)
put_back p f stays d [] up one at = absurd (cc)
put_back p f stays d (x ∷ docs) up one at = elim (way x.place p) [
  | inl low ↦
      let off = not_at_below p x low in
      let less : value_cmp (Int x.place) (Int (f d).place) ≡ Less = below_is x.place (f d).place (rw (stays d, at) low) in
      rw off (rw less (ap (λ rows. columns_of x ∷ rows) (put_back p f stays d docs up.1 (rw off at one) at)))
  | inr (inl same) ↦
      let on = at_same p x same in
      let rest = past p docs (all_past p x docs same up.0) in
      let it : x ∷ filter (is_at p) docs ≡ d ∷ [] = rw on at one in
      let eq : x ≡ d = cc in
      rw (on, rest.1, none_changed p f docs rest.0) (subst (λ z. put_row (columns_of (f z)) (map columns_of docs) ≡ map columns_of (f x ∷ docs)) eq (first x docs up.0))
  | inr (inr high) ↦ absurd (let off = not_at_above p x high in let none = (past p docs (all_after p x docs high up.0)).0 in let it = rw (off, none) at one in cc)
]
  where
    first : (x : TableRow) (docs : List TableRow) → AllByRecursion (λ b. x.place <ℤ b.place) docs → put_row (columns_of (f x)) (map columns_of docs) ≡ map columns_of (f x ∷ docs)
    first x [] h = refl
    first x (y ∷ docs) h = let high : (f x).place <ℤ y.place = rw (stays x) h.0 in rw (above_is y.place (f x).place high) refl

place_kept : (p : ℤ) (f : TableRow → TableRow) → ((d : TableRow) → (f d).place ≡ d.place) → (d : TableRow) → (if is_at p d then f d else d).place ≡ d.place
place_kept p f stays d = go (is_at p d)
  where
    go : (b : Bool) → (if b then f d else d).place ≡ d.place
    go true = stays d
    go false = refl

pub rising_changed : (p : ℤ) (f : TableRow → TableRow) → ((d : TableRow) → (f d).place ≡ d.place) → (docs : List TableRow) → IsRising docs → IsRising (changed_at p f docs)
rising_changed p f stays [] up = tt
rising_changed p f stays (d ∷ docs) up = (kept docs up.0, rising_changed p f stays docs up.1)
  where
    kept : (ds : List TableRow) → AllByRecursion (λ b. d.place <ℤ b.place) ds → AllByRecursion (λ b. (if is_at p d then f d else d).place <ℤ b.place) (changed_at p f ds)
    kept [] h = tt
    kept (e ∷ ds) h = (rw (place_kept p f stays d, place_kept p f stays e) h.0, kept ds h.1)

pub rising_replaced : (p : ℤ) (body : List ℕ) (docs : List TableRow) → IsRising docs → IsRising (with_body_at p body docs)
rising_replaced p body docs up = rising_changed p (λ d. record d { body = body }) (λ d. refl) docs up
