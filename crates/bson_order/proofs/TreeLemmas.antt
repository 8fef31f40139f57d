-- Turns of the walks over two trees.
use Rattle.std.proofs.Common.{◌≡◌, ◌≢◌, ℕ, zero, suc, ◌+◌, ◌<◌, ◌≤◌, max, eqb, length, get_or, List, [], ◌∷◌, ◌++◌, drop, map, Bool, true, false, refl, sym, ap, ◌∙◌, subst, arith}
use Rattle.std.proofs.lemmas.Bool.{eqb-true}
use Rattle.std.proofs.Math.Seq.{drop-cons}
use Rattle.std.specs.Ordering.{nat_cmp, ordering_then}
use Rattle.std.specs.declared.cmp.Ordering.{Ordering}
use Rattle.std.specs.declared.cmp.Ordering.TheVariants.{Less, Equal, Greater}
use Rattle.bson_base.specs.Value.{Scalar, Value, scalar, array, document, scoped_code, value_kind, levels, items_levels, Members}
use Rattle.bson_meaning.specs.Sames.{IsScalar}
use Rattle.bson_model.specs.Keyed.{Key}
use Rattle.bson_model.specs.View.{view, items_of, members_of}
use Rattle.bson_model.specs.declared.bson.Bson.{Bson}
use Rattle.bson_order.specs.Order.{rank, ended, parts, parts_key, inside, items_inside, members_inside, order}
use Rattle.bson_order.specs.Shown.{LiesInside, leaf_of}
use Rattle.bson_order.proofs.ApartLemmas.{scalar_not}
use Rattle.bson_order.proofs.KeyLemmas.{ended_apart, ended_same, greater_front, less_front}
use Rattle.bson_order.proofs.TurnLemmas.{compared, member_head, heads_apart, item_heads_apart, payload_split, then_less, then_greater, then_equal}

-- ---- what is inside

module _ (a b : Scalar) (r : Ordering) (is : r ≡ compared (parts_key (parts a)) (parts_key (parts b))) where
  pub leaves_lie : (v w : Value) → IsScalar v → a ≡ leaf_of v → b ≡ leaf_of w → LiesInside v w r
  leaves_lie (scalar s) (scalar t) h ea eb = is ∙ ap (λ x. compared (parts_key (parts x)) (parts_key (parts b))) ea ∙ ap (λ x. compared (parts_key (parts s)) (parts_key (parts x))) eb
  leaves_lie (scalar s) (array ws) h ea eb = tt
  leaves_lie (scalar s) (document ns) h ea eb = tt
  leaves_lie (scalar s) (scoped_code u ns) h ea eb = tt
  leaves_lie (array vs) w h ea eb = absurd h
  leaves_lie (document ms) w h ea eb = absurd h
  leaves_lie (scoped_code t ms) w h ea eb = absurd h

-- two values of one rank are of one kind, or both have nothing inside
pub inside_compared : (v w : Value) (r : Ordering) → rank (value_kind v) ≡ rank (value_kind w) → LiesInside v w r → r ≡ compared (inside v) (inside w)
inside_compared (scalar s) (scalar t) r e h = h
inside_compared (scalar s) (array ws) r e h = absurd ((scalar_not s).1 e)
inside_compared (scalar s) (document ns) r e h = absurd ((scalar_not s).0 e)
inside_compared (scalar s) (scoped_code u ns) r e h = absurd ((scalar_not s).2 e)
inside_compared (array vs) (scalar t) r e h = absurd ((scalar_not t).1 (sym e))
inside_compared (array vs) (array ws) r e h = h
inside_compared (array vs) (document ns) r e h = absurd (omega (arith, e))
inside_compared (array vs) (scoped_code u ns) r e h = absurd (omega (arith, e))
inside_compared (document ms) (scalar t) r e h = absurd ((scalar_not t).0 (sym e))
inside_compared (document ms) (array ws) r e h = absurd (omega (arith, e))
inside_compared (document ms) (document ns) r e h = h
inside_compared (document ms) (scoped_code u ns) r e h = absurd (omega (arith, e))
inside_compared (scoped_code t ms) (scalar s) r e h = absurd ((scalar_not s).2 (sym e))
inside_compared (scoped_code t ms) (array ws) r e h = absurd (omega (arith, e))
inside_compared (scoped_code t ms) (document ns) r e h = absurd (omega (arith, e))
inside_compared (scoped_code t ms) (scoped_code u ns) r e h =
    h ∙ ap (λ o. ordering_then o (compared (members_inside ms) (members_inside ns))) (sym (ended_same t u)) ∙ sym (ended_apart t u (members_inside ms) (members_inside ns))

pub scoped_lies : (t u : List ℕ) (ms ns : Members) (v w : Value) (codes inner r : Ordering) → v ≡ scoped_code t ms → w ≡ scoped_code u ns → codes ≡ compared t u → inner ≡ compared (members_inside ms) (members_inside ns) → r ≡ ordering_then codes inner → LiesInside v w r
scoped_lies t u ms ns v w codes inner r ev ew e f is =
    subst (λ (x : Value). LiesInside x w r) (sym ev) (subst (λ (y : Value). LiesInside (scoped_code t ms) y r) (sym ew) (is ∙ ap (λ o. ordering_then o inner) e ∙ ap (λ o. ordering_then (compared t u) o) f))

-- ---- two arrays

abbrev pub list_inside : List Bson → List ℕ
list_inside xs = items_inside (items_of (map view xs))

pub levels_on : (items : List Bson) (i n : ℕ) (x : Bson) → i < length items → x ≡ get_or items i x → items_levels (items_of (map view (drop i items))) ≤ n → items_levels (items_of (map view (drop (i + 1) items))) ≤ n
levels_on items i n x low is h =
    let m : max (levels (view x)) (items_levels (items_of (map view (drop (suc i) items)))) ≤ n = subst (λ xs. items_levels (items_of (map view xs)) ≤ n) (drop-cons items i x low ∙ ap (λ y. y ∷ drop (suc i) items) (sym is)) h in
    let e : i + 1 ≡ suc i = omega arith in
    subst (λ k. items_levels (items_of (map view (drop k items))) ≤ n) (sym e) (omega arith)

module _ (total : Ordering) (items left : List Bson) (i : ℕ) (x : Bson) (low : i < length items) (is : x ≡ get_or items i x) (h : total ≡ compared (list_inside (drop i items)) (list_inside left)) where
  one : total ≡ compared (list_inside (x ∷ drop (i + 1) items)) (list_inside left)
  one =
      let e : i + 1 ≡ suc i = omega arith in
      h ∙ ap (λ xs. compared (list_inside xs) (list_inside left)) (drop-cons items i x low ∙ ap (λ y. y ∷ drop (suc i) items) (sym is) ∙ ap (λ k. x ∷ drop k items) (sym e))

  pub list_longer : left ≡ [] → Greater ≡ total
  list_longer e =
      ap (λ o. ordering_then o (compared (inside (view x) ++ list_inside (drop (i + 1) items)) [])) (greater_front (rank (value_kind (view x))))
      ∙ sym (one ∙ ap (λ ys. compared (list_inside (x ∷ drop (i + 1) items)) (list_inside ys)) e)

  module _ (y : Bson) (rest : List Bson) (split : left ≡ y ∷ rest) (r : Ordering) (told : r ≡ order (view x) (view y)) where
    unfolded : total ≡ ordering_then r (compared (list_inside (drop (i + 1) items)) (list_inside rest))
    unfolded =
        one ∙ ap (λ ys. compared (list_inside (x ∷ drop (i + 1) items)) (list_inside ys)) split
        ∙ item_heads_apart (view x) (view y) (list_inside (drop (i + 1) items)) (list_inside rest)
        ∙ ap (λ o. ordering_then o (compared (list_inside (drop (i + 1) items)) (list_inside rest))) (sym (payload_split (view x) (view y)) ∙ sym told)

    pub list_less : r ≡ Less → Less ≡ total
    list_less e = then_less r (compared (list_inside (drop (i + 1) items)) (list_inside rest)) e ∙ sym unfolded

    pub list_greater : r ≡ Greater → Greater ≡ total
    list_greater e = then_greater r (compared (list_inside (drop (i + 1) items)) (list_inside rest)) e ∙ sym unfolded

    pub list_on : r ≡ Equal → total ≡ compared (list_inside (drop (i + 1) items)) (list_inside rest)
    list_on e = unfolded ∙ then_equal r (compared (list_inside (drop (i + 1) items)) (list_inside rest)) e

pub no_items : (xs : List Bson) → length xs ≡ 0 → xs ≡ []
no_items [] e = refl
no_items (x ∷ xs) e = absurd (omega (arith, e))

none : (n : ℕ) → eqb (suc n) 0 ≡ true → ⊥
none n e = let i : suc n ≡ 0 = eqb-true (suc n) 0 e in omega arith

-- the first is at its end
pub list_end : (total : Ordering) (rest left : List Bson) (b : Bool) → total ≡ compared (list_inside rest) (list_inside left) → rest ≡ [] → b ≡ eqb (length left) 0 → b ≡ true → Equal ≡ total
list_end total rest [] b h e f g = sym (h ∙ ap (λ xs. compared (list_inside xs) (list_inside [])) e)
list_end total rest (y ∷ left) b h e f g = absurd (none (length left) (sym f ∙ g))

pub list_shorter : (total : Ordering) (rest left : List Bson) (b : Bool) → total ≡ compared (list_inside rest) (list_inside left) → rest ≡ [] → b ≡ eqb (length left) 0 → b ≡ false → Less ≡ total
list_shorter total rest [] b h e f g = let no : true ≡ false = sym f ∙ g in absurd cc
list_shorter total rest (y ∷ left) b h e f g =
    ap (λ o. ordering_then o (compared [] (inside (view y) ++ list_inside left))) (less_front (rank (value_kind (view y))))
    ∙ sym (h ∙ ap (λ xs. compared (list_inside xs) (list_inside (y ∷ left))) e)

-- ---- two documents

abbrev pub pairs_inside : List (Key × Value) → List ℕ
pairs_inside ps = members_inside (members_of ps)

module _ (total : Ordering) (rest left more : List (Key × Value)) (p : Key × Value) (one : rest ≡ p ∷ more) (h : total ≡ compared (pairs_inside rest) (pairs_inside left)) where
  pub pairs_longer : left ≡ [] → Greater ≡ total
  pairs_longer e =
      ap (λ o. ordering_then o (compared ((ended p.0 ++ inside p.1) ++ pairs_inside more) [])) (greater_front (rank (value_kind p.1)))
      ∙ sym (h ∙ ap (λ ps. compared (pairs_inside ps) (pairs_inside left)) one ∙ ap (λ qs. compared (pairs_inside (p ∷ more)) (pairs_inside qs)) e)

  module _ (q : Key × Value) (others : List (Key × Value)) (two : left ≡ q ∷ others) (r : Ordering) (told : r ≡ compared (member_head p.0 p.1) (member_head q.0 q.1)) where
    pairs_unfolded : total ≡ ordering_then r (compared (pairs_inside more) (pairs_inside others))
    pairs_unfolded =
        h ∙ ap (λ ps. compared (pairs_inside ps) (pairs_inside left)) one ∙ ap (λ qs. compared (pairs_inside (p ∷ more)) (pairs_inside qs)) two
        ∙ heads_apart p.0 q.0 p.1 q.1 (pairs_inside more) (pairs_inside others)
        ∙ ap (λ o. ordering_then o (compared (pairs_inside more) (pairs_inside others))) (sym told)

    pub pairs_less : r ≡ Less → Less ≡ total
    pairs_less e = then_less r (compared (pairs_inside more) (pairs_inside others)) e ∙ sym pairs_unfolded

    pub pairs_greater : r ≡ Greater → Greater ≡ total
    pairs_greater e = then_greater r (compared (pairs_inside more) (pairs_inside others)) e ∙ sym pairs_unfolded

    pub pairs_on : r ≡ Equal → total ≡ compared (pairs_inside more) (pairs_inside others)
    pairs_on e = pairs_unfolded ∙ then_equal r (compared (pairs_inside more) (pairs_inside others)) e

pub pairs_end : (total : Ordering) (rest left : List (Key × Value)) → total ≡ compared (pairs_inside rest) (pairs_inside left) → rest ≡ [] → left ≡ [] → Equal ≡ total
pairs_end total rest left h e f = sym (h ∙ ap (λ ps. compared (pairs_inside ps) (pairs_inside left)) e ∙ ap (λ qs. compared (pairs_inside []) (pairs_inside qs)) f)

pub pairs_shorter : (total : Ordering) (rest left others : List (Key × Value)) (q : Key × Value) → total ≡ compared (pairs_inside rest) (pairs_inside left) → rest ≡ [] → left ≡ q ∷ others → Less ≡ total
pairs_shorter total rest left others q h e f =
    ap (λ o. ordering_then o (compared [] ((ended q.0 ++ inside q.1) ++ pairs_inside others))) (less_front (rank (value_kind q.1)))
    ∙ sym (h ∙ ap (λ ps. compared (pairs_inside ps) (pairs_inside left)) e ∙ ap (λ qs. compared (pairs_inside []) (pairs_inside qs)) f)
