-- The views of a document's members, taken in their order and put in the order of their keys.
use Rattle.std.proofs.Common.{◌≡◌, ◌<◌, ◌+◌, ◌-◌, ◌≤◌, ℕ, zero, suc, List, [], ◌∷◌, ◌++◌, map, length, get_or, set, Bool, true, false, ◌||◌, Option, Some, None, Result, Ok, Err, refl, sym, ap, ap₂, ◌∙◌, subst, arith, append_assoc}
use Rattle.std.proofs.lemmas.List.{append-nil}
use Rattle.std.specs.Prelude.{bytes_eq}
use Rattle.std.specs.Borrow.{Bor}
use Rattle.std.specs.Cmp.Lexicographic.{slice_cmp}
use Rattle.std.specs.List.{swap, AllAdjacentBelow, AllByRecursion, AllZip, IsAllAdjacentAnswer, IsDistinct}
use Rattle.std.specs.List.Sorted.{IsPermutation, IsSortedByKey, IsStrictlySortedBy}
use Rattle.std.specs.Map.{keys_of}
use Rattle.std.specs.Ordering.{is_lt, nat_cmp, ordering_reverse}
use Rattle.std.specs.declared.cmp.Ordering.{Ordering}
use Rattle.std.specs.declared.cmp.Ordering.TheVariants.{Less, Equal, Greater}
use Rattle.std.proofs.lemmas.Cmp.{nat_list_cmp_total}
use Rattle.std.proofs.lemmas.List.Elements.{All-from_recursion, recursion_from_All}
use Rattle.std.proofs.lemmas.List.Sorted.{All-permutation, IsPermutation-keeps, IsPermutation-map, IsPermutation-refl, IsPermutation-sym, IsPermutation-trans}
use Rattle.std.proofs.lemmas.Map.Keys.{IsDistinct-cons, IsDistinct-IsPermutation, apart_from_distinct, sorted_from_all_adjacent}
use Rattle.std.specs.FinMap.{slice_cmp-IsAntisymmetric, nat_cmp-IsAntisymmetric}
use Rattle.bson_base.specs.Value.{Value, scalar, null, value_kind, Members, no_members, member, look_up}
use Rattle.bson_base.proofs.MemberLemmas.{key_turned, not_first, same_key}
use Rattle.bson_bytes.specs.Spells.{SpellsMembers, SpellsValue}
use Rattle.bson_meaning.specs.JsonReserved.{has_reserved, reserved_in, some_reserved}
use Rattle.bson_meaning.specs.Views.{IsRest}
use Rattle.bson_meaning.proofs.ViewLemmas.{last_member, next_member}
use Rattle.bson_model.specs.JsonKeys.{is_reserved}
use Rattle.bson_pairs.specs.Ascending.{key_cmp}
use Rattle.bson_raw.specs.View.{parts_of}
use Rattle.bson_raw.specs.Walk.{steps_from}
use Rattle.bson_raw.specs.declared.bson_ref.RawBsonRef.{RawBsonRef}
use Rattle.bson_raw.specs.declared.element.RawElement.{RawElement}
use Rattle.bson_json.specs.Added.{HasKeys}
use Rattle.bson_json.specs.InOrder.{Ascends, Pairs, Shows, ShowsInOrder, ShowsInTurn, ShowPairs, Views, pairs_in}
use Rattle.bson_json.specs.Straight.{IsStraight, IsStraightAtTop, MembersAreStraight}
use Rattle.bson_json.specs.declared.keys.Keys.{Keys}
use Rattle.bson_json.specs.declared.keys.Keys.TheVariants.{Unreserved}
use Rattle.bson_json.specs.declared.style.Style.TheVariants.{Stored}

-- ---- lists beside each other

module _ {A B : Type 0} (R : A → B → Type 0) where
  zip_push : (xs : List A) (ys : List B) (x : A) (y : B) → AllZip R xs ys → R x y → AllZip R (xs ++ x ∷ []) (ys ++ y ∷ [])
  zip_push [] [] x y all r = (r, tt)
  zip_push [] (b ∷ ys) x y all r = absurd all
  zip_push (a ∷ xs) [] x y all r = absurd all
  zip_push (a ∷ xs) (b ∷ ys) x y all r = (all.0, zip_push xs ys x y all.1 r)

  zip_long : (xs : List A) (ys : List B) → AllZip R xs ys → length ys ≡ length xs
  zip_long [] [] all = refl
  zip_long [] (b ∷ ys) all = absurd all
  zip_long (a ∷ xs) [] all = absurd all
  zip_long (a ∷ xs) (b ∷ ys) all = ap suc (zip_long xs ys all.1)

  zip_get : (xs : List A) (ys : List B) (i : ℕ) (d : A) (e : B) → AllZip R xs ys → i < length xs → R (get_or xs i d) (get_or ys i e)
  zip_get [] ys i d e all below = absurd (omega (arith, below))
  zip_get (a ∷ xs) [] i d e all below = absurd all
  zip_get (a ∷ xs) (b ∷ ys) zero d e all below = all.0
  zip_get (a ∷ xs) (b ∷ ys) (suc i) d e all below = zip_get xs ys i d e all.1 (omega (arith, below))

  zip_set : (xs : List A) (ys : List B) (i : ℕ) (x : A) (y : B) → AllZip R xs ys → R x y → AllZip R (set xs i x) (set ys i y)
  zip_set [] [] i x y all r = tt
  zip_set [] (b ∷ ys) i x y all r = absurd all
  zip_set (a ∷ xs) [] i x y all r = absurd all
  zip_set (a ∷ xs) (b ∷ ys) zero x y all r = (r, all.1)
  zip_set (a ∷ xs) (b ∷ ys) (suc i) x y all r = (all.0, zip_set xs ys i x y all.1 r)

  zip_swap : (xs : List A) (ys : List B) (i j : ℕ) → AllZip R xs ys → i < length xs → j < length xs → AllZip R (swap xs i j) (swap ys i j)
  zip_swap [] ys i j all p q = absurd (omega (arith, p))
  zip_swap (a ∷ xs) [] i j all p q = absurd all
  zip_swap (a ∷ xs) (b ∷ ys) i j all p q =
      zip_set (set (a ∷ xs) i (get_or (a ∷ xs) j a)) (set (b ∷ ys) i (get_or (b ∷ ys) j b)) j (get_or (a ∷ xs) i a) (get_or (b ∷ ys) i b)
      (zip_set (a ∷ xs) (b ∷ ys) i (get_or (a ∷ xs) j a) (get_or (b ∷ ys) j b) all (zip_get (a ∷ xs) (b ∷ ys) j a b all q)) (zip_get (a ∷ xs) (b ∷ ys) i a b all p)

  -- what is beside a list in another order is the other list in that order
  zip_moved : (xs zs : List A) (ys : List B) → IsPermutation xs zs → AllZip R xs ys → (ws : List B) × AllZip R zs ws × IsPermutation ys ws
  zip_moved xs zs ys moved all =
      IsPermutation-keeps xs (λ l. (ws : List B) × AllZip R l ws × IsPermutation ys ws) (ys, all, IsPermutation-refl ys)
      (λ l i j p q h.
      let long = zip_long l h.0 h.1 in
      let once : IsPermutation h.0 (swap h.0 i j) = record { moves = (i, j) ∷ []; below = (omega (arith, long, p), omega (arith, long, q), tt); is = refl } in
      (swap h.0 i j, zip_swap l h.0 i j h.1 p q, IsPermutation-trans ys h.0 (swap h.0 i j) h.2 once))
      zs moved

all_moved : {X : Type 0} (P : X → Type 0) (xs ys : List X) → IsPermutation xs ys → AllByRecursion P xs → AllByRecursion P ys
all_moved P xs ys moved all = recursion_from_All P ys (All-permutation P xs ys moved (All-from_recursion P xs all))

all_at : {X : Type 0} (P : X → Type 0) (xs : List X) (i : ℕ) (d : X) → i < length xs → AllByRecursion P xs → P (get_or xs i d)
all_at P [] i d below all = absurd (omega (arith, below))
all_at P (x ∷ xs) zero d below all = all.0
all_at P (x ∷ xs) (suc i) d below all = all_at P xs i d (omega (arith, below)) all.1

-- ---- the keys of views

abbrev View : Type 0
View = Bor (List ℕ) × RawBsonRef

abbrev named : View → List ℕ
named r = r.0.now

abbrev IsBeside : View → List ℕ × Value → Type 0
IsBeside r p = (p.0 ≡ r.0.now) × Shows r.1 p.1

same_keys : (rs : Views) (ps : Pairs) → ShowPairs rs ps → keys_of ps ≡ map named rs
same_keys [] [] shown = refl
same_keys [] (p ∷ ps) shown = absurd shown
same_keys (r ∷ rs) [] shown = absurd shown
same_keys (r ∷ rs) (p ∷ ps) shown = ap₂ (λ (k : List ℕ) (ks : List (List ℕ)). k ∷ ks) shown.0.0 (same_keys rs ps shown.1)

name_at : (rs : Views) (i : ℕ) (d : View) → i < length rs → get_or (map named rs) i [] ≡ named (get_or rs i d)
name_at [] i d below = absurd (omega (arith, below))
name_at (r ∷ rs) zero d below = refl
name_at (r ∷ rs) (suc i) d below = name_at rs i d (omega (arith, below))

as_many : (rs : Views) → length (map named rs) ≡ length rs
as_many [] = refl
as_many (r ∷ rs) = ap suc (as_many rs)

is_less : (o : Ordering) → true ≡ is_lt o → o ≡ Less
is_less Less h = refl
is_less Equal h = cc
is_less Greater h = cc

rising : (rs : Views) (r : View) → AllAdjacentBelow (λ x y. true ≡ is_lt (slice_cmp nat_cmp x.0.now y.0.now)) rs (length rs) → Ascends rs
rising rs r up = sorted_from_all_adjacent nat_list_cmp_total (map named rs) [] (λ k below.
    let many = as_many rs in
    let next : k + 1 < length rs = omega (arith, many, below) in
    ap₂ (slice_cmp nat_cmp) (name_at rs k r (omega (arith, next))) (name_at rs (k + 1) r next) ∙ is_less (slice_cmp nat_cmp (named (get_or rs k r)) (named (get_or rs (k + 1) r))) (up k r next))

risen : (rs : Views) → AllAdjacentBelow (λ x y. true ≡ is_lt (slice_cmp nat_cmp x.0.now y.0.now)) rs (length rs) → Ascends rs
risen [] up = sorted_from_all_adjacent nat_list_cmp_total [] [] (λ k below. absurd (omega (arith, below)))
risen (r ∷ rs) up = rising (r ∷ rs) r up

-- ---- the walk over the elements

-- the views show the elements before those that are left
abbrev pub TakenSoFar : Keys → List ℕ → Option (List ℕ) → Views → Type 0
TakenSoFar keys elements left rs = (all : Members) → SpellsMembers elements all
    → (rest : Members) × IsRest left rest × (ps : Pairs) × ShowPairs rs ps × (pairs_in all ≡ ps ++ pairs_in rest) × (HasKeys keys rest → HasKeys keys all)

pub taken_none : (keys : Keys) (elements : List ℕ) (left : Option (List ℕ)) (rs : Views) → left ≡ Some elements → rs ≡ [] → TakenSoFar keys elements left rs
taken_none keys elements left rs is none = subst (TakenSoFar keys elements left) (sym none) (λ all h. (all, subst (λ l. IsRest l all) (sym is) h, [], tt, refl, λ free. free))

neither : (a b : Bool) → a ≡ false → b ≡ false → (a || b) ≡ false
neither false b is other = other
neither true b is other = cc

pub taken_more : (keys : Keys) (elements : List ℕ) (s t : Option (List ℕ)) (x : RawElement) (rs new : Views) (k : Bor (List ℕ)) (r : RawBsonRef)
    → steps_from s (Some (Ok x)) t → k.now ≡ (parts_of x).key → (keys ≡ Unreserved → is_reserved k.now ≡ false)
    → ((v : Value) → value_kind v ≡ (parts_of x).tag → SpellsValue (parts_of x).payload v → Shows r v)
    → new ≡ rs ++ (k, r) ∷ [] → TakenSoFar keys elements s rs → TakenSoFar keys elements t new
taken_more keys elements s t x rs new k r step key free told put taken = λ all h.
    let l = taken all h in
    let n = next_member s t x l.0 step l.1 in
    let v = n.value in
    let q = (parts_of x).key in
    let ps = l.2 in
    let unreserved : keys ≡ Unreserved → is_reserved q ≡ false = λ only. subst (λ (z : List ℕ). is_reserved z ≡ false) key (free only) in (
      n.more,
      n.others,
      ps ++ (q, v) ∷ [],
      subst (λ ys. ShowPairs ys (ps ++ (q, v) ∷ [])) (sym put) (zip_push IsBeside rs ps (k, r) (q, v) l.3 (sym key, told v n.kind n.spelled)),
      l.4 ∙ ap (λ ms. ps ++ pairs_in ms) n.is ∙ sym (append_assoc ps ((q, v) ∷ []) (pairs_in n.more)),
      λ more. l.5 (subst (HasKeys keys) (sym n.is) (λ only. neither (is_reserved q) (some_reserved n.more) (unreserved only) (more only))),
    )

pub taken_all : (keys : Keys) (elements : List ℕ) (s t : Option (List ℕ)) (rs : Views) → steps_from s None t → TakenSoFar keys elements s rs → ShowsInTurn keys elements rs
taken_all keys elements s t rs step taken = λ all h.
    let l = taken all h in
    let none = last_member s t l.0 step l.1 in
    let here : pairs_in all ≡ l.2 = l.4 ∙ ap (λ ms. l.2 ++ pairs_in ms) none ∙ append-nil l.2 in
    (l.5 (subst (HasKeys keys) (sym none) (λ only. refl)), subst (ShowPairs rs) (sym here) l.3)

-- ---- in the order of their keys

pub in_order : (keys : Keys) (elements : List ℕ) (rs new : Views) → ShowsInTurn keys elements rs → IsPermutation rs new
    → IsAllAdjacentAnswer (λ x y b. b ≡ is_lt (slice_cmp nat_cmp x.0.now y.0.now)) new true → ShowsInOrder keys elements new
in_order keys elements rs new shown moved up = λ ms h.
    let s = shown ms h in
    let w = zip_moved IsBeside rs new (pairs_in ms) moved s.1 in
    (s.0, w.0, w.1, w.2, subst (IsStrictlySortedBy (slice_cmp nat_cmp)) (sym (same_keys new w.0 w.1)) (risen new up))

others_lack : (k : List ℕ) (ms : Members) → look_up k ms ≡ None → AllByRecursion (λ y. bytes_eq k y ≡ false) (keys_of (pairs_in ms))
others_lack k no_members none = tt
others_lack k (member l v ms) none = let both = not_first k l v ms none in (both.0, others_lack k ms both.1)

distinct_keys : (n : ℕ) (ms : Members) → MembersAreStraight Stored n ms → IsDistinct bytes_eq (keys_of (pairs_in ms))
unfolding IsDistinct
distinct_keys n no_members straight = tt
distinct_keys n (member k v ms) straight = (others_lack k ms straight.2, distinct_keys n ms straight.1)

-- two keys of which neither is less are equal
no_tie : (k l : List ℕ) (o : Ordering) → slice_cmp nat_cmp k l ≡ o → is_lt (slice_cmp nat_cmp l k) ≡ false → false ≡ is_lt o → bytes_eq k l ≡ false → ⊥
no_tie k l Less e up low apart = absurd cc
no_tie k l Equal e up low apart =
    let tied : k ≡ l = slice_cmp-IsAntisymmetric nat_cmp-IsAntisymmetric k l e in
    let same : bytes_eq k l ≡ true = subst (λ (m : List ℕ). bytes_eq k m ≡ true) tied (same_key k) in
    absurd cc
no_tie k l Greater e up low apart =
    let turned : slice_cmp nat_cmp l k ≡ Less = nat_list_cmp_total.antisymm l k ∙ ap ordering_reverse e in
    let bad : true ≡ false = sym (ap is_lt turned) ∙ up in
    absurd cc

-- keys that were sorted and don't rise are there twice
pub key_twice : (keys : Keys) (elements : List ℕ) (rs new : Views) → ShowsInTurn keys elements rs → IsPermutation rs new → IsSortedByKey (λ p. p.0.now) (slice_cmp nat_cmp) new
    → IsAllAdjacentAnswer (λ x y b. b ≡ is_lt (slice_cmp nat_cmp x.0.now y.0.now)) new false
    → (inner : ℕ) (ms : Members) → SpellsMembers elements ms → HasKeys keys ms → IsStraightAtTop Stored inner ms → ⊥
key_twice keys elements rs [] shown moved sorted fall inner ms h free straight = absurd (omega (arith, fall.1))
key_twice keys elements rs (r ∷ more) shown moved sorted fall inner ms h free straight =
    let new : Views = r ∷ more in
    let s = shown ms h in
    let k = fall.0 in
    let next : k + 1 < length new = fall.1 in
    let once : IsDistinct bytes_eq (map named rs) = subst (IsDistinct bytes_eq) (same_keys rs (pairs_in ms) s.1) (distinct_keys (inner - 1) ms straight.1) in
    let once' = IsDistinct-IsPermutation bytes_eq key_turned (map named rs) (map named new) (IsPermutation-map named rs new moved) once in
    let apart = apart_from_distinct bytes_eq (map named new) k (k + 1) [] once' (omega arith) (omega (arith, as_many new, next)) in
    let here = name_at new k r (omega (arith, next)) in
    let there = name_at new (k + 1) r next in
    let apart' : bytes_eq (named (get_or new k r)) (named (get_or new (k + 1) r)) ≡ false = subst (λ (q : List ℕ). bytes_eq (named (get_or new k r)) q ≡ false) there (subst (λ (q : List ℕ). bytes_eq q (get_or (map named new) (k + 1) []) ≡ false) here apart) in
    no_tie (named (get_or new k r)) (named (get_or new (k + 1) r)) _ refl (sorted k r (omega arith) next) (fall.2 r) apart'

-- ---- what is known of the views in order

-- each member's value is straight
straight_pairs : (n : ℕ) (ms : Members) → MembersAreStraight Stored n ms → AllByRecursion (λ (p : List ℕ × Value). IsStraight Stored n p.1) (pairs_in ms)
straight_pairs n no_members straight = tt
straight_pairs n (member k v ms) straight = (straight.0, straight_pairs n ms straight.1)

pub value_left : (keys : Keys) (elements : List ℕ) (inner : ℕ) (rs : Views) (i : ℕ) (x : View) → ShowsInOrder keys elements rs → i < length rs → x ≡ get_or rs i x
    → ((v : Value) → Shows x.1 v → IsStraight Stored (inner - 1) v → ⊥)
    → (ms : Members) → SpellsMembers elements ms → HasKeys keys ms → IsStraightAtTop Stored inner ms → ⊥
value_left keys elements inner rs i x order within is bad ms h free straight =
    let o = order ms h in
    let ps = o.1 in
    let all = all_moved (λ (p : List ℕ × Value). IsStraight Stored (inner - 1) p.1) (pairs_in ms) ps o.3 (straight_pairs (inner - 1) ms straight.1) in
    let long = zip_long IsBeside rs ps o.2 in
    let e : List ℕ × Value = ([], scalar null) in
    let here = zip_get IsBeside rs ps i x e o.2 within in
    bad (get_or ps i e).1 (subst (λ (q : View). Shows q.1 (get_or ps i e).1) (sym is) here.1) (all_at (λ (p : List ℕ × Value). IsStraight Stored (inner - 1) p.1) ps i e (omega (arith, long, within)) all)

-- if no value has a reserved key, neither has the document below its top
unreserved_pairs : (ms : Members) → AllByRecursion (λ (p : List ℕ × Value). reserved_in p.1 ≡ false) (pairs_in ms) → has_reserved ms ≡ false
unreserved_pairs no_members all = refl
unreserved_pairs (member k v ms) all = neither (reserved_in v) (has_reserved ms) all.0 (unreserved_pairs ms all.1)

pub all_unreserved : (ms : Members) (ps : Pairs) → IsPermutation (pairs_in ms) ps → AllByRecursion (λ (p : List ℕ × Value). reserved_in p.1 ≡ false) ps → has_reserved ms ≡ false
all_unreserved ms ps moved all = unreserved_pairs ms (all_moved (λ (p : List ℕ × Value). reserved_in p.1 ≡ false) ps (pairs_in ms) (IsPermutation-sym (pairs_in ms) ps moved) all)
