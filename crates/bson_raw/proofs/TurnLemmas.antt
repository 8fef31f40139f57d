-- Calls of `next` of the walk's iterator, one at a time.
use Rattle.std.proofs.Common.{◌≡◌, ◌≢◌, ℕ, zero, suc, ◌≤◌, Bool, true, false, cond, List, [], ◌∷◌, length, find, slice_get, MatchOption, Option, Some, None, Result, Ok, Err, refl, sym, ap, ◌∙◌, subst, arith}
use Rattle.std.specs.Iterator.{Yields}
use Rattle.std.specs.Str.{bytes_eq}
use Rattle.bson_frame.specs.declared.error.ErrorKind.{ErrorKind}
use Rattle.bson_frame.specs.declared.error.Error.{Error}
use Rattle.bson_frame.specs.Frame.{Element, IsFirstFrame, IsStructuralFault}
use Rattle.bson_raw.specs.declared.element.RawElement.{RawElement}
use Rattle.bson_raw.specs.declared.raw_iter.RawIter.{RawIter}
use Rattle.bson_raw.specs.View.{parts_of, left_of}
use Rattle.bson_raw.specs.Walk.{IsWalk, walk_items, IsItem, IsFound, steps_from, raw_steps, ends_at}
use Rattle.bson_raw.proofs.WalkLemmas.{FramesAreOne, FaultsAreOne}
use Rattle.bson_bytes.proofs.OneTreeLemmas.{end_no_frame}

-- these items of the walk are still to come
abbrev pub IsLeft : Option (List ℕ) → List (Result Element ErrorKind) → Type 0
IsLeft None items = items ≡ []
IsLeft (Some bytes) items = (elements : List Element) × (fault : Option ErrorKind) × IsWalk bytes elements fault × (items ≡ walk_items elements fault)

-- a call gave the first of the items, and left the others
pub record IsTurn (items : List (Result Element ErrorKind)) (x : Result RawElement Error) (left : Option (List ℕ)) : Type 0 where
  pub first : Result Element ErrorKind
  pub more : List (Result Element ErrorKind)
  pub split : items ≡ first ∷ more
  pub is_item : IsItem first x
  pub others : IsLeft left more

module _ (one : FramesAreOne) (kind : FaultsAreOne) where
  walk_at_element : (bytes : List ℕ) (e : Element) (rest : List ℕ) (elements : List Element) (fault : Option ErrorKind) → IsFirstFrame bytes e rest → IsWalk bytes elements fault
      → (more : List Element) × (elements ≡ e ∷ more) × IsWalk rest more fault
  walk_at_element bytes e rest [] None h w = absurd (end_no_frame bytes e rest w h)
  walk_at_element bytes e rest [] (Some k) h w = absurd (w.1.no_frame e rest h)
  walk_at_element bytes e rest (f ∷ more) fault h w =
      let same = one bytes f e w.0 rest w.1 h in
      (more, ap (λ (x : Element). x ∷ more) same.0, subst (λ (x : List ℕ). IsWalk x more fault) same.1 w.2)

  walk_at_fault : (bytes : List ℕ) (k : ErrorKind) (elements : List Element) (fault : Option ErrorKind) → bytes ≢ 0 ∷ [] → IsStructuralFault bytes k → IsWalk bytes elements fault
      → walk_items elements fault ≡ Err k ∷ []
  walk_at_fault bytes k [] None n h w = absurd (n w)
  walk_at_fault bytes k [] (Some j) n h w = ap (λ (x : ErrorKind). Err x ∷ []) (kind bytes j k w.1 h)
  walk_at_fault bytes k (f ∷ more) fault n h w = absurd (h.no_frame f w.0 w.1)

  walk_at_end : (bytes : List ℕ) (elements : List Element) (fault : Option ErrorKind) → bytes ≡ 0 ∷ [] → IsWalk bytes elements fault → walk_items elements fault ≡ []
  walk_at_end bytes [] None e w = refl
  walk_at_end bytes [] (Some j) e w = absurd (w.0 e)
  walk_at_end bytes (f ∷ more) fault e w = absurd (end_no_frame bytes f w.0 e w.1)

  pub turn : (s t : Option (List ℕ)) (x : Result RawElement Error) (items : List (Result Element ErrorKind)) → steps_from s (Some x) t → IsLeft s items → IsTurn items x t
  turn None t x items h l = let bad = h.0 in absurd cc
  turn (Some bytes) t (Ok e) items h l =
      let at = walk_at_element bytes (parts_of e) e.frame.rest.now l.0 l.1 h.0 l.2 in
      record {
        first = Ok (parts_of e);
        more = walk_items at.0 l.1;
        split = l.3 ∙ ap (λ (x : List Element). walk_items x l.1) at.1;
        is_item = refl;
        others = subst (λ (x : Option (List ℕ)). IsLeft x (walk_items at.0 l.1)) (sym h.1) (at.0, l.1, at.2, refl);
      }
  turn (Some bytes) t (Err e) items h l = record {
    first = Err e.kind;
    more = [];
    split = l.3 ∙ walk_at_fault bytes e.kind l.0 l.1 h.0 h.1 l.2;
    is_item = (refl, h.2);
    others = subst (λ (x : Option (List ℕ)). IsLeft x []) (sym h.3) refl;
  }

  pub turn_end : (s t : Option (List ℕ)) (items : List (Result Element ErrorKind)) → steps_from s None t → IsLeft s items → items ≡ []
  turn_end None t items h l = l
  turn_end (Some bytes) t items h l = l.3 ∙ walk_at_end bytes l.0 l.1 h.0 l.2

  -- what a call gives after others
  pub nth_found : (xs : List (Result RawElement Error)) (s t u : RawIter) (r : Option (Result RawElement Error)) (n : ℕ) (items : List (Result Element ErrorKind)) → IsLeft (left_of s) items → Yields raw_steps s xs t → raw_steps t r u
      → MatchOption r (length xs ≤ n) (λ _. length xs ≡ n) → IsFound (slice_get items n) r
  nth_found [] s t u None n items l y h m =
      let at_s = subst (λ (x : RawIter). raw_steps x None u) (sym y) h in
      subst (λ (x : List (Result Element ErrorKind)). IsFound (slice_get x n) None) (sym (turn_end (left_of s) (left_of u) items at_s l)) tt
  nth_found [] s t u (Some x) zero items l y h m =
      let at_s = subst (λ (i : RawIter). raw_steps i (Some x) u) (sym y) h in
      let here = turn (left_of s) (left_of u) x items at_s l in
      subst (λ (i : List (Result Element ErrorKind)). IsFound (slice_get i zero) (Some x)) (sym here.split) here.is_item
  nth_found [] s t u (Some x) (suc n) items l y h m = absurd (omega (arith, m))
  nth_found (z ∷ xs) s t u None zero items l y h m = absurd (omega (arith, m))
  nth_found (z ∷ xs) s t u (Some x) zero items l y h m = absurd (omega (arith, m))
  nth_found (z ∷ xs) s t u None (suc n) items l y h m =
      let here = turn (left_of s) (left_of y.0) z items y.1 l in
      subst (λ (i : List (Result Element ErrorKind)). IsFound (slice_get i (suc n)) None) (sym here.split) (nth_found xs y.0 t u None n here.more here.others y.2 h (omega (arith, m)))
  nth_found (z ∷ xs) s t u (Some x) (suc n) items l y h m =
      let here = turn (left_of s) (left_of y.0) z items y.1 l in
      subst (λ (i : List (Result Element ErrorKind)). IsFound (slice_get i (suc n)) (Some x)) (sym here.split) (nth_found xs y.0 t u (Some x) n here.more here.others y.2 h (omega (arith, m)))

-- ---- a look-up

ends_at_element : (key : List ℕ) (i : Result Element ErrorKind) (e : RawElement) → IsItem i (Ok e) → ends_at key i ≡ bytes_eq (parts_of e).key key
ends_at_element key (Ok x) e is = ap (λ (y : Element). bytes_eq y.key key) (sym is)
ends_at_element key (Err kind) e is = absurd is

ends_at_fault : (key : List ℕ) (i : Result Element ErrorKind) (x : Error) → IsItem i (Err x) → ends_at key i ≡ true
ends_at_fault key (Ok e) x is = absurd is
ends_at_fault key (Err kind) x is = refl

module _ (key : List ℕ) (items left : List (Result Element ErrorKind)) (same : find (ends_at key) items ≡ find (ends_at key) left) where
  at_first : (i : Result Element ErrorKind) (more : List (Result Element ErrorKind)) → left ≡ i ∷ more → find (ends_at key) items ≡ cond (ends_at key i) (Some i) (find (ends_at key) more)
  at_first i more e = same ∙ ap (λ (x : List (Result Element ErrorKind)). find (ends_at key) x) e

  found : (x : Result RawElement Error) (t : Option (List ℕ)) (turn : IsTurn left x t) → ends_at key turn.first ≡ true → IsFound (find (ends_at key) items) (Some x)
  found x t turn test =
      let here : find (ends_at key) items ≡ Some turn.first = at_first turn.first turn.more turn.split ∙ ap (λ (b : Bool). cond b (Some turn.first) (find (ends_at key) turn.more)) test in
      subst (λ (r : Option (Result Element ErrorKind)). IsFound r (Some x)) (sym here) turn.is_item

  -- the element that came has the key
  pub found_element : (e : RawElement) (t : Option (List ℕ)) (turn : IsTurn left (Ok e) t) → bytes_eq (parts_of e).key key ≡ true → IsFound (find (ends_at key) items) (Some (Ok e))
  found_element e t turn test = found (Ok e) t turn (ends_at_element key turn.first e turn.is_item ∙ test)

  -- a fault came
  pub found_fault : (x : Error) (t : Option (List ℕ)) (turn : IsTurn left (Err x) t) → IsFound (find (ends_at key) items) (Some (Err x))
  found_fault x t turn = found (Err x) t turn (ends_at_fault key turn.first x turn.is_item)

  -- nothing came
  pub found_nothing : left ≡ [] → IsFound (find (ends_at key) items) None
  found_nothing none =
      let here : find (ends_at key) items ≡ None = same ∙ ap (λ (x : List (Result Element ErrorKind)). find (ends_at key) x) none in
      subst (λ (r : Option (Result Element ErrorKind)). IsFound r None) (sym here) tt

  -- the element that came has another key
  pub passed_element : (e : RawElement) (t : Option (List ℕ)) (turn : IsTurn left (Ok e) t) → bytes_eq (parts_of e).key key ≡ false → find (ends_at key) items ≡ find (ends_at key) turn.more
  passed_element e t turn test =
      at_first turn.first turn.more turn.split ∙ ap (λ (b : Bool). cond b (Some turn.first) (find (ends_at key) turn.more)) (ends_at_element key turn.first e turn.is_item ∙ test)
