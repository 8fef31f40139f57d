-- The walk over written members, up to the first with a key.
use Rattle.std.proofs.Common.{◌≡◌, ℕ, suc, ◌+◌, ◌≤◌, List, [], ◌∷◌, ◌++◌, length, drop, true, false, cond, Option, Some, None, Ok, Err, bytes_eq, refl, sym, ap, ◌∙◌, subst, arith, length-append, length-drop}
use Rattle.bson_base.specs.Value.{Value, Members, no_members, member, look_up}
use Rattle.bson_bytes.specs.Encode.{encode, members_bytes}
use Rattle.bson_bytes.proofs.OneTreeLemmas.{end_no_frame}
use Rattle.bson_bytes.proofs.SpellingLemmas.{framed_inside}
use Rattle.bson_frame.specs.declared.error.Error.{Error}
use Rattle.bson_frame.specs.Frame.{Element, IsFirstFrame, HasNoFrame}
use Rattle.bson_raw.specs.declared.element.RawElement.{RawElement}
use Rattle.bson_raw.specs.View.{parts_of}
use Rattle.bson_raw.specs.Walk.{steps_from}
use Rattle.store_question.specs.Views.{ComeBack, IsWrittenFor, FindsElement}
use Rattle.store_question.proofs.MemberLemmas.{next, none_left}
use Rattle.store_model.specs.Filter.{place_among}

-- these members are still to come
abbrev pub IsAhead : Option (List ℕ) → Members → Type 0
IsAhead None ms = ms ≡ no_members
IsAhead (Some bytes) ms = bytes ≡ members_bytes ms ++ 0 ∷ []

abbrev pub left_length : Option (List ℕ) → ℕ
left_length None = 0
left_length (Some bytes) = length bytes

end_alone : HasNoFrame (0 ∷ [])
end_alone e rest f = end_no_frame (0 ∷ []) e rest refl f

pub record NextStep (e : Element) (ms : Members) (t : Option (List ℕ)) : Type 0 where
  pub value : Value
  pub more : Members
  pub is : ms ≡ member e.key value more
  pub written : IsWrittenFor e value
  pub ahead : IsAhead t more
  pub others : ComeBack more

next_step : (s t : Option (List ℕ)) (x : RawElement) (ms : Members) → steps_from s (Some (Ok x)) t → IsAhead s ms → ComeBack ms → NextStep (parts_of x) ms t
next_step None t x ms h a b = let bad = h.0 in absurd cc
next_step (Some bytes) t x ms h a b =
    let n = next bytes (parts_of x) x.frame.rest.now ms (0 ∷ []) h.0 a b end_alone in
    record { value = n.value; more = n.more; is = n.is; written = n.written; ahead = subst (λ (o : Option (List ℕ)). IsAhead o n.more) (sym h.1) n.ahead; others = n.others }

pub no_fault : (s t : Option (List ℕ)) (x : Error) (ms : Members) → steps_from s (Some (Err x)) t → IsAhead s ms → ComeBack ms → ⊥
no_fault None t x ms h a b = let bad = h.0 in cc
no_fault (Some bytes) t x ms h a b =
    let none : ms ≡ no_members = none_left bytes ms (0 ∷ []) a b h.1.no_frame in
    h.0 (a ∙ ap (λ (ns : Members). members_bytes ns ++ 0 ∷ []) none)

last : (s t : Option (List ℕ)) (ms : Members) → steps_from s None t → IsAhead s ms → ComeBack ms → ms ≡ no_members
last None t ms h a b = a
last (Some bytes) t ms h a b = none_left bytes ms (0 ∷ []) a b (λ e rest f. end_no_frame bytes e rest h.0 f)

-- ---- turns of the loop

-- what the look-up finds, and where, is decided by the members that are left
pub record Progress (key : List ℕ) (whole : Members) (s : Option (List ℕ)) (met : ℕ) : Type 0 where
  pub rest : Members
  pub ahead : IsAhead s rest
  pub back : ComeBack rest
  pub found : look_up key whole ≡ look_up key rest
  pub place : place_among key whole ≡ met + place_among key rest

pub start : (key bytes : List ℕ) (whole : Members) (s : Option (List ℕ)) → bytes ≡ encode whole → s ≡ Some (drop 4 bytes) → ComeBack whole → Progress key whole s 0
start key bytes whole s is from back = record {
  rest = whole;
  ahead = subst (λ (o : Option (List ℕ)). IsAhead o whole) (sym from) (ap (λ (x : List ℕ). drop 4 x) is ∙ framed_inside (members_bytes whole));
  back = back;
  found = refl;
  place = omega arith;
}

module _ (key : List ℕ) (whole : Members) (s t : Option (List ℕ)) (met : ℕ) (x : RawElement) (step : steps_from s (Some (Ok x)) t) (p : Progress key whole s met) where
  one : NextStep (parts_of x) p.rest t
  one = next_step s t x p.rest step p.ahead p.back

  looked : look_up key whole ≡ cond (bytes_eq key (parts_of x).key) (Some one.value) (look_up key one.more)
  looked = p.found ∙ ap (look_up key) one.is

  counted : place_among key whole ≡ met + cond (bytes_eq key (parts_of x).key) 1 (suc (place_among key one.more))
  counted = p.place ∙ ap (λ (ms : Members). met + place_among key ms) one.is

  pub here : bytes_eq key (parts_of x).key ≡ true → FindsElement (Some x) (look_up key whole)
  here e = (one.value, looked ∙ ap (λ b. cond b (Some one.value) (look_up key one.more)) e, one.written)

  pub here_met : bytes_eq key (parts_of x).key ≡ true → met + 1 ≡ place_among key whole
  here_met e = sym (counted ∙ ap (λ b. met + cond b 1 (suc (place_among key one.more))) e)

  pub passed : bytes_eq key (parts_of x).key ≡ false → Progress key whole t (met + 1)
  passed e = record {
    rest = one.more;
    ahead = one.ahead;
    back = one.others;
    found = looked ∙ ap (λ b. cond b (Some one.value) (look_up key one.more)) e;
    place = let n = counted ∙ ap (λ b. met + cond b 1 (suc (place_among key one.more))) e in omega (arith, n);
  }

module _ (key : List ℕ) (whole : Members) (s t : Option (List ℕ)) (met : ℕ) (step : steps_from s None t) (p : Progress key whole s met) where
  over : p.rest ≡ no_members
  over = last s t p.rest step p.ahead p.back

  pub nowhere : look_up key whole ≡ None
  nowhere = p.found ∙ ap (look_up key) over

  pub all_met : met ≡ place_among key whole
  all_met = let n = p.place ∙ ap (λ (ms : Members). met + place_among key ms) over in omega (arith, n)

-- a step by the first frame
pub stepped : (bytes behind : List ℕ) (x : RawElement) → IsFirstFrame bytes (parts_of x) behind → x.frame.rest.now ≡ behind → steps_from (Some bytes) (Some (Ok x)) (Some behind)
stepped bytes behind x first same = (subst (λ (l : List ℕ). IsFirstFrame bytes (parts_of x) l) (sym same) first, ap (λ (l : List ℕ). Some l) (sym same))

-- where no element is left
pub beyond : (key bytes : List ℕ) (whole : Members) (met : ℕ) → HasNoFrame bytes → Progress key whole (Some bytes) met → look_up key whole ≡ None
beyond key bytes whole met none p = p.found ∙ ap (look_up key) (none_left bytes p.rest (0 ∷ []) p.ahead p.back none)

-- ---- how many bytes there are

pub frame_room : (bytes : List ℕ) (e : Element) (rest : List ℕ) → IsFirstFrame bytes e rest → 2 + length e.payload + length rest ≤ length bytes
frame_room bytes e rest f = omega (arith, simp length-append at (ap length f.parts))

pub step_room : (s t : Option (List ℕ)) (x : RawElement) → steps_from s (Some (Ok x)) t → 2 + length (parts_of x).payload + left_length t ≤ left_length s
step_room None t x h = let bad = h.0 in absurd cc
step_room (Some bytes) t x h = subst (λ (o : Option (List ℕ)). 2 + length (parts_of x).payload + left_length o ≤ length bytes) (sym h.1) (frame_room bytes (parts_of x) x.frame.rest.now h.0)

pub start_room : (bytes : List ℕ) (s : Option (List ℕ)) → s ≡ Some (drop 4 bytes) → 5 ≤ length bytes → 4 + left_length s ≤ length bytes
start_room bytes s from long = subst (λ (o : Option (List ℕ)). 4 + left_length o ≤ length bytes) (sym from) (omega (arith, length-drop {A = ℕ}, long))
