-- What is written straight from its bytes is never left to its tree.
use Rattle.std.proofs.Common.{◌≡◌, ◌-◌, ℕ, Bool, true, false, ◌||◌, List, Option, Some, Result, Ok, Err, drop, refl, sym, ap, ◌∙◌, subst}
use Rattle.std.specs.Prelude.{IfErr}
use Rattle.bson_base.specs.Value.{Scalar, Value, scalar, value_kind, Items, Members, array}
use Rattle.bson_bytes.specs.Spells.{SpellsItems, SpellsMembers, SpellsValue}
use Rattle.bson_frame.specs.declared.error.Error.{Error}
use Rattle.bson_meaning.specs.JsonReserved.{some_reserved}
use Rattle.bson_meaning.specs.Views.{IsItemsRest, IsRest}
use Rattle.bson_meaning.proofs.ViewLemmas.{next_item, next_member, no_next_item, no_next_member}
use Rattle.bson_model.specs.JsonKeys.{is_reserved}
use Rattle.bson_raw.specs.Convert.{SpellsRawValue}
use Rattle.bson_raw.specs.Raw as raw
use Rattle.bson_raw.specs.View.{parts_of}
use Rattle.bson_raw.specs.Walk.{steps_from}
use Rattle.bson_raw.specs.declared.element.RawElement.{RawElement}
use Rattle.bson_json.specs.declared.unwritten.Unwritten.{Unwritten}
use Rattle.bson_json.specs.declared.unwritten.Unwritten.TheVariants.{Memory, Unseen}
use Rattle.bson_json.specs.Added.{HasKeys}
use Rattle.bson_json.specs.Straight.{IfUnseen, IsStraight, IsStraightAtTop, IsStraightScalar, ItemsAreStraight, MembersAreStraight}
use Rattle.bson_json.specs.declared.keys.Keys.{Keys}
use Rattle.bson_json.specs.declared.style.Style.{Style}
use Rattle.bson_json.specs.declared.keys.Keys.TheVariants.{Free, Unreserved}

-- ---- what a refusal means goes on

pub unseen : {P Q : Type 0} (e : Unwritten) → (P → Q) → IfUnseen P e → IfUnseen Q e
unseen Memory f h = tt
unseen Unseen f h = f h

unseen_in : {A P Q : Type 0} (r : Result A Unwritten) → (P → Q) → IfErr r (IfUnseen P) → IfErr r (IfUnseen Q)
unseen_in (Ok x) f h = tt
unseen_in (Err e) f h = unseen e f h

-- no value that an element's payload spells is written straight
abbrev pub IsLeft : Style → ℕ → RawElement → Type 0
IsLeft style n x = (v : Value) → value_kind v ≡ (parts_of x).tag → SpellsValue (parts_of x).payload v → IsStraight style n v → ⊥

-- ---- members

-- if all members are written straight, those that are left are
abbrev pub MembersSoFar : Style → Keys → List ℕ → Option (List ℕ) → Type 0
MembersSoFar style keys elements left = (n : ℕ) (all : Members) → SpellsMembers elements all → HasKeys keys all → MembersAreStraight style n all
    → (rest : Members) × IsRest left rest × HasKeys keys rest × MembersAreStraight style n rest

-- the elements spell no members that are written straight
abbrev pub MembersAreLeft : Style → Keys → List ℕ → ℕ → Type 0
MembersAreLeft style keys elements inner = (ms : Members) → SpellsMembers elements ms → HasKeys keys ms → IsStraightAtTop style inner ms → ⊥

neither : (a b : Bool) → (a || b) ≡ false → (a ≡ false) × (b ≡ false)
neither false b none = (refl, none)
neither true b none = absurd (cc)

pub members_none : (style : Style) (keys : Keys) (elements : List ℕ) (left : Option (List ℕ)) → left ≡ Some elements → MembersSoFar style keys elements left
members_none style keys elements left is = λ n all h free straight. (all, subst (λ l. IsRest l all) (sym is) h, free, straight)

module _ (style : Style) (keys : Keys) (elements : List ℕ) (s t : Option (List ℕ)) (x : RawElement) (step : steps_from s (Some (Ok x)) t) (so : MembersSoFar style keys elements s) where
  pub members_onward : MembersSoFar style keys elements t
  members_onward = λ n all h free straight.
      let l = so n all h free straight in
      let m = next_member s t x l.0 step l.1 in
      (m.more, m.others, λ only. (neither (is_reserved (parts_of x).key) (some_reserved m.more) (subst (HasKeys keys) m.is l.2 only)).1, (subst (MembersAreStraight style n) m.is l.3).1)

  pub reserved_key : (inner : ℕ) (k : List ℕ) → k ≡ (parts_of x).key → (keys ≡ Unreserved) × (is_reserved k ≡ true) → MembersAreLeft style keys elements inner
  reserved_key inner k key bad = λ ms h free straight.
      let l = so (inner - 1) ms h free straight.1 in
      let m = next_member s t x l.0 step l.1 in
      let none = (neither (is_reserved (parts_of x).key) (some_reserved m.more) (subst (HasKeys keys) m.is l.2 bad.0)).0 in
      let both : true ≡ false = sym bad.1 ∙ ap (λ q. is_reserved q) key ∙ none in
      absurd (cc)

  pub member_left : (inner : ℕ) → IsLeft style (inner - 1) x → MembersAreLeft style keys elements inner
  member_left inner bad = λ ms h free straight.
      let l = so (inner - 1) ms h free straight.1 in
      let m = next_member s t x l.0 step l.1 in
      bad m.value m.kind m.spelled (subst (MembersAreStraight style (inner - 1)) m.is l.3).0

pub no_member : (style : Style) (keys : Keys) (elements : List ℕ) (inner : ℕ) (s t : Option (List ℕ)) (x : Error) → steps_from s (Some (Err x)) t → MembersSoFar style keys elements s → MembersAreLeft style keys elements inner
no_member style keys elements inner s t x step so = λ ms h free straight.
    let l = so (inner - 1) ms h free straight.1 in
    no_next_member s t x l.0 step l.1

-- ---- items

abbrev pub ItemsSoFar : Style → List ℕ → Option (List ℕ) → Type 0
ItemsSoFar style elements left = (n : ℕ) (all : Items) → SpellsItems elements all → ItemsAreStraight style n all → (rest : Items) × IsItemsRest left rest × ItemsAreStraight style n rest

abbrev pub ItemsAreLeft : Style → List ℕ → ℕ → Type 0
ItemsAreLeft style elements inner = (vs : Items) → SpellsItems elements vs → IsStraight style inner (array vs) → ⊥

pub items_none : (style : Style) (elements : List ℕ) (left : Option (List ℕ)) → left ≡ Some elements → ItemsSoFar style elements left
items_none style elements left is = λ n all h straight. (all, subst (λ l. IsItemsRest l all) (sym is) h, straight)

module _ (style : Style) (elements : List ℕ) (s t : Option (List ℕ)) (x : RawElement) (step : steps_from s (Some (Ok x)) t) (so : ItemsSoFar style elements s) where
  pub items_onward : ItemsSoFar style elements t
  items_onward = λ n all h straight.
      let l = so n all h straight in
      let m = next_item s t x l.0 step l.1 in
      (m.more, m.others, (subst (ItemsAreStraight style n) m.is l.2).1)

  pub item_left : (inner : ℕ) → IsLeft style (inner - 1) x → ItemsAreLeft style elements inner
  item_left inner bad = λ vs h straight.
      let l = so (inner - 1) vs h straight.1 in
      let m = next_item s t x l.0 step l.1 in
      bad m.value m.kind m.spelled (subst (ItemsAreStraight style (inner - 1)) m.is l.2).0

pub no_item : (style : Style) (elements : List ℕ) (inner : ℕ) (s t : Option (List ℕ)) (x : Error) → steps_from s (Some (Err x)) t → ItemsSoFar style elements s → ItemsAreLeft style elements inner
no_item style elements inner s t x step so = λ vs h straight.
    let l = so (inner - 1) vs h straight.1 in
    no_next_item s t x l.0 step l.1

-- ---- a value

abbrev pub IsLeftWhole : Style → ℕ → raw.RawValue → Type 0
IsLeftWhole style inner r = (v : Value) → SpellsRawValue r v → IsStraight style inner v → ⊥

pub of_document : {A : Type 0} (style : Style) (inner : ℕ) (bytes : List ℕ) (r : Result A Unwritten) → IfErr r (IfUnseen (MembersAreLeft style Unreserved (drop 4 bytes) inner)) → IfErr r (IfUnseen (IsLeftWhole style inner (raw.document bytes)))
of_document style inner bytes r = unseen_in r (λ bad v shown straight.
    let all = subst (IsStraight style inner) shown.2 straight in
    bad shown.0 shown.1 (λ only. all.0) (all.1, all.2))

pub of_scoped : {A : Type 0} (style : Style) (inner : ℕ) (t bytes : List ℕ) (r : Result A Unwritten) → IfErr r (IfUnseen ((ms : Members) → SpellsMembers (drop 4 bytes) ms → IsStraightAtTop style inner ms → ⊥)) → IfErr r (IfUnseen (IsLeftWhole style inner (raw.scoped_code t bytes)))
of_scoped style inner t bytes r = unseen_in r (λ bad v shown straight. bad shown.0 shown.1 (subst (IsStraight style inner) shown.2 straight))

pub of_array : {A : Type 0} (style : Style) (inner : ℕ) (bytes : List ℕ) (r : Result A Unwritten) → IfErr r (IfUnseen (ItemsAreLeft style (drop 4 bytes) inner)) → IfErr r (IfUnseen (IsLeftWhole style inner (raw.array bytes)))
of_array style inner bytes r = unseen_in r (λ bad v shown straight. bad shown.0 shown.1 (subst (IsStraight style inner) shown.2 straight))

-- a scope, whose own keys are free
pub free_keys : (style : Style) (elements : List ℕ) (inner : ℕ) → MembersAreLeft style Free elements inner → (ms : Members) → SpellsMembers elements ms → IsStraightAtTop style inner ms → ⊥
free_keys style elements inner bad ms h straight = bad ms h (λ only. absurd (cc)) straight

-- a value with nothing inside
pub leaf_left : {A : Type 0} (style : Style) (s : Scalar) (r : raw.RawValue) (q : Result A Unwritten) → r ≡ raw.leaf s → IfErr q (IfUnseen (IsStraightScalar style s → ⊥)) → IfErr q (IfUnseen ((inner : ℕ) → IsLeftWhole style inner r))
leaf_left style s r q is = unseen_in q (λ bad inner v shown straight.
    let one : v ≡ scalar s = subst (λ x. SpellsRawValue x v) is shown in
    bad (subst (IsStraight style inner) one straight))

pub leaf_unseen : {A : Type 0} (style : Style) (inner : ℕ) (r : raw.RawValue) (q : Result A Unwritten) → IfErr q (IfUnseen ((n : ℕ) → IsLeftWhole style n r)) → IfErr q (IfUnseen (IsLeftWhole style inner r))
leaf_unseen style inner r q = unseen_in q (λ bad. bad inner)
