-- A view shows a value, element by element.
use Rattle.std.proofs.Common.{◌≡◌, ◌↔◌, ℕ, suc, ◌+◌, ◌-◌, ◌<◌, ◌≤◌, List, [], ◌∷◌, map, drop, Bool, true, false, cond, eqb, eq-eqb, IsTrue, length, Option, Some, None, Ok, Err, bytes_eq, refl, ap, sym, ◌∙◌, subst, arith}
use Rattle.std.proofs.lemmas.Bool.{eqb-true}
use Rattle.std.specs.Prelude.{IsSomeAnd, is_some}
use Rattle.bson_base.specs.declared.spec.ElementType.{ElementType}
use Rattle.bson_base.specs.declared.spec.ElementType.TheVariants as kinds
use Rattle.bson_base.specs.Value.{Scalar, scalar_kind, Value, scalar, array, document, scoped_code, Items, no_items, item, Members, no_members, member, value_kind, look_up, has_key, HasDistinctKeys, ItemsHaveDistinctKeys, MembersHaveDistinctKeys}
use Rattle.bson_bytes.specs.Spells.{HoldsScalar, SpellsValue, SpellsItems, SpellsMembers}
use Rattle.bson_bytes.proofs.OneTreeLemmas.{end_no_frame, one_scalar}
use Rattle.bson_frame.specs.declared.error.Error.{Error}
use Rattle.bson_frame.specs.declared.error.ErrorKind.{ErrorKind}
use Rattle.bson_frame.specs.Frame.{Element}
use Rattle.bson_frame.specs.Payload.{IsPayload, IsPayloadFault, text_in, code_in, scope_in}
use Rattle.bson_frame.proofs.FrameLemmas.{frame_is_one}
use Rattle.bson_model.specs.Equal.{SameKeys}
use Rattle.bson_model.specs.Keyed.{Key}
use Rattle.bson_model.specs.View.{view, items_of, members_of}
use Rattle.bson_model.specs.declared.bson.Bson.{Bson}
use Rattle.bson_raw.specs.declared.bson_ref.RawBsonRef.{RawBsonRef}
use Rattle.bson_raw.specs.declared.bson_ref.RawBsonRef.TheVariants as views
use Rattle.bson_raw.specs.declared.element.RawElement.{RawElement}
use Rattle.bson_raw.specs.Convert.{SpellsRawValue}
use Rattle.bson_raw.specs.Raw.{ref_value}
use Rattle.bson_raw.specs.ReadValue.{IsValue}
use Rattle.bson_raw.specs.View.{parts_of}
use Rattle.bson_raw.specs.Walk.{steps_from}
use Rattle.bson_meaning.specs.Meaning.{Same, SameItems, SameUnder}
use Rattle.bson_meaning.specs.Sames.{HasKeysOf}
use Rattle.bson_meaning.specs.Views.{ComparesPayload, view_scalar, IsRest, IsItemsRest}
use Rattle.bson_meaning.proofs.ComparisonLemmas.{keys_under, same_documents}
use Rattle.bson_meaning.proofs.PayloadLemmas.{scalar_apart}
use Rattle.bson_meaning.proofs.PairwiseLemmas.{StandOnce}
use Rattle.bson_raw.proofs.ProgressLemmas.{untrue}
use Rattle.bson_base.proofs.MemberLemmas.{equal_keys, same_key, not_first}

-- how many members there are
abbrev pub number : Members → ℕ
number no_members = 0
number (member k v ms) = suc (number ms)

-- ---- a payload that was read

scalar_shown : (payload : List ℕ) (tag : ElementType) (s : Scalar) (v : Value) → scalar_kind s ≡ tag → value_kind v ≡ tag → IsPayload tag payload → HoldsScalar payload s → SpellsValue payload v → v ≡ scalar s
scalar_shown payload tag s (scalar t) k l sized held h = ap scalar (one_scalar payload t s (l ∙ sym k) (subst (λ x. IsPayload x payload) (sym l) sized) h.1 held)
scalar_shown payload tag s (array vs) k l sized held h = absurd (scalar_apart s kinds.Array (k ∙ sym l) refl)
scalar_shown payload tag s (document ms) k l sized held h = absurd (scalar_apart s kinds.EmbeddedDocument (k ∙ sym l) refl)
scalar_shown payload tag s (scoped_code t ms) k l sized held h = absurd (scalar_apart s kinds.JavaScriptCodeWithScope (k ∙ sym l) refl)

array_shown : (payload bytes : List ℕ) (v : Value) → bytes ≡ payload → value_kind v ≡ kinds.Array → SpellsValue payload v → (vs : Items) × SpellsItems (drop 4 bytes) vs × (v ≡ array vs)
array_shown payload bytes (array vs) e k h = (vs, subst (λ b. SpellsItems (drop 4 b) vs) (sym e) h, refl)
array_shown payload bytes (document ms) e k h = absurd (cc)
array_shown payload bytes (scoped_code t ms) e k h = absurd (cc)
array_shown payload bytes (scalar s) e k h = absurd (scalar_apart s kinds.Array k refl)

document_shown : (payload bytes : List ℕ) (v : Value) → bytes ≡ payload → value_kind v ≡ kinds.EmbeddedDocument → SpellsValue payload v → (ms : Members) × SpellsMembers (drop 4 bytes) ms × (v ≡ document ms)
document_shown payload bytes (document ms) e k h = (ms, subst (λ b. SpellsMembers (drop 4 b) ms) (sym e) h, refl)
document_shown payload bytes (array vs) e k h = absurd (cc)
document_shown payload bytes (scoped_code t ms) e k h = absurd (cc)
document_shown payload bytes (scalar s) e k h = absurd (scalar_apart s kinds.EmbeddedDocument k refl)

scope_shown : (payload text bytes : List ℕ) (v : Value) → text ≡ text_in (code_in payload) → bytes ≡ scope_in payload → value_kind v ≡ kinds.JavaScriptCodeWithScope → SpellsValue payload v
    → (ms : Members) × SpellsMembers (drop 4 bytes) ms × (v ≡ scoped_code text ms)
scope_shown payload text bytes (scoped_code t ms) d e k h = (ms, subst (λ b. SpellsMembers (drop 4 b) ms) (sym e) h.2, ap (λ x. scoped_code x ms) (h.1 ∙ sym d))
scope_shown payload text bytes (array vs) d e k h = absurd (cc)
scope_shown payload text bytes (document ms) d e k h = absurd (cc)
scope_shown payload text bytes (scalar s) d e k h = absurd (scalar_apart s kinds.JavaScriptCodeWithScope k refl)

pub payload_shown : (payload : List ℕ) (tag : ElementType) (raw : RawBsonRef) (v : Value) → IsPayload tag payload → IsValue tag payload raw → value_kind v ≡ tag → SpellsValue payload v → SpellsRawValue (ref_value raw) v
payload_shown payload tag (views.Array x) v sized is k h = array_shown payload _ v is.holds (k ∙ sym is.kind) h
payload_shown payload tag (views.Document x) v sized is k h = document_shown payload _ v is.holds (k ∙ sym is.kind) h
payload_shown payload tag (views.JavaScriptCodeWithScope x) v sized is k h = scope_shown payload _ _ v is.holds.0 is.holds.1 (k ∙ sym is.kind) h
payload_shown payload tag raw v sized is k h = scalar_shown payload tag (view_scalar raw) v is.kind k sized is.holds h

-- ---- the next element

pub record NextMember (e : Element) (rest : Members) (left : Option (List ℕ)) : Type 0 where
  pub value : Value
  pub more : Members
  pub is : rest ≡ member e.key value more
  pub kind : value_kind value ≡ e.tag
  pub spelled : SpellsValue e.payload value
  pub others : IsRest left more

pub next_member : (s t : Option (List ℕ)) (x : RawElement) (rest : Members) → steps_from s (Some (Ok x)) t → IsRest s rest → NextMember (parts_of x) rest t
next_member None t x rest h r = let bad = h.0 in absurd cc
next_member (Some bytes) t x no_members h r = absurd (end_no_frame bytes (parts_of x) x.frame.rest.now r h.0)
next_member (Some bytes) t x (member k v ms) h r =
    let same = frame_is_one bytes r.0 (parts_of x) r.1 x.frame.rest.now r.2 h.0 in
    record {
      value = v;
      more = ms;
      is = ap (λ l. member l v ms) (r.3 ∙ ap (λ f. f.key) same.0);
      kind = r.4 ∙ ap (λ f. f.tag) same.0;
      spelled = subst (λ f. SpellsValue f.payload v) same.0 r.5;
      others = subst (λ l. IsRest l ms) (sym h.1) (subst (λ b. SpellsMembers b ms) same.1 r.6);
    }

pub no_next_member : (s t : Option (List ℕ)) (x : Error) (rest : Members) → steps_from s (Some (Err x)) t → IsRest s rest → ⊥
no_next_member None t x rest h r = let bad = h.0 in cc
no_next_member (Some bytes) t x no_members h r = h.0 r
no_next_member (Some bytes) t x (member k v ms) h r = h.1.no_frame r.0 r.1 r.2

pub last_member : (s t : Option (List ℕ)) (rest : Members) → steps_from s None t → IsRest s rest → rest ≡ no_members
last_member None t rest h r = r
last_member (Some bytes) t no_members h r = refl
last_member (Some bytes) t (member k v ms) h r = absurd (end_no_frame bytes r.0 r.1 h.0 r.2)

pub no_payload_fault : (e : Element) (v : Value) (kind : ErrorKind) → value_kind v ≡ e.tag → SpellsValue e.payload v → IsPayloadFault e.tag e.payload kind → ⊥
no_payload_fault e (scalar s) kind k h f = h.0 kind (subst (λ t. IsPayloadFault t e.payload kind) (sym k) f)
no_payload_fault e (array vs) kind k h f = subst (λ t. IsPayloadFault t e.payload kind) (sym k) f
no_payload_fault e (document ms) kind k h f = subst (λ t. IsPayloadFault t e.payload kind) (sym k) f
no_payload_fault e (scoped_code t ms) kind k h f = h.0 kind (subst (λ t. IsPayloadFault t e.payload kind) (sym k) f)

-- ---- the next item

pub record NextItem (e : Element) (rest : Items) (left : Option (List ℕ)) : Type 0 where
  pub value : Value
  pub more : Items
  pub is : rest ≡ item value more
  pub kind : value_kind value ≡ e.tag
  pub spelled : SpellsValue e.payload value
  pub others : IsItemsRest left more

pub next_item : (s t : Option (List ℕ)) (x : RawElement) (rest : Items) → steps_from s (Some (Ok x)) t → IsItemsRest s rest → NextItem (parts_of x) rest t
next_item None t x rest h r = let bad = h.0 in absurd cc
next_item (Some bytes) t x no_items h r = absurd (end_no_frame bytes (parts_of x) x.frame.rest.now r h.0)
next_item (Some bytes) t x (item v vs) h r =
    let same = frame_is_one bytes r.0 (parts_of x) r.1 x.frame.rest.now r.2 h.0 in
    record {
      value = v;
      more = vs;
      is = refl;
      kind = r.3 ∙ ap (λ f. f.tag) same.0;
      spelled = subst (λ f. SpellsValue f.payload v) same.0 r.4;
      others = subst (λ l. IsItemsRest l vs) (sym h.1) (subst (λ b. SpellsItems b vs) same.1 r.5);
    }

pub no_next_item : (s t : Option (List ℕ)) (x : Error) (rest : Items) → steps_from s (Some (Err x)) t → IsItemsRest s rest → ⊥
no_next_item None t x rest h r = let bad = h.0 in cc
no_next_item (Some bytes) t x no_items h r = h.0 r
no_next_item (Some bytes) t x (item v vs) h r = h.1.no_frame r.0 r.1 r.2

last_item : (s t : Option (List ℕ)) (rest : Items) → steps_from s None t → IsItemsRest s rest → rest ≡ no_items
last_item None t rest h r = r
last_item (Some bytes) t no_items h r = refl
last_item (Some bytes) t (item v vs) h r = absurd (end_no_frame bytes r.0 r.1 h.0 r.2)

-- ---- a payload that is compared

pub compares_raw : (e : Element) (raw : RawBsonRef) (w : Value) (b : Bool) → IsPayload e.tag e.payload → IsValue e.tag e.payload raw → ((v : Value) → SpellsRawValue (ref_value raw) v → HasDistinctKeys v → IsTrue b ↔ Same v w) → ComparesPayload e w b
compares_raw e raw w b sized is c v kind spelled d = c v (payload_shown e.payload e.tag raw v sized is kind spelled) d

-- ---- as many keys

-- without the first member of the key
abbrev dropped : List ℕ → Members → Members
dropped k no_members = no_members
dropped k (member l w ns) = cond (bytes_eq k l) ns (member l w (dropped k ns))

one_less : (k : List ℕ) (ns : Members) → has_key k ns ≡ true → number ns ≡ suc (number (dropped k ns))
one_less k no_members h = cc
one_less k (member l w ns) h = by (one_less k ns) (bytes_eq k l) h
  where
    by : (has_key k ns ≡ true → number ns ≡ suc (number (dropped k ns))) → (b : Bool) → is_some (cond b (Some w) (look_up k ns)) ≡ true → suc (number ns) ≡ suc (number (cond b ns (member l w (dropped k ns))))
    by more true h = refl
    by more false h = ap suc (more h)

still_there : (q k : List ℕ) (ns : Members) → bytes_eq k q ≡ false → has_key q ns ≡ true → has_key q (dropped k ns) ≡ true
still_there q k no_members d h = h
still_there q k (member l w ns) d h = by (still_there q k ns d) (bytes_eq k l) (bytes_eq q l) refl refl h
  where
    by : (has_key q ns ≡ true → has_key q (dropped k ns) ≡ true) → (b c : Bool) → bytes_eq k l ≡ b → bytes_eq q l ≡ c → is_some (cond c (Some w) (look_up q ns)) ≡ true
        → has_key q (cond b ns (member l w (dropped k ns))) ≡ true
    by more true true e f h = let same : k ≡ q = equal_keys k l e ∙ sym (equal_keys q l f) in let t : bytes_eq k q ≡ true = subst (λ m. bytes_eq k m ≡ true) same (same_key k) in cc
    by more true false e f h = h
    by more false true e f h = ap (λ c. is_some (cond c (Some w) (look_up q (dropped k ns)))) f
    by more false false e f h = ap (λ c. is_some (cond c (Some w) (look_up q (dropped k ns)))) f ∙ more h

keys_without : (k : List ℕ) (ms ns : Members) → look_up k ms ≡ None → HasKeysOf ms ns → HasKeysOf ms (dropped k ns)
keys_without k no_members ns e h = tt
keys_without k (member q v ms) ns e h = let d = not_first k q v ms e in (still_there q k ns d.0 h.0, keys_without k ms ns d.1 h.1)

pub at_most : (ms ns : Members) → StandOnce ms → HasKeysOf ms ns → number ms ≤ number ns
at_most no_members ns d h = omega arith
at_most (member k v ms) ns d h = omega (arith, at_most ms (dropped k ns) d.1 (keys_without k ms ns d.0 h.1), one_less k ns h.0)

weaker : (k : List ℕ) (v : Value) (ms ns : Members) → HasKeysOf ns ms → HasKeysOf ns (member k v ms)
weaker k v ms no_members h = tt
weaker k v ms (member q w ns) h = (elim (bytes_eq q k) as (λ b. is_some (cond b (Some v) (look_up q ms)) ≡ true) [ true ↦ refl | false ↦ h.0 ], weaker k v ms ns h.1)

put_back : (k : List ℕ) (ms ns : Members) → has_key k ms ≡ true → HasKeysOf (dropped k ns) ms → HasKeysOf ns ms
put_back k ms no_members t h = tt
put_back k ms (member l w ns) t h = by (put_back k ms ns t) (bytes_eq k l) refl h
  where
    by : (HasKeysOf (dropped k ns) ms → HasKeysOf ns ms) → (b : Bool) → bytes_eq k l ≡ b → HasKeysOf (cond b ns (member l w (dropped k ns))) ms → HasKeysOf (member l w ns) ms
    by more true e h = (ap (λ q. has_key q ms) (sym (equal_keys k l e)) ∙ t, h)
    by more false e h = (h.0, more h.1)

-- as many distinct keys, all of them there: there are no others
keys_back : (ms ns : Members) → StandOnce ms → HasKeysOf ms ns → number ms ≡ number ns → HasKeysOf ns ms
keys_back no_members no_members d h e = tt
keys_back no_members (member l w ns) d h e = absurd (omega (arith, e))
keys_back (member k v ms) ns d h e =
    let less = one_less k ns h.0 in
    let rest = keys_back ms (dropped k ns) d.1 (keys_without k ms ns d.0 h.1) (omega (arith, e, less)) in
    put_back k (member k v ms) ns (ap (λ b. is_some (cond b (Some v) (look_up k ms))) (same_key k)) (weaker k v ms (dropped k ns) rest)

pub counted_same : (ms ns : Members) (left : ℕ) (b : Bool) → StandOnce ms → StandOnce ns → SameUnder ms ns → number ms + left ≡ number ns → b ≡ eqb left 0 → IsTrue b ↔ (SameKeys ms ns × SameUnder ms ns)
counted_same ms ns left b d e under count test = (
  λ t. let none : left ≡ 0 = eqb-true left 0 (sym test ∙ t) in (same_documents ms ns under).0 (keys_back ms ns d (keys_under ms ns under) (omega (arith, none, count))),
  λ h.
      let back = (same_documents ms ns under).1 h in
      let none : left ≡ 0 = omega (arith, count, at_most ns ms e back) in
      test ∙ eq-eqb left 0 none,
)

-- ---- turns of the loop over elements

-- the elements that are left decide what all decide; as many values as these are left of len, and those that are done
abbrev pub MembersLeft : Option (List ℕ) → ℕ → ℕ → Members → Members → Type 0
MembersLeft s left len all ns = (rest : Members) × IsRest s rest × MembersHaveDistinctKeys rest × (SameUnder all ns ↔ SameUnder rest ns) × (number all + left ≡ len + number rest)

at_some : (o : Option Value) (w v : Value) → o ≡ Some w → Same v w → IsSomeAnd o (Same v)
at_some o w v e h = subst (λ p. IsSomeAnd p (Same v)) (sym e) h

module _ (s t : Option (List ℕ)) (left len : ℕ) (all ns : Members) (x : RawElement) (step : steps_from s (Some (Ok x)) t) (l : MembersLeft s left len all ns) where
  next : NextMember (parts_of x) l.0 t
  next = next_member s t x l.0 step l.1

  distinct : MembersHaveDistinctKeys (member (parts_of x).key next.value next.more)
  distinct = subst MembersHaveDistinctKeys next.is l.2

  under : SameUnder all ns → SameUnder (member (parts_of x).key next.value next.more) ns
  under h = subst (λ ms. SameUnder ms ns) next.is (l.3.0 h)

  pub members_none : look_up (parts_of x).key ns ≡ None → SameUnder all ns → ⊥
  members_none e h = subst (λ o. IsSomeAnd o (Same next.value)) e (under h).0

  pub members_many : StandOnce all → len ≡ number ns → left ≡ 0 → SameUnder all ns → ⊥
  members_many d e z h = omega (arith, l.4, ap number next.is, at_most all ns d (keys_under all ns h), e, z)

  module _ (w : Value) (b : Bool) (c : ComparesPayload (parts_of x) w b) (found : look_up (parts_of x).key ns ≡ Some w) where
    told : IsTrue b ↔ Same next.value w
    told = c next.value next.kind next.spelled distinct.1

    pub members_other : b ≡ false → SameUnder all ns → ⊥
    members_other wrong h = untrue b wrong (told.1 (subst (λ o. IsSomeAnd o (Same next.value)) found (under h).0))

    pub members_more : IsTrue b → 0 < left → MembersLeft t (left - 1) len all ns
    members_more right some = (
      next.more,
      next.others,
      distinct.2,
      (λ h. (under h).1, λ h. l.3.1 (subst (λ ms. SameUnder ms ns) (sym next.is) (at_some (look_up (parts_of x).key ns) w next.value found (told.0 right), h))),
      omega (arith, l.4, ap number next.is, some),
    )

pub members_end : (s t : Option (List ℕ)) (left len : ℕ) (all ns : Members) (b : Bool) → steps_from s None t → MembersLeft s left len all ns → StandOnce all → StandOnce ns → len ≡ number ns → b ≡ eqb left 0
    → IsTrue b ↔ (SameKeys all ns × SameUnder all ns)
members_end s t left len all ns b step l d e same test =
    let r = last_member s t l.0 step l.1 in
    let under = l.3.1 (subst (λ ms. SameUnder ms ns) (sym r) tt) in
    counted_same all ns left b d e under (omega (arith, l.4, ap number r, same)) test

pub members_wrong : (s t : Option (List ℕ)) (left len : ℕ) (all ns : Members) (x : Error) → steps_from s (Some (Err x)) t → MembersLeft s left len all ns → ⊥
members_wrong s t left len all ns x step l = no_next_member s t x l.0 step l.1

-- ---- turns of the loop over items

abbrev pub ItemsLeft : Option (List ℕ) → Items → Items → Items → Type 0
ItemsLeft left all target others = (rest : Items) × IsItemsRest left rest × ItemsHaveDistinctKeys rest × (SameItems all target ↔ SameItems rest others)

module _ (s t : Option (List ℕ)) (all target others : Items) (x : RawElement) (step : steps_from s (Some (Ok x)) t) (l : ItemsLeft s all target others) where
  next_one : NextItem (parts_of x) l.0 t
  next_one = next_item s t x l.0 step l.1

  distinct_one : ItemsHaveDistinctKeys (item next_one.value next_one.more)
  distinct_one = subst ItemsHaveDistinctKeys next_one.is l.2

  pub items_longer : others ≡ no_items → SameItems all target → ⊥
  items_longer e h = subst (λ vs. SameItems (item next_one.value next_one.more) vs) e (subst (λ vs. SameItems vs others) next_one.is (l.3.0 h))

  module _ (w : Value) (ws : Items) (b : Bool) (c : ComparesPayload (parts_of x) w b) (split : others ≡ item w ws) where
    at_heads : SameItems all target ↔ (Same next_one.value w × SameItems next_one.more ws)
    at_heads = (
      λ h. subst (λ vs. SameItems (item next_one.value next_one.more) vs) split (subst (λ vs. SameItems vs others) next_one.is (l.3.0 h)),
      λ h. l.3.1 (subst (λ vs. SameItems vs others) (sym next_one.is) (subst (λ vs. SameItems (item next_one.value next_one.more) vs) (sym split) h)),
    )

    told_one : IsTrue b ↔ Same next_one.value w
    told_one = c next_one.value next_one.kind next_one.spelled distinct_one.0

    pub items_other : b ≡ false → SameItems all target → ⊥
    items_other wrong h = untrue b wrong (told_one.1 (at_heads.0 h).0)

    pub items_more : IsTrue b → ItemsLeft t all target ws
    items_more right = (next_one.more, next_one.others, distinct_one.1, (λ h. (at_heads.0 h).1, λ h. at_heads.1 (told_one.0 right, h)))

pub items_wrong : (s t : Option (List ℕ)) (all target others : Items) (x : Error) → steps_from s (Some (Err x)) t → ItemsLeft s all target others → ⊥
items_wrong s t all target others x step l = no_next_item s t x l.0 step l.1

pub items_done : (s t : Option (List ℕ)) (all target others : Items) → steps_from s None t → ItemsLeft s all target others → (SameItems all target ↔ SameItems no_items others)
items_done s t all target others step l = subst (λ vs. SameItems all target ↔ SameItems vs others) (last_item s t l.0 step l.1) l.3

-- ---- what was found

pub number_length : (ps : List (Key × Value)) → number (members_of ps) ≡ length ps
number_length [] = refl
number_length (p ∷ ps) = ap suc (number_length ps)

-- ---- at the end of a list of values

pub items_over : (left : List Bson) → length left ≡ 0 → items_of (map view left) ≡ no_items
items_over [] e = refl
items_over (x ∷ left) e = absurd (omega (arith, e))

pub items_closed : (all target : Items) (left : List Bson) (b : Bool) → (SameItems all target ↔ SameItems no_items (items_of (map view left))) → b ≡ eqb (length left) 0 → IsTrue b ↔ SameItems all target
items_closed all target [] b h test = (λ t. h.1 tt, λ x. test)
items_closed all target (v ∷ left) b h test = (
  λ t. absurd (let none : length (v ∷ left) ≡ 0 = eqb-true (length (v ∷ left)) 0 (sym test ∙ t) in omega (arith, none)),
  λ x. absurd (h.0 x),
)
