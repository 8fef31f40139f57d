-- One turn of a loop over members or items, and what is written at their ends.
use Rattle.std.proofs.Common.{◌≡◌, ℕ, Bool, true, false, ◌||◌, List, [], ◌∷◌, ◌++◌, Option, Some, None, Result, Ok, Err, OnOk, refl, sym, ap, ap₂, ◌∙◌, subst}
use Rattle.std.specs.Prelude.{option_map, option_and_then}
use Rattle.std.proofs.lemmas.Result.{on_ok_weaker}
use Rattle.std.specs.Borrow.{Bor}
use Rattle.std.specs.List.{AllByRecursion}
use Rattle.json.specs.Token.{Token, begin_array, end_array, begin_object, end_object, key, string}
use Rattle.json.specs.Json as json
use Rattle.json.specs.Json.{Json, object}
use Rattle.json.specs.Tree.{json_tokens, items_tokens, members_tokens}
use Rattle.json.specs.Written.{Written}
use Rattle.json.specs.Written as writer
use Rattle.serde_json.specs.Data as sorted
use Rattle.serde_json.specs.Data.{Data}
use Rattle.serde_json.specs.Written.{members_outline}
use Rattle.bson_base.specs.Value.{Scalar, Value, scalar, value_kind, Items, no_items, item, Members, no_members, member, document, array, scoped_code}
use Rattle.bson_bytes.specs.Spells.{SpellsItems, SpellsMembers, SpellsValue}
use Rattle.bson_bytes.proofs.OneTreeLemmas.{end_no_frame}
use Rattle.bson_meaning.specs.JsonReserved.{has_reserved, reserved_in, reserved_in_items, some_reserved}
use Rattle.bson_meaning.specs.Views.{IsItemsRest, IsRest}
use Rattle.bson_meaning.proofs.ViewLemmas.{last_member, next_item, next_member}
use Rattle.bson_model.specs.JsonKeys.{is_reserved, key_of, of_code, scope_key}
use Rattle.bson_model.specs.JsonWrite.{write}
use Rattle.bson_model.specs.declared.extjson.ser.Mode.{Mode}
use Rattle.bson_model.specs.declared.extjson.ser.Mode.TheVariants.{Canonical}
use Rattle.bson_raw.specs.Convert.{SpellsRawValue}
use Rattle.bson_raw.specs.Raw as raw
use Rattle.bson_raw.specs.Raw.{RawValue, ref_value}
use Rattle.bson_raw.specs.View.{parts_of}
use Rattle.bson_raw.specs.Walk.{steps_from}
use Rattle.bson_raw.specs.declared.bson_ref.RawBsonRef.{RawBsonRef}
use Rattle.bson_raw.specs.declared.element.RawElement.{RawElement}
use Rattle.bson_json.specs.Added.{AddsDocument, AddsLeaf, AddsScalar, AddsValue, HasKeys}
use Rattle.bson_json.specs.InOrder.{Pairs, Shows, ShowsInOrder, ShowPairs, Views}
use Rattle.bson_json.specs.Prints.{Adds, AddsSome}
use Rattle.bson_json.specs.Styles.{HasForm, HasItemsForm}
use Rattle.bson_json.specs.declared.keys.Keys.{Keys}
use Rattle.bson_json.specs.declared.keys.Keys.TheVariants.{Free, Unreserved}
use Rattle.bson_json.specs.declared.style.Style.{Style}
use Rattle.bson_json.specs.declared.style.Style.TheVariants.{Stored, Full}
use Rattle.bson_json.specs.declared.unwritten.Unwritten.{Unwritten}
use Rattle.bson_json.proofs.FormLemmas.{array_added, item_added, none_added, scope_added}
use Rattle.bson_json.proofs.OrderedLemmas.{all_unreserved}
use Rattle.bson_json.proofs.PrintLemmas.{AddsMembers, behind, member_more}
use Rattle.bson_json.proofs.SortLemmas.{write_pairs, written_in_order}

neither : (a b : Bool) → a ≡ false → b ≡ false → (a || b) ≡ false
neither false b is other = other
neither true b is other = cc

-- what is told of each value that an element's payload spells
abbrev pub Told : Style → RawElement → Written → Written → Type 0
Told style x now next = (v : Value) → value_kind v ≡ (parts_of x).tag → SpellsValue (parts_of x).payload v → AddsValue style v now next

-- ---- values with nothing inside

pub one_form : (style : Style) (r : RawBsonRef) (s : Scalar) (j : Json) (old new : Written) → ref_value r ≡ raw.leaf s → HasForm style (scalar s) j → Adds (json_tokens j) old new → AddsLeaf style (ref_value r) old new
one_form style r s j old new is w a = subst (λ x. AddsLeaf style x old new) (sym is) (record { form = j; is_form = w; adds = a })

-- a scalar that a helper printed
pub one_scalar : (style : Style) (r : RawBsonRef) (s : Scalar) (old new : Written) → ref_value r ≡ raw.leaf s → AddsScalar style s old new → AddsLeaf style (ref_value r) old new
one_scalar style r s old new is a = subst (λ x. AddsLeaf style x old new) (sym is) (record { form = a.form; is_form = a.is_form; adds = a.adds })

-- what a call of the writer added
pub token_adds : {E : Type 0} (q : Result (Unit {0}) E) (old new : Written) (t : Token) → writer.Writes q old new t → OnOk q (Adds (t ∷ []) old new)
token_adds (Ok u) old new t w = (w.ok, w.room.0)
token_adds (Err e) old new t w = tt

-- the same where several arms join: `q` is what the call of one of them returned, `p` what they join in
pub joined_form : {E : Type 0} (style : Style) (r : RawBsonRef) (s : Scalar) (j : Json) (p q : Result (Unit {0}) E) (u : Unit {0}) (old new out : Written) → ref_value r ≡ raw.leaf s → HasForm style (scalar s) j → p ≡ q → p ≡ Ok u → out ≡ new → OnOk q (Adds (json_tokens j) old new) → AddsLeaf style (ref_value r) old out
joined_form style r s j p q u old new out is w arm ok at told =
    let adds : Adds (json_tokens j) old new = subst (λ x. OnOk x (Adds (json_tokens j) old new)) (sym arm ∙ ok) told in
    one_form style r s j old out is w (subst (λ o. Adds (json_tokens j) old o) (sym at) adds)

pub joined_scalar : {E : Type 0} (style : Style) (r : RawBsonRef) (s : Scalar) (p q : Result (Unit {0}) E) (u : Unit {0}) (old new out : Written) → ref_value r ≡ raw.leaf s → p ≡ q → p ≡ Ok u → out ≡ new → OnOk q (AddsScalar style s old new) → AddsLeaf style (ref_value r) old out
joined_scalar style r s p q u old new out is arm ok at told =
    let adds : AddsScalar style s old new = subst (λ x. OnOk x (AddsScalar style s old new)) (sym arm ∙ ok) told in
    one_scalar style r s old out is (subst (λ o. AddsScalar style s old o) (sym at) adds)

pub double_leaf : (style : Style) (r : RawBsonRef) (s : Scalar) (q : Result (Unit {0}) Unwritten) (old new : Written) → ref_value r ≡ raw.leaf s → OnOk q (AddsScalar style s old new) → OnOk q (AddsLeaf style (ref_value r) old new)
double_leaf style r s q old new is = on_ok_weaker q (one_scalar style r s old new is)

leaf_added : (style : Style) (r : RawValue) (v : Value) (old new : Written) → AddsLeaf style r old new → SpellsRawValue r v → AddsValue style v old new
leaf_added style (raw.leaf s) v old new a is = subst (λ x. AddsValue style x old new) (sym is) (refl, record { form = a.form; is_form = a.is_form; adds = a.adds })
leaf_added style (raw.array bs) v old new a is = absurd a.is_form
leaf_added style (raw.document bs) v old new a is = absurd a.is_form
leaf_added style (raw.scoped_code t bs) v old new a is = absurd a.is_form

pub leaf_form : {A : Type 0} (style : Style) (r : RawValue) (q : Result A Unwritten) (old new : Written) → OnOk q (AddsLeaf style r old new) → OnOk q ((v : Value) → SpellsRawValue r v → AddsValue style v old new)
leaf_form style r q old new = on_ok_weaker q (λ a v is. leaf_added style r v old new a is)

pub leaf_before : {A : Type 0} (style : Style) (r : RawValue) (q : Result A Unwritten) (old new : Written) → OnOk q (AddsLeaf style r old new) → OnOk q (new.before ≡ old.before)
leaf_before style r q old new = on_ok_weaker q (λ a. a.adds.1)

-- ---- members in their order

-- whatever members are left, what is written from here on are they and the closing bracket
abbrev pub MembersEnd : Mode → Keys → Option (List ℕ) → Written → Written → Type 0
MembersEnd m keys left now end = (ms : Members) → IsRest left ms → HasKeys keys ms × (has_reserved ms ≡ false) × AddsMembers m ms now end

pub members_more : (m : Mode) (keys : Keys) (first s t : Option (List ℕ)) (x : RawElement) (k : List ℕ) (begun now named next : Written)
    → ((end : Written) → MembersEnd m keys s now end → MembersEnd m keys first begun end) → steps_from s (Some (Ok x)) t
    → k ≡ (parts_of x).key → (keys ≡ Unreserved → is_reserved k ≡ false) → Adds (key k ∷ []) now named → Told (Full m) x named next
    → (end : Written) → MembersEnd m keys t next end → MembersEnd m keys first begun end
members_more m keys first s t x k begun now named next to step is free n told end h = to end (λ ms left.
    let l = next_member s t x ms step left in
    let v = l.value in
    let named_so : (parts_of x).key ≡ k = sym is in
    let here = told v l.kind l.spelled in
    let more = h l.more l.others in
    let all : HasKeys keys (member k v l.more) × (has_reserved (member k v l.more) ≡ false) × AddsMembers m (member k v l.more) now end
    = (
      λ only. neither (is_reserved k) (some_reserved l.more) (free only) (more.0 only),
      neither (reserved_in v) (has_reserved l.more) here.0 more.1,
      member_more m k v l.more now named next end n here.1 more.2,
    ) in
    subst (λ (all : Members). HasKeys keys all × (has_reserved all ≡ false) × AddsMembers m all now end) (sym (l.is ∙ ap (λ q. member q v l.more) named_so)) all)

none_left : (m : Mode) (keys : Keys) (now end : Written) → Adds (end_object ∷ []) now end → HasKeys keys no_members × (has_reserved no_members ≡ false) × AddsMembers m no_members now end
none_left m keys now end e = (λ only. refl, refl, record { form = json.no_members; is_form = tt; adds = e })

pub members_done : (m : Mode) (keys : Keys) (elements : List ℕ) (s t : Option (List ℕ)) (old begun now end : Written)
    → ((last : Written) → MembersEnd m keys s now last → MembersEnd m keys (Some elements) begun last) → steps_from s None t
    → Adds (begin_object ∷ []) old begun → Adds (end_object ∷ []) now end
    → (ms : Members) → SpellsMembers elements ms → AddsDocument (Full m) keys ms old end
members_done m keys elements s t old begun now end to step b e ms h =
    let a = to end (λ rest left. subst (λ (x : Members). HasKeys keys x × (has_reserved x ≡ false) × AddsMembers m x now end) (sym (last_member s t rest step left)) (none_left m keys now end e)) ms h in
    let js = a.2.form in
    (a.0, a.1, record { form = object js; is_form = (js, a.2.is_form, refl); adds = behind (begin_object ∷ []) (members_tokens js) old begun end b a.2.adds })

-- ---- members in the order of their keys

-- j is what the trees of the pairs are in JSON
abbrev HasPairsForm : Pairs → json.Members → Type 0
HasPairsForm ps js = (ds : sorted.Members) × (write_pairs ps ≡ Some ds) × (js ≡ members_outline ds)

abbrev AreFree : Pairs → Type 0
AreFree ps = AllByRecursion (λ (p : List ℕ × Value). reserved_in p.1 ≡ false) ps

-- whatever the views show, what is written from here on are its members and the closing bracket
abbrev pub PairsEnd : Views → Written → Written → Type 0
PairsEnd rs now end = (ps : Pairs) → ShowPairs rs ps → AreFree ps × AddsSome members_tokens (HasPairsForm ps) now end

pairs_first : (r : Bor (List ℕ) × RawBsonRef) (more : Views) (now named next end : Written) → Adds (key r.0.now ∷ []) now named → ((v : Value) → Shows r.1 v → AddsValue Stored v named next)
    → PairsEnd more next end → PairsEnd (r ∷ more) now end
pairs_first r more now named next end n told h [] shown = absurd shown
pairs_first r more now named next end n told h (p ∷ ps) shown =
    let here = told p.1 shown.0.1 in
    let rest = h ps shown.1 in
    let j = here.1.form in
    let js = rest.1.form in
    let d = here.1.is_form in
    let ds = rest.1.is_form in
    let n' : Adds (key p.0 ∷ []) now named = subst (λ (k : List ℕ). Adds (key k ∷ []) now named) (sym shown.0.0) n in (
      (here.0, rest.0),
      record {
        form = json.member p.0 j js;
        is_form = (sorted.member p.0 d.0 ds.0, ap₂ (λ o w. option_and_then (λ i. option_map (sorted.member p.0 i) w) o) d.1 ds.1, ap₂ (json.member p.0) d.2 ds.2);
        adds = behind (key p.0 ∷ []) (json_tokens j ++ members_tokens js) now named end n' (behind (json_tokens j) (members_tokens js) named next end here.1.adds rest.1.adds);
      },
    )

pub pairs_more : (whole rest more : Views) (r : Bor (List ℕ) × RawBsonRef) (begun now named next : Written) → ((end : Written) → PairsEnd rest now end → PairsEnd whole begun end) → rest ≡ r ∷ more
    → Adds (key r.0.now ∷ []) now named → ((v : Value) → Shows r.1 v → AddsValue Stored v named next)
    → (end : Written) → PairsEnd more next end → PairsEnd whole begun end
pairs_more whole rest more r begun now named next to is n told end h = to end (subst (λ rs. PairsEnd rs now end) (sym is) (pairs_first r more now named next end n told h))

no_pairs_left : (now end : Written) → Adds (end_object ∷ []) now end → PairsEnd [] now end
no_pairs_left now end e [] shown = (tt, record { form = json.no_members; is_form = (sorted.no_members, refl, refl); adds = e })
no_pairs_left now end e (p ∷ ps) shown = absurd shown

pub pairs_done : (keys : Keys) (elements : List ℕ) (whole rest : Views) (old begun now end : Written) → ShowsInOrder keys elements whole → ((last : Written) → PairsEnd rest now last → PairsEnd whole begun last) → rest ≡ []
    → Adds (begin_object ∷ []) old begun → Adds (end_object ∷ []) now end
    → (ms : Members) → SpellsMembers elements ms → AddsDocument Stored keys ms old end
pairs_done keys elements whole rest old begun now end order to none b e ms h =
    let o = order ms h in
    let ps = o.1 in
    let a = to end (subst (λ rs. PairsEnd rs now end) (sym none) (no_pairs_left now end e)) ps o.2 in
    let js = a.1.form in
    let ds = a.1.is_form in
    let tree : write Canonical (document ms) ≡ Some (sorted.object ds.0) = ap (option_map sorted.object) (sym (written_in_order ms ps o.3 o.4) ∙ ds.1) in (
      o.0,
      all_unreserved ms ps o.3 a.0,
      record { form = object js; is_form = (sorted.object ds.0, tree, ap object ds.2); adds = behind (begin_object ∷ []) (members_tokens js) old begun end b a.1.adds },
    )

-- ---- a document as a value

-- none of its keys is reserved
pub document_added : (style : Style) (ms : Members) (old new : Written) → AddsDocument style Unreserved ms old new → AddsValue style (document ms) old new
document_added style ms old new a = (neither (some_reserved ms) (has_reserved ms) (a.0 refl) a.1, a.2)

-- ---- items

-- whatever items are left, what is written from here on are they and the closing bracket
abbrev pub ItemsEnd : Style → Option (List ℕ) → Written → Written → Type 0
ItemsEnd style left now end = (vs : Items) → IsItemsRest left vs → (reserved_in_items vs ≡ false) × AddsSome items_tokens (HasItemsForm style vs) now end

items_first : (style : Style) (s t : Option (List ℕ)) (x : RawElement) (now next end : Written) → steps_from s (Some (Ok x)) t → Told style x now next → ItemsEnd style t next end → ItemsEnd style s now end
items_first style s t x now next end step told h vs left =
    let l = next_item s t x vs step left in
    let here = told l.value l.kind l.spelled in
    let more = h l.more l.others in
    subst (λ (ws : Items). (reserved_in_items ws ≡ false) × AddsSome items_tokens (HasItemsForm style ws) now end) (sym l.is)
    (neither (reserved_in l.value) (reserved_in_items l.more) here.0 more.0, item_added style l.value l.more now next end here.1 more.1)

pub items_more : (style : Style) (first s t : Option (List ℕ)) (x : RawElement) (begun now next : Written) → ((end : Written) → ItemsEnd style s now end → ItemsEnd style first begun end) → steps_from s (Some (Ok x)) t
    → Told style x now next → (end : Written) → ItemsEnd style t next end → ItemsEnd style first begun end
items_more style first s t x begun now next to step told end h = to end (items_first style s t x now next end step told h)

no_items_left : (style : Style) (s t : Option (List ℕ)) (now end : Written) → steps_from s None t → Adds (end_array ∷ []) now end → ItemsEnd style s now end
no_items_left style None t now end step e vs left = subst (λ x. (reserved_in_items x ≡ false) × AddsSome items_tokens (HasItemsForm style x) now end) (sym left) (refl, none_added style now end e)
no_items_left style (Some bytes) t now end step e no_items left = (refl, none_added style now end e)
no_items_left style (Some bytes) t now end step e (item v vs) left = absurd (end_no_frame bytes left.0 left.1 step.0 left.2)

pub items_done : (style : Style) (elements : List ℕ) (s t : Option (List ℕ)) (old begun now end : Written) → ((last : Written) → ItemsEnd style s now last → ItemsEnd style (Some elements) begun last) → steps_from s None t
    → Adds (begin_array ∷ []) old begun → Adds (end_array ∷ []) now end
    → (vs : Items) → SpellsItems elements vs → AddsValue style (array vs) old end
items_done style elements s t old begun now end to step b e vs h =
    let a = to end (no_items_left style s t now end step e) vs h in
    (a.0, array_added style vs old begun end b a.1)

-- ---- code with its scope

pub scoped_added : (style : Style) (t : List ℕ) (ms : Members) (old begun now end : Written) → Adds (begin_object ∷ key (key_of of_code) ∷ string t ∷ key scope_key ∷ []) old begun
    → AddsDocument style Free ms begun now → Adds (end_object ∷ []) now end → AddsValue style (scoped_code t ms) old end
scoped_added style t ms old begun now end b a e = (a.1, scope_added style t ms old begun now end b a.2 e)
