-- What was printed so far.
use Rattle.std.proofs.Common.{◌≡◌, ◌≤◌, ℕ, max, Bool, true, false, not, ◌||◌, List, [], ◌∷◌, ◌++◌, map, Result, OnOk, refl, ap, ◌∙◌, sym, subst, arith, append_assoc, append-nil}
use Rattle.std.specs.Prelude.{option_and_then}
use Rattle.std.proofs.lemmas.Result.{on_ok_weaker}
use Rattle.std.specs.declared.alloc.AllocError.{AllocError}
use Rattle.json.specs.Token.{Token, begin_array, end_array, begin_object, end_object, key, string}
use Rattle.json.specs.Lex.{tokens}
use Rattle.json.specs.Json as json
use Rattle.json.specs.Json.{Json, number, object, value, document as tree_of, if_last, max_depth}
use Rattle.json.specs.Print.{print, IsNumber}
use Rattle.json.specs.Tree.{json_tokens, items_tokens, members_tokens}
use Rattle.json.specs.Written.{Written}
use Rattle.json.proofs.Printed.Floats.{IsNumber-plain}
use Rattle.json.proofs.Printed.Trees.{value-json_tokens}
use Rattle.bson_json_read.specs.DoubleText.{IsDoubleText, IsNumeralOf, is_finite}
use Rattle.bson_base.specs.Doubles as doubles
use Rattle.ryu.specs.Plain.{IsLaidOutNumber}
use Rattle.std.specs.Fmt.{sign_text}
use Rattle.bson_base.specs.Value.{Scalar, double, Value, scalar, array, document, scoped_code, Items, item, Members, member, levels, items_levels, members_levels}
use Rattle.bson_model.specs.JsonKeys.{key_of, of_code, of_double, scope_key}
use Rattle.bson_model.specs.View.{view, items_of, members_of}
use Rattle.bson_model.specs.Keyed.{Key}
use Rattle.bson_model.specs.declared.bson.Bson.{Bson}
use Rattle.bson_model.specs.declared.extjson.ser.Mode.{Mode}
use Rattle.bson_model.specs.declared.extjson.ser.Mode.TheVariants.{Canonical, Relaxed}
use Rattle.bson_json.specs.Form.{Writes, WritesScalar, WritesItems, WritesMembers, scope_form, text_wrapper}
use Rattle.bson_json.specs.Prints.{Adds, AddsSome, PrintsForm, IsTextOf}

-- tokens after those that were added
pub behind : (a b : List Token) (old now end : Written) → Adds a old now → Adds b now end → Adds (a ++ b) old end
behind a b old now end h k = (k.0 ∙ ap (λ ts. ts ++ b) h.0 ∙ append_assoc old.tokens a b, k.1 ∙ h.1)

-- ---- scalars

-- a value of one form
pub prints : (m : Mode) (v : Value) (s : Scalar) (j : Json) (r : Result (Unit {0}) AllocError) (old new : Written) → scalar s ≡ v → WritesScalar m s j → OnOk r (Adds (json_tokens j) old new) → PrintsForm m v r old new
prints m v s j r old new seen w a =
    subst (λ x. PrintsForm m x r old new) seen (on_ok_weaker r (λ h. record { form = j; is_form = w; adds = h }) a)

both_false : (a b : Bool) → not (a || b) ≡ true → (a ≡ false) × (b ≡ false)
both_false false false h = (refl, refl)
both_false true b h = cc
both_false false true h = cc

-- the text of a finite double is a number
pub numeral : (n : ℕ) (t : List ℕ) → is_finite n ≡ true → IsDoubleText n t → IsNumber t
unfolding IsDoubleText
numeral n t h w =
    let f = both_false (doubles.is_infinite n) (doubles.is_nan n) h in
    let k : IsNumeralOf n t = rw (f.1, f.0) at w in
    let l : IsLaidOutNumber 16 4 t = k.0 in
    let p = l.3 in
    IsNumber-plain t (l.0, p.0, l.2 ∙ ap (λ u. sign_text l.0 ++ u) p.1, p.2)

pub number_form : (n : ℕ) (t : List ℕ) (r : Result (Unit {0}) AllocError) (old new : Written) → is_finite n ≡ true → IsDoubleText n t → OnOk r (Adds (json_tokens (number t)) old new) → PrintsForm Relaxed (scalar (double n)) r old new
number_form n t r old new h w a = on_ok_weaker r (λ k. record { form = number t; is_form = (t, w, rw h refl); adds = k }) a

pub word_form : (n : ℕ) (t : List ℕ) (r : Result (Unit {0}) AllocError) (old new : Written) → is_finite n ≡ false → IsDoubleText n t → OnOk r (Adds (json_tokens (text_wrapper of_double t)) old new) → PrintsForm Relaxed (scalar (double n)) r old new
word_form n t r old new h w a = on_ok_weaker r (λ k. record { form = text_wrapper of_double t; is_form = (t, w, rw h refl); adds = k }) a

pub text_form : (n : ℕ) (t : List ℕ) (r : Result (Unit {0}) AllocError) (old new : Written) → IsDoubleText n t → OnOk r (Adds (json_tokens (text_wrapper of_double t)) old new) → PrintsForm Canonical (scalar (double n)) r old new
text_form n t r old new w a = on_ok_weaker r (λ k. record { form = text_wrapper of_double t; is_form = (t, w, refl); adds = k }) a

-- ---- what ends it well from here ends it well from the start

abbrev pub AddsItems : Mode → Items → Written → Written → Type 0
AddsItems m vs old new = AddsSome items_tokens (WritesItems m vs) old new

abbrev pub AddsMembers : Mode → Members → Written → Written → Type 0
AddsMembers m ms old new = AddsSome members_tokens (WritesMembers m ms) old new

abbrev pub items_view : List Bson → Items
items_view bs = items_of (map view bs)

abbrev pub ItemsEnd : Mode → List Bson → List Bson → Written → Written → Type 0
ItemsEnd m whole rest begun now = (end : Written) → AddsItems m (items_view rest) now end → AddsItems m (items_view whole) begun end

abbrev pub MembersEnd : Mode → List (Key × Value) → List (Key × Value) → Written → Written → Type 0
MembersEnd m whole rest begun now = (end : Written) → AddsMembers m (members_of rest) now end → AddsMembers m (members_of whole) begun end

pub item_more : (m : Mode) (v : Value) (vs : Items) (now next end : Written) → AddsSome json_tokens (Writes m v) now next → AddsItems m vs next end → AddsItems m (item v vs) now end
item_more m v vs now next end a b = record {
  form = json.item a.form b.form;
  is_form = (a.is_form, b.is_form);
  adds = behind (json_tokens a.form) (items_tokens b.form) now next end a.adds b.adds;
}

pub member_more : (m : Mode) (k : Key) (v : Value) (ms : Members) (now named next end : Written) → Adds (key k ∷ []) now named → AddsSome json_tokens (Writes m v) named next → AddsMembers m ms next end → AddsMembers m (member k v ms) now end
member_more m k v ms now named next end n a b = record {
  form = json.member k a.form b.form;
  is_form = (refl, a.is_form, b.is_form);
  adds = behind (key k ∷ []) (json_tokens a.form ++ members_tokens b.form) now named end n (behind (json_tokens a.form) (members_tokens b.form) named next end a.adds b.adds);
}

pub items_next : (m : Mode) (whole rest more : List Bson) (b : Bson) (begun now next : Written) → ItemsEnd m whole rest begun now → rest ≡ b ∷ more → AddsSome json_tokens (Writes m (view b)) now next → ItemsEnd m whole more begun next
items_next m whole rest more b begun now next to is a end h = to end (subst (λ bs. AddsItems m (items_view bs) now end) (sym is) (item_more m (view b) (items_view more) now next end a h))

pub items_done : (m : Mode) (whole rest : List Bson) (r : Result (Unit {0}) AllocError) (old begun now end : Written) → ItemsEnd m whole rest begun now → rest ≡ [] → Adds (begin_array ∷ []) old begun → OnOk r (Adds (end_array ∷ []) now end)
    → PrintsForm m (array (items_view whole)) r old end
items_done m whole rest r old begun now end to none b e = on_ok_weaker r (λ k.
    let a = to end (subst (λ bs. AddsItems m (items_view bs) now end) (sym none) (record { form = json.no_items; is_form = tt; adds = k })) in
    record { form = json.array a.form; is_form = (a.form, a.is_form, refl); adds = behind (begin_array ∷ []) (items_tokens a.form) old begun end b a.adds }) e

pub members_next : (m : Mode) (whole rest more : List (Key × Value)) (p : Key × Value) (begun now named next : Written) → MembersEnd m whole rest begun now → rest ≡ p ∷ more → Adds (key p.0 ∷ []) now named → AddsSome json_tokens (Writes m p.1) named next → MembersEnd m whole more begun next
members_next m whole rest more p begun now named next to is n a end h = to end (subst (λ ps. AddsMembers m (members_of ps) now end) (sym is) (member_more m p.0 p.1 (members_of more) now named next end n a h))

pub members_done : (m : Mode) (whole rest : List (Key × Value)) (r : Result (Unit {0}) AllocError) (old begun now end : Written) → MembersEnd m whole rest begun now → rest ≡ [] → Adds (begin_object ∷ []) old begun → OnOk r (Adds (end_object ∷ []) now end)
    → PrintsForm m (document (members_of whole)) r old end
members_done m whole rest r old begun now end to none b e = on_ok_weaker r (λ k.
    let a = to end (subst (λ ps. AddsMembers m (members_of ps) now end) (sym none) (record { form = json.no_members; is_form = tt; adds = k })) in
    record { form = object a.form; is_form = (a.form, a.is_form, refl); adds = behind (begin_object ∷ []) (members_tokens a.form) old begun end b a.adds }) e

-- ---- code with its scope

pub scoped_done : (m : Mode) (t : List ℕ) (ms : Members) (r : Result (Unit {0}) AllocError) (old begun now end : Written) → Adds (begin_object ∷ key (key_of of_code) ∷ string t ∷ key scope_key ∷ []) old begun
    → AddsSome json_tokens (Writes m (document ms)) begun now → OnOk r (Adds (end_object ∷ []) now end) → PrintsForm m (scoped_code t ms) r old end
scoped_done m t ms r old begun now end b a e = on_ok_weaker r (λ k.
    let w = a.is_form in
    let js = w.0 in
    let inner : Adds (json_tokens (object js)) begun now = subst (λ j. Adds (json_tokens j) begun now) w.2 a.adds in
    record {
      form = scope_form t js;
      is_form = (js, w.1, refl);
      adds = behind (begin_object ∷ key (key_of of_code) ∷ string t ∷ key scope_key ∷ []) (json_tokens (object js) ++ end_object ∷ []) old begun end b (behind (json_tokens (object js)) (end_object ∷ []) begun now end inner k);
    }) e

-- ---- the whole text

pub whole_text : (m : Mode) (v : Value) (old new : Written) (t : List ℕ) → AddsSome json_tokens (Writes m v) old new → old.tokens ≡ [] → t ≡ print new.tokens → tokens (print new.tokens) ≡ new.tokens → IsTextOf m v t
whole_text m v old new t a k e back =
    let j = a.form in
    let all : new.tokens ≡ json_tokens j = a.adds.0 ∙ ap (λ ts. ts ++ json_tokens j) k in
    let text : t ≡ print (json_tokens j) = e ∙ ap print all in
    let read : tokens t ≡ json_tokens j = ap tokens text ∙ subst (λ ts. tokens (print ts) ≡ ts) all back in (
      j,
      a.is_form,
      text,
      λ shallow. ap (λ ts. option_and_then (λ p. if_last p.0 p.1) (value max_depth ts)) (read ∙ sym (append-nil (json_tokens j)))
          ∙ ap (option_and_then (λ p. if_last p.0 p.1)) (value-json_tokens j max_depth [] shallow),
    )

-- ---- levels of what is left

pub levels_more : (rest more : List (Key × Value)) (p : Key × Value) (n : ℕ) → rest ≡ p ∷ more → members_levels (members_of rest) ≤ n → members_levels (members_of more) ≤ n
levels_more rest more p n e h =
    let m : max (levels p.1) (members_levels (members_of more)) ≤ n = subst (λ ps. members_levels (members_of ps) ≤ n) e h in
    omega arith

pub items_low : (rest more : List Bson) (b : Bson) (n : ℕ) → rest ≡ b ∷ more → items_levels (items_view rest) ≤ n → items_levels (items_view more) ≤ n
items_low rest more b n e h =
    let m : max (levels (view b)) (items_levels (items_view more)) ≤ n = subst (λ bs. items_levels (items_view bs) ≤ n) e h in
    omega arith
