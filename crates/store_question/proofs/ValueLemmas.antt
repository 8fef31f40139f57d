-- One value, and what is asked of it.
use Rattle.std.proofs.Common.{◌≡◌, ◌↔◌, ℕ, suc, ◌+◌, ◌≤◌, Bor, List, Bool, true, false, ◌==◌, if◌then◌else◌, IsTrue, Option, Some, None, Result, Ok, Err, MatchResult, eq-eqb, refl, sym, ap, ◌∙◌, subst, arith, max}
use Rattle.std.specs.Prelude.{IsSomeAnd, unwrap_or}
use Rattle.std.specs.Result.{result_ok}
use Rattle.std.proofs.lemmas.Bool.{eqb-true}
use Rattle.std.specs.declared.cmp.Ordering.{Ordering}
use mathlib.Core.Bool.{beq}
use Rattle.bson_base.specs.declared.spec.ElementType.{ElementType}
use Rattle.bson_base.specs.Value.{Value, scalar, null, array, document, Items, no_items, item, Members, no_members, member, look_up, value_kind, levels, items_levels, members_levels}
use Rattle.bson_base.proofs.MemberLemmas.{found_levels}
use Rattle.bson_bytes.specs.Encode.{encode}
use Rattle.bson_frame.specs.declared.error.Error.{Error}
use Rattle.bson_frame.specs.declared.error.ErrorKind.TheVariants.{MalformedValue}
use Rattle.bson_frame.specs.Payload.{IsEnvelope}
use Rattle.bson_frame.specs.View.{IsBare}
use Rattle.bson_raw.specs.declared.array.RawArray.{RawArray}
use Rattle.bson_raw.specs.declared.bson_ref.RawBsonRef.{RawBsonRef}
use Rattle.bson_raw.specs.declared.bson_ref.RawBsonRef.TheVariants as views
use Rattle.bson_raw.specs.declared.document.RawDocument.{RawDocument}
use Rattle.bson_raw.specs.Convert.{SpellsRawValue}
use Rattle.bson_raw.specs.Raw.{raw_kind, ref_value}
use Rattle.bson_raw.specs.ReadValue.{as_array}
use Rattle.bson_raw.specs.View.{bytes_of, array_bytes}
use Rattle.bson_order.specs.Order.{rank, is_no_number, order}
use Rattle.bson_order.proofs.TurnLemmas.{kind_spelled}
use Rattle.store_question.specs.Views.{Encodes, ComesBack, ComeBack, Finds, HoldsPairs}
use Rattle.store_question.proofs.MemberLemmas.{pairs_back, found_back}
use Rattle.store_question.proofs.ViewLemmas.{shows, kind_shown, array_held}
use Rattle.store_model.specs.Filter.{pairs, under_places}
use Rattle.store_question.specs.Asked.{holds, lies_apart, lies_to, same_truth, text_in}
use Rattle.store_question.specs.Reads.{Found, FindsMember, HoldsItems, Shows}
use Rattle.store_question.specs.declared.question.Comparison.{Comparison}

pub found_spells : (raw : RawBsonRef) (v : Value) → Found raw v → SpellsRawValue (ref_value raw) v
found_spells raw v f = shows raw v f.encodes f.back

-- ---- how it lies

not_level : (m n : ℕ) → (m ≡ n → ⊥) → (m == n) ≡ false
not_level m n d = by (m == n) refl
  where
    by : (b : Bool) → (m == n) ≡ b → (m == n) ≡ false
    by true e = absurd (d (eqb-true m n e))
    by false e = e

same_ranks : (raw other : RawBsonRef) (v w : Value) (m n : ℕ) → SpellsRawValue (ref_value raw) v → SpellsRawValue (ref_value other) w → m ≡ rank (raw_kind (ref_value raw)) → n ≡ rank (raw_kind (ref_value other)) → (m ≡ rank (value_kind v)) × (n ≡ rank (value_kind w))
same_ranks raw other v w m n h k em en = (em ∙ ap rank (kind_spelled raw v h), en ∙ ap rank (kind_spelled other w k))

pub truths_told : (a b x y : Bool) → beq a b ≡ true → a ≡ x → b ≡ y → same_truth x y ≡ true
truths_told a b x y e ea eb = by x y (subst (λ c. beq c y ≡ true) ea (subst (λ c. beq a c ≡ true) eb e))
  where
    by : (x y : Bool) → beq x y ≡ true → same_truth x y ≡ true
    by true true e = refl
    by true false e = absurd cc
    by false true e = absurd cc
    by false false e = refl

pub level_told : (raw other : RawBsonRef) (c : Comparison) (v w : Value) (m n : ℕ) (r : Bool) (o : Ordering) → SpellsRawValue (ref_value raw) v → SpellsRawValue (ref_value other) w
    → m ≡ rank (raw_kind (ref_value raw)) → n ≡ rank (raw_kind (ref_value other)) → m ≡ n → same_truth (is_no_number v) (is_no_number w) ≡ true → o ≡ order v w → r ≡ holds c o → r ≡ lies_to c v w
level_told raw other c v w m n r o h k em en e t eo is =
    let ranks = same_ranks raw other v w m n h k em en in
    let same : rank (value_kind v) ≡ rank (value_kind w) = sym ranks.0 ∙ e ∙ ranks.1 in
    is ∙ ap (holds c) eo
    ∙ sym (ap (λ b. if b then (if same_truth (is_no_number v) (is_no_number w) then holds c (order v w) else false) else lies_apart c w) (eq-eqb (rank (value_kind v)) (rank (value_kind w)) same)
    ∙ ap (λ b. if b then holds c (order v w) else false) t)

pub apart_told : (raw other : RawBsonRef) (c : Comparison) (v w : Value) (m n : ℕ) (r : Bool) → SpellsRawValue (ref_value raw) v → SpellsRawValue (ref_value other) w
    → m ≡ rank (raw_kind (ref_value raw)) → n ≡ rank (raw_kind (ref_value other)) → (m ≡ n → ⊥) → r ≡ lies_apart c w → r ≡ lies_to c v w
apart_told raw other c v w m n r h k em en d is =
    let ranks = same_ranks raw other v w m n h k em en in
    let differ = not_level (rank (value_kind v)) (rank (value_kind w)) (λ e. d (ranks.0 ∙ e ∙ sym ranks.1)) in
    is ∙ sym (ap (λ b. if b then (if same_truth (is_no_number v) (is_no_number w) then holds c (order v w) else false) else lies_apart c w) differ)

pub shown_some : (value : Option RawBsonRef) (raw : RawBsonRef) (o : Option Value) → value ≡ Some raw → Shows value o → Shows (Some raw) o
shown_some value raw o e s = subst (λ (x : Option RawBsonRef). Shows x o) e s

pub kind_told : (b : Bool) (raw : RawBsonRef) (o : Option Value) (k kind : ElementType) → Shows (Some raw) o → k ≡ raw_kind (ref_value raw) → IsTrue b ↔ (k ≡ kind) → IsTrue b ↔ IsSomeAnd o (λ v. value_kind v ≡ kind)
kind_told b raw o k kind s is told =
    let e : k ≡ value_kind s.0 = is ∙ kind_shown raw s.0 s.2.encodes in
    subst (λ (x : Option Value). IsTrue b ↔ IsSomeAnd x (λ v. value_kind v ≡ kind)) (sym s.1) (λ t. sym e ∙ told.0 t, λ t. told.1 (e ∙ t))

-- ---- what is no text

pub no_text : (raw : RawBsonRef) (v : Value) → ((x : Bor (List ℕ)) → raw ≡ views.String x → ⊥) → ((x : Bor (List ℕ)) → raw ≡ views.Symbol x → ⊥) → SpellsRawValue (ref_value raw) v → None ≡ text_in v
no_text (views.String x) v never nor s = absurd (never x refl)
no_text (views.Symbol x) v never nor s = absurd (nor x refl)
no_text (views.Array x) v never nor s = subst (λ (w : Value). None ≡ text_in w) (sym s.2) refl
no_text (views.Document x) v never nor s = subst (λ (w : Value). None ≡ text_in w) (sym s.2) refl
no_text (views.JavaScriptCodeWithScope x) v never nor s = subst (λ (w : Value). None ≡ text_in w) (sym s.2) refl
no_text raw v never nor s = subst (λ (w : Value). None ≡ text_in w) (sym s) refl

-- ---- the items of an array

places_levels : (i : ℕ) (vs : Items) → members_levels (under_places i vs) ≡ items_levels vs
places_levels i no_items = refl
places_levels i (item v vs) = ap (λ n. max (levels v) n) (places_levels (suc i) vs)

array_seen : (raw : RawBsonRef) (a : RawArray) (v : Value) → as_array raw ≡ Some a → Encodes raw v → (vs : Items) × (v ≡ array vs)
array_seen (views.Array x) a v e h = (h.0, h.1)
array_seen raw a v e h = absurd cc

pub items_held : (raw : RawBsonRef) (o : Option Value) (a : RawArray) (bytes : List ℕ) (r : Result RawDocument Error) (res : Option RawDocument) → Shows (Some raw) o → as_array raw ≡ Some a → bytes ≡ array_bytes a
    → MatchResult r (λ d. bytes_of d ≡ bytes) (λ e. (IsEnvelope bytes → ⊥) × IsBare MalformedValue e) → res ≡ result_ok r → HoldsItems res o
items_held raw o a bytes (Ok d) res s e is m eq =
    let seen = array_seen raw a s.0 e s.2.encodes in
    let held = array_held raw s.0 a bytes (Ok d) (Some d) e is m refl s.2.encodes in
    let back = subst (λ (v : Value). ComesBack v) seen.1 s.2.back in
    let low : levels (array seen.0) ≤ 200 = subst (λ (v : Value). levels v ≤ 200) seen.1 s.2.low in
    let places = places_levels 0 seen.0 in
    let whole : HoldsItems (Some d) o = (seen.0, s.1 ∙ ap Some seen.1, held ∙ ap (λ (v : Value). encode (pairs v)) seen.1, pairs_back (array seen.0) back, omega (arith, places, low)) in
    subst (λ (x : Option RawDocument). HoldsItems x o) (sym eq) whole
items_held raw o a bytes (Err x) res s e is m eq = absurd (m.0 (subst IsEnvelope (sym is) a.document.envelope))

-- ---- what is found under a key

pairs_levels : (v : Value) → members_levels (pairs v) ≤ levels v
pairs_levels (scalar s) = omega arith
pairs_levels (array vs) = let p = places_levels 0 vs in omega arith
pairs_levels (document ms) = omega arith
pairs_levels v = omega arith

pub member_found : (k : List ℕ) (v w : Value) (raw whole : RawBsonRef) → Found whole v → look_up k (pairs v) ≡ Some w → Finds (Some raw) (Some w) → FindsMember (Some raw) (look_up k (pairs v))
member_found k v w raw whole f e g =
    let back = found_back k (pairs v) w (pairs_back v f.back) e in
    let low = found_levels k (pairs v) w e in
    let below = pairs_levels v in
    let high = f.low in
    let same : w ≡ g.0 = cc in
    (w, e, record { encodes = subst (λ (x : Value). Encodes raw x) (sym same) g.2; back = back; low = omega arith })

pub member_shown : (k : List ℕ) (v w : Value) (result : Option RawBsonRef) (whole : RawBsonRef) → Found whole v → look_up k (pairs v) ≡ Some w → Finds result (Some w) → FindsMember result (look_up k (pairs v))
member_shown k v w None whole f e g = absurd cc
member_shown k v w (Some raw) whole f e g = member_found k v w raw whole f e g

pub value_found : (raw : RawBsonRef) (v : Value) → Finds (Some raw) (Some v) → ComesBack v → levels v ≤ 200 → Found raw v
value_found raw v g back low =
    let same : v ≡ g.0 = cc in
    record { encodes = subst (λ (x : Value). Encodes raw x) (sym same) g.2; back = back; low = low }
