-- Views of written values.
use Rattle.std.proofs.Common.{◌≡◌, ℕ, ◌<◌, ◌^◌, List, drop, Option, Some, Result, Ok, Err, MatchResult, sym, ap, ◌∙◌, subst, arith}
use Rattle.bson_base.specs.Value.{Value, array, document, scoped_code, value_kind}
use Rattle.bson_bytes.specs.Encode.{encode, value_bytes, value_size}
use Rattle.bson_bytes.specs.Spells.{SpellsValue, SpellsItems, SpellsMembers}
use Rattle.bson_bytes.proofs.SpellingLemmas.{spelled_value, scope_back}
use Rattle.std.specs.Result.{result_ok}
use Rattle.bson_frame.specs.declared.error.Error.{Error}
use Rattle.bson_frame.specs.declared.error.ErrorKind.{ErrorKind}
use Rattle.bson_frame.specs.declared.error.ErrorKind.TheVariants.{MalformedValue}
use Rattle.bson_frame.specs.View.{IsBare}
use Rattle.bson_frame.specs.Frame.{Element}
use Rattle.bson_frame.specs.Payload.{scope_in, IsEnvelope, IsPayload, IsPayloadFault}
use Rattle.bson_meaning.proofs.ViewLemmas.{payload_shown, no_payload_fault}
use Rattle.bson_raw.specs.declared.bson_ref.RawBsonRef.{RawBsonRef}
use Rattle.bson_raw.specs.declared.bson_ref.RawBsonRef.TheVariants as views
use Rattle.bson_raw.specs.declared.document.RawDocument.{RawDocument}
use Rattle.bson_raw.specs.declared.array.RawArray.{RawArray}
use Rattle.bson_raw.specs.Convert.{SpellsRawValue}
use Rattle.bson_raw.specs.Raw.{raw_kind, ref_value}
use Rattle.bson_raw.specs.ReadValue.{Holds, IsValue, as_array}
use Rattle.bson_raw.specs.View.{bytes_of, array_bytes}
use Rattle.store_question.specs.Views.{Encodes, ComesBack, HoldsPairs, IsWrittenFor}
use Rattle.store_question.proofs.MemberLemmas.{array_bytes_pairs}
use Rattle.store_model.specs.Filter.{pairs}

-- ---- what a view of a written payload is

held : (raw : RawBsonRef) (v : Value) (payload : List ℕ) → SpellsRawValue (ref_value raw) v → Holds payload (ref_value raw) → payload ≡ value_bytes v → value_size v < 2 ^ 31 → Encodes raw v
held (views.Array x) v payload s h w short = (s.0, s.2, h ∙ w ∙ ap value_bytes s.2)
held (views.Document x) v payload s h w short = (s.0, s.2, h ∙ w ∙ ap value_bytes s.2)
held (views.JavaScriptCodeWithScope x) v payload s h w short =
    let size : value_size (scoped_code x.code.now s.0) < 2 ^ 31 = subst (λ (u : Value). value_size u < 2 ^ 31) s.2 short in
    (s.0, s.2, h.1 ∙ ap scope_in (w ∙ ap value_bytes s.2) ∙ scope_back x.code.now (encode s.0) (omega (arith, size)))
held raw v payload s h w short = s

spelled : (e : Element) (v : Value) → IsWrittenFor e v → ComesBack v → SpellsValue e.payload v
spelled e v w b = subst (λ (x : List ℕ). SpellsValue x v) (sym w.payload) (spelled_value v b.clean b.sound.ranged b.short)

pub encoded : (e : Element) (raw : RawBsonRef) (v : Value) → IsPayload e.tag e.payload → IsValue e.tag e.payload raw → IsWrittenFor e v → ComesBack v → Encodes raw v
encoded e raw v sized is w b = held raw v e.payload (payload_shown e.payload e.tag raw v sized is (sym w.kind) (spelled e v w b)) is.holds w.payload b.short

pub faultless : (e : Element) (v : Value) (kind : ErrorKind) → IsWrittenFor e v → ComesBack v → IsPayloadFault e.tag e.payload kind → ⊥
faultless e v kind w b f = no_payload_fault e v kind (sym w.kind) (spelled e v w b) f

-- ---- what a view of a value shows

pub shows : (raw : RawBsonRef) (v : Value) → Encodes raw v → ComesBack v → SpellsRawValue (ref_value raw) v
shows (views.Array x) v h b =
    let inside : SpellsValue (value_bytes (array h.0)) (array h.0) = subst (λ (u : Value). SpellsValue (value_bytes u) u) h.1 (spelled_value v b.clean b.sound.ranged b.short) in
    (h.0, subst (λ (y : List ℕ). SpellsItems (drop 4 y) h.0) (sym h.2) inside, h.1)
shows (views.Document x) v h b =
    let inside : SpellsValue (value_bytes (document h.0)) (document h.0) = subst (λ (u : Value). SpellsValue (value_bytes u) u) h.1 (spelled_value v b.clean b.sound.ranged b.short) in
    (h.0, subst (λ (y : List ℕ). SpellsMembers (drop 4 y) h.0) (sym h.2) inside, h.1)
shows (views.JavaScriptCodeWithScope x) v h b =
    let code = scoped_code x.code.now h.0 in
    let size : value_size code < 2 ^ 31 = subst (λ (u : Value). value_size u < 2 ^ 31) h.1 b.short in
    let inside : SpellsValue (value_bytes code) code = subst (λ (u : Value). SpellsValue (value_bytes u) u) h.1 (spelled_value v b.clean b.sound.ranged b.short) in
    let scope : scope_in (value_bytes code) ≡ bytes_of x.scope = scope_back x.code.now (encode h.0) (omega (arith, size)) ∙ sym h.2 in
    (h.0, subst (λ (y : List ℕ). SpellsMembers (drop 4 y) h.0) scope inside.2, h.1)
shows raw v h b = h

pub kind_shown : (raw : RawBsonRef) (v : Value) → Encodes raw v → raw_kind (ref_value raw) ≡ value_kind v
kind_shown (views.Array x) v h = sym (ap value_kind h.1)
kind_shown (views.Document x) v h = sym (ap value_kind h.1)
kind_shown (views.JavaScriptCodeWithScope x) v h = sym (ap value_kind h.1)
kind_shown (views.Double x) v h = sym (ap value_kind h)
kind_shown raw v h = sym (ap value_kind h)

-- ---- the pairs that a step looks in

array_pairs : (raw : RawBsonRef) (v : Value) (a : RawArray) (d : RawDocument) → as_array raw ≡ Some a → bytes_of d ≡ array_bytes a → Encodes raw v → bytes_of d ≡ encode (pairs v)
array_pairs (views.Array x) v a d e is h =
    let same : x ≡ a = cc in
    is ∙ ap array_bytes (sym same) ∙ h.2 ∙ array_bytes_pairs h.0 ∙ ap (λ (u : Value). encode (pairs u)) (sym h.1)
array_pairs raw v a d e is h = absurd cc

pub array_held : (raw : RawBsonRef) (v : Value) (a : RawArray) (bytes : List ℕ) (r : Result RawDocument Error) (o : Option RawDocument) → as_array raw ≡ Some a → bytes ≡ array_bytes a
    → MatchResult r (λ d. bytes_of d ≡ bytes) (λ e. (IsEnvelope bytes → ⊥) × IsBare MalformedValue e) → o ≡ result_ok r → Encodes raw v → HoldsPairs o v
array_held raw v a bytes (Ok d) o e is m eq h = subst (λ (x : Option RawDocument). HoldsPairs x v) (sym eq) (array_pairs raw v a d e (m ∙ is) h)
array_held raw v a bytes (Err x) o e is m eq h = absurd (m.0 (subst IsEnvelope (sym is) a.document.envelope))
