-- The walk of bytes to which more is added in place of the final 00.
use Rattle.std.proofs.Common.{◌≡◌, ℕ, ◌+◌, ◌-◌, ◌≤◌, List, [], ◌∷◌, ◌++◌, length, take, drop, get_or, IsUtf8, OnOk, Option, None, Result, Ok, Err, refl, sym, ap, ◌∙◌, subst, append_assoc, arith}
use Rattle.std.specs.List.{AllByRecursion}
use Rattle.std.proofs.lemmas.List.{length-append, length-drop, take_at, drop_at}
use Rattle.bson_base.specs.declared.spec.ElementType.{ElementType}
use Rattle.bson_base.specs.declared.spec.ElementType.TheVariants as kinds
use Rattle.bson_base.specs.Tags.{tag_byte}
use Rattle.bson_bytes.specs.Encode.{le32, cstring_of, frame_of}
use Rattle.bson_bytes.proofs.LengthLemmas.{le32_length}
use Rattle.bson_frame.specs.declared.error.Error.{Error}
use Rattle.bson_frame.specs.declared.error.ErrorKind.{ErrorKind}
use Rattle.bson_frame.specs.Frame.{HasSize, IsCodeSize, Element, IsFirstFrame, IsCstring}
use Rattle.bson_frame.specs.Payload.{IsEnvelope}
use Rattle.bson_raw.specs.Append.{element_for, AppendsElement, element_bytes, body_of, with_element, IsLongEnough, EndsLongEnough, Gains}
use Rattle.bson_raw.specs.Raw.{RawValue}
use Rattle.bson_raw.specs.Walk.{IsWalk}
use Rattle.bson_raw.specs.Written.{IsFormed}
use Rattle.bson_raw.proofs.AppendLemmas.{can_write}
use Rattle.bson_raw.proofs.SizeLemmas.{size_beside, payload_sized}

-- ---- only the last element can be too short

tag_some : (k : ElementType) → 1 ≤ tag_byte k
tag_some kinds.Double = omega arith
tag_some kinds.String = omega arith
tag_some kinds.EmbeddedDocument = omega arith
tag_some kinds.Array = omega arith
tag_some kinds.Binary = omega arith
tag_some kinds.Undefined = omega arith
tag_some kinds.ObjectId = omega arith
tag_some kinds.Boolean = omega arith
tag_some kinds.DateTime = omega arith
tag_some kinds.Null = omega arith
tag_some kinds.RegularExpression = omega arith
tag_some kinds.DbPointer = omega arith
tag_some kinds.JavaScriptCode = omega arith
tag_some kinds.Symbol = omega arith
tag_some kinds.JavaScriptCodeWithScope = omega arith
tag_some kinds.Int32 = omega arith
tag_some kinds.Timestamp = omega arith
tag_some kinds.Int64 = omega arith
tag_some kinds.Decimal128 = omega arith
tag_some kinds.MaxKey = omega arith
tag_some kinds.MinKey = omega arith

-- after a declared length under 4 a 00 follows
long_enough : (p rest : List ℕ) → IsCodeSize (p ++ rest) (length p) → 1 ≤ get_or rest 0 0 → 4 ≤ length p
long_enough [] rest size some = absurd (omega (arith, size.declared, some))
long_enough (a ∷ []) rest size some = absurd (omega (arith, size.declared, some))
long_enough (a ∷ b ∷ []) rest size some = absurd (omega (arith, size.declared, some))
long_enough (a ∷ b ∷ c ∷ []) rest size some = absurd (omega (arith, size.declared, some))
long_enough (a ∷ b ∷ c ∷ d ∷ p) rest size some = omega arith

frame_follows : (bytes : List ℕ) (e : Element) (rest : List ℕ) (f : Element) (more : List ℕ) → IsFirstFrame bytes e rest → IsFirstFrame rest f more → IsLongEnough e
frame_follows bytes e rest f more h g = λ is.
    let first : get_or rest 0 0 ≡ tag_byte f.tag = ap (λ (x : List ℕ). get_or x 0 0) g.parts in
    long_enough e.payload rest (subst (λ (k : ElementType). HasSize k (e.payload ++ rest) (length e.payload)) is h.size) (omega (arith, first, tag_some f.tag))

all_long : (elements : List Element) (bytes : List ℕ) → IsWalk bytes elements None → EndsLongEnough elements → AllByRecursion IsLongEnough elements
all_long [] bytes w ends = tt
all_long (e ∷ []) bytes w ends = (ends, tt)
all_long (e ∷ f ∷ elements) bytes w ends = (frame_follows bytes e w.0 f w.2.0 w.1 w.2.1, all_long (f ∷ elements) w.0 w.2 ends)

-- ---- the walk goes on

-- bytes without their final 00, and the walk with other bytes in its place
abbrev pub GoesOn : List ℕ → List ℕ → List Element → Option ErrorKind → Type 0
GoesOn bytes more elements fault = (body : List ℕ) × (bytes ≡ body ++ 0 ∷ []) × IsWalk (body ++ more) elements fault

walk_beside : (elements : List Element) (bytes more : List ℕ) (others : List Element) (fault : Option ErrorKind) → AllByRecursion IsLongEnough elements → IsWalk bytes elements None → IsWalk more others fault
    → GoesOn bytes more (elements ++ others) fault
walk_beside [] bytes more others fault long w v = ([], w, v)
walk_beside (f ∷ elements) bytes more others fault long w v =
    let ih = walk_beside elements w.0 more others fault long.1 w.2 v in
    let body : List ℕ = ih.0 in
    let front : List ℕ = tag_byte f.tag ∷ (f.key ++ 0 ∷ (f.payload ++ body)) in
    let whole : front ++ 0 ∷ [] ≡ tag_byte f.tag ∷ (f.key ++ 0 ∷ (f.payload ++ (body ++ 0 ∷ []))) = simp append_assoc in
    let grouped : front ++ more ≡ tag_byte f.tag ∷ (f.key ++ 0 ∷ (f.payload ++ (body ++ more))) = simp append_assoc in
    let first : IsFirstFrame (front ++ more) f (body ++ more) = record { parts = grouped; key_name = (w.1).key_name; size = size_beside f.tag f.payload w.0 (body ++ more) long.0 (w.1).size } in
    (front, (w.1).parts ∙ ap (λ (x : List ℕ). tag_byte f.tag ∷ (f.key ++ 0 ∷ (f.payload ++ x))) ih.1 ∙ sym whole, (body ++ more, first, ih.2))

pub walk_goes_on : (elements : List Element) (bytes more : List ℕ) (others : List Element) (fault : Option ErrorKind) → EndsLongEnough elements → IsWalk bytes elements None → IsWalk more others fault
    → GoesOn bytes more (elements ++ others) fault
walk_goes_on elements bytes more others fault ends w v = walk_beside elements bytes more others fault (all_long elements bytes w ends) w v

-- ---- an element that was put into a document

put_frame : (e : Element) → IsCstring e.key → HasSize e.tag (e.payload ++ 0 ∷ []) (length e.payload) → IsFirstFrame (element_bytes e ++ 0 ∷ []) e (0 ∷ [])
unfolding cstring_of
put_frame e named sized =
    let grouped : (tag_byte e.tag ∷ ((e.key ++ 0 ∷ []) ++ e.payload)) ++ 0 ∷ [] ≡ tag_byte e.tag ∷ (e.key ++ 0 ∷ (e.payload ++ 0 ∷ [])) = simp append_assoc in
    record { parts = grouped; key_name = named; size = sized }

without_length : (old : List ℕ) (e : Element) → drop 4 (with_element old e) ≡ body_of old ++ (element_bytes e ++ 0 ∷ [])
unfolding frame_of
without_length old e =
    let elements : List ℕ = body_of old ++ element_bytes e in
    drop_at (le32 (length elements + 5)) (elements ++ 0 ∷ []) 4 (le32_length (length elements + 5)) ∙ append_assoc (body_of old) (element_bytes e) (0 ∷ [])

pub gains : (old new : List ℕ) (e : Element) → IsEnvelope old → new ≡ with_element old e → IsCstring e.key → HasSize e.tag (e.payload ++ 0 ∷ []) (length e.payload) → Gains old new e
gains old new e env is named sized = λ elements w ends.
    let more : List ℕ = element_bytes e ++ 0 ∷ [] in
    let on = walk_goes_on elements (drop 4 old) more (e ∷ []) None ends w (0 ∷ [], put_frame e named sized, refl) in
    let len : length on.0 ≡ length old - 5 = omega (arith, ap length on.1, length-drop 4 old, length-append on.0 (0 ∷ [])) in
    let body : body_of old ≡ on.0 = ap (λ (x : List ℕ). take (length old - 5) x) on.1 ∙ take_at on.0 (0 ∷ []) (length old - 5) len in
    let after : drop 4 new ≡ on.0 ++ more = ap (λ (x : List ℕ). drop 4 x) is ∙ without_length old e ∙ ap (λ (x : List ℕ). x ++ more) body in
    subst (λ (x : List ℕ). IsWalk x (elements ++ e ∷ []) None) (sym after) on.2

pub gains_where_taken : (old new key : List ℕ) (v : RawValue) (result : Result (Unit {0}) Error) → IsEnvelope old → IsUtf8 key → IsFormed v → AppendsElement old new key v result
    → OnOk result (Gains old new (element_for key v))
gains_where_taken old new key v (Ok x) env text formed h =
    gains old new (element_for key v) env h.1 (record { no_zero = (h.0).key_plain; text = text }) (payload_sized v formed (can_write old key v env h.0))
gains_where_taken old new key v (Err e) env text formed h = tt
