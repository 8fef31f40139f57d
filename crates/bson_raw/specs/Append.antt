-- An element that is put into a document.
use Rattle.std.specs.Prelude.{◌≡◌, ℕ, ◌-◌, ◌<◌, ◌≤◌, ◌^◌, List, [], ◌∷◌, ◌++◌, length, take, drop, ◌⊎◌, None, Result, Ok, Err}
use Rattle.bson_base.specs.declared.spec.ElementType.TheVariants as kinds
use Rattle.bson_base.specs.Kinds.{HasNo00}
use Rattle.bson_base.specs.Tags.{tag_byte}
use Rattle.bson_bytes.specs.Encode.{cstring_of, frame_of}
use Rattle.bson_bytes.specs.Writing.{IsWriteRefusal}
use Rattle.bson_frame.specs.declared.error.Error.{Error}
use Rattle.bson_frame.specs.declared.error.ErrorKind.TheVariants.{OutOfMemory}
use Rattle.bson_frame.specs.Frame.{Element}
use Rattle.bson_frame.specs.View.{IsBare}
use Rattle.bson_raw.specs.Raw.{RawValue, raw_kind, raw_payload, IsPlainRaw}
use Rattle.bson_raw.specs.Walk.{IsDocumentWalk}

-- the element that a value is under a key
abbrev pub element_for : List ℕ → RawValue → Element
element_for key v = record { tag = raw_kind v; key = key; payload = raw_payload v }

abbrev pub element_bytes : Element → List ℕ
element_bytes e = tag_byte e.tag ∷ (cstring_of e.key ++ e.payload)

-- the bytes of a document's elements, without its length and its final 00
abbrev pub body_of : List ℕ → List ℕ
body_of bytes = take (length bytes - 5) (drop 4 bytes)

-- the element in front of the final 00, and the length corrected
abbrev pub with_element : List ℕ → Element → List ℕ
with_element bytes e = frame_of (body_of bytes ++ element_bytes e)

-- no 00 in the key, a pattern or options, and at most 2147483647 bytes afterwards
pub record CanTake (bytes : List ℕ) (key : List ℕ) (v : RawValue) : Type 0 where
  pub key_plain : HasNo00 key
  pub value_plain : IsPlainRaw v
  pub fits : length (with_element bytes (element_for key v)) < 2 ^ 31

-- a value was put into a document under a key, or the document is as before
abbrev pub AppendsElement : List ℕ → List ℕ → List ℕ → RawValue → Result (Unit {0}) Error → Type 0
AppendsElement old new key v (Ok x) = CanTake old key v × (new ≡ with_element old (element_for key v))
AppendsElement old new key v (Err e) = IsWriteRefusal (CanTake old key v → ⊥) e × (new ≡ old)

-- ---- the walk afterwards

-- a code with scope whose declared length counts its own four bytes
abbrev pub IsLongEnough : Element → Type 0
IsLongEnough e = e.tag ≡ kinds.JavaScriptCodeWithScope → 4 ≤ length e.payload

-- the last element, if there is one, isn't a code with scope of declared length under 4
abbrev pub EndsLongEnough : List Element → Type 0
EndsLongEnough [] = Unit {0}
EndsLongEnough (e ∷ []) = IsLongEnough e
EndsLongEnough (e ∷ f ∷ elements) = EndsLongEnough (f ∷ elements)

-- a walk without a structural fault that ends this way gains the element
abbrev pub Gains : List ℕ → List ℕ → Element → Type 0
Gains old new e = (elements : List Element) → IsDocumentWalk old elements None → EndsLongEnough elements → IsDocumentWalk new (elements ++ e ∷ []) None

-- ---- several values

-- the values are taken one after the other, each under its key
abbrev pub AllTaken : List ℕ → List (List ℕ × RawValue) → List ℕ → Type 0
AllTaken old [] new = new ≡ old
AllTaken old (p ∷ pairs) new = CanTake old p.0 p.1 × AllTaken (with_element old (element_for p.0 p.1)) pairs new

-- the first that isn't taken, or out of memory
abbrev pub StopsAt : List ℕ → List (List ℕ × RawValue) → Error → Type 0
StopsAt old [] e = IsBare OutOfMemory e
StopsAt old (p ∷ pairs) e = IsWriteRefusal (CanTake old p.0 p.1 → ⊥) e ⊎ (CanTake old p.0 p.1 × StopsAt (with_element old (element_for p.0 p.1)) pairs e)

-- the bytes of the empty document
abbrev pub empty_bytes : List ℕ
empty_bytes = 5 ∷ 0 ∷ 0 ∷ 0 ∷ 0 ∷ []

-- what a call returns that builds a document of pairs
abbrev pub Builds : {T : Type 0} → (T → List ℕ) → List (List ℕ × RawValue) → Result T Error → Type 0
Builds bytes pairs (Ok x) = AllTaken empty_bytes pairs (bytes x)
Builds bytes pairs (Err e) = StopsAt empty_bytes pairs e
