-- Bytes pass the gate or fail one of its tests: there is no third case.
use Rattle.std.proofs.Common.{◌≡◌, ◌⊎◌, inl, inr, ℕ, zero, suc, ◌+◌, ◌-◌, ◌<◌, ◌≤◌, ◌^◌, List, [], ◌∷◌, ◌++◌, length, length-append, drop, get_or, Result, Ok, Err, refl, ap, sym, subst, arith}
use Rattle.std.specs.Prelude.{IsUtf8, slice_index}
use Rattle.std.specs.Str.{is_utf8}
use Rattle.std.proofs.lemmas.Bool.{cases_lt}
use Rattle.std.proofs.lemmas.Bool.Decides.{eqb_tells}
use Rattle.bson_base.specs.declared.spec.ElementType.{ElementType}
use Rattle.bson_base.specs.declared.spec.ElementType.TheVariants as kinds
use Rattle.bson_base.specs.declared.spec.BinarySubtype.TheVariants as subtypes
use Rattle.bson_base.specs.Tags.{subtype_byte}
use Rattle.bson_base.specs.Value.{Value, scalar, array, document, scoped_code, value_kind}
use Rattle.bson_bytes.specs.Spells.{SpellsValue}
use Rattle.bson_frame.specs.declared.error.ErrorKind.{ErrorKind}
use Rattle.bson_frame.specs.declared.error.ErrorKind.TheVariants.{MalformedValue, Utf8EncodingError, OutOfMemory}
use Rattle.bson_frame.specs.Frame.{number, IsTextSize, Element, IsFirstFrame, IsStructuralFault, size_limit}
use Rattle.bson_frame.specs.Reader.{IsNeverWhole, IsWhole}
use Rattle.bson_frame.specs.Payload.{IsPayload, IsTextAt, text_in, IsEnvelope, IsNoText, IsOldMisfit, code_in, scope_in, CodeFault, IsPayloadFault, IsFaultless}
use Rattle.bson_frame.proofs.DecisionLemmas.{frame_or_fault, text_or_never, utf8_by_test, WholeOrNever}
use Rattle.bson_frame.proofs.PayloadLemmas.{payload_by_itself}
use Rattle.bson_meaning.specs.Gate.{HoldsDocument, IsCounted, IsRefused, Passes, ReadsElements, ReadsPayload}
use Rattle.bson_meaning.specs.declared.gating.GateError.{GateError}
use Rattle.bson_meaning.specs.declared.gating.GateError.TheVariants as gate
use Rattle.bson_meaning.proofs.PayloadLemmas.{scalar_read, nests_zero, held_reads, element_fault}
use Rattle.bson_meaning.proofs.ProgressLemmas.{Progress, progress_start, progress_more, progress_done, progress_no_frame}

-- ---- payloads

is_text : (bytes : List ℕ) → IsUtf8 bytes ⊎ (IsUtf8 bytes → ⊥)
is_text bytes = utf8_by_test bytes (is_utf8 bytes) refl

text_at : (bytes : List ℕ) → IsTextAt bytes ⊎ IsNeverWhole IsTextSize bytes
text_at bytes = by (text_or_never bytes)
  where
    by : WholeOrNever IsTextSize bytes → IsTextAt bytes ⊎ IsNeverWhole IsTextSize bytes
    by (inl (size, s, le)) = inl (subst (IsWhole IsTextSize bytes) s.declared (s, le))
    by (inr never) = inr never

envelope : (bytes : List ℕ) → IsEnvelope bytes ⊎ (IsEnvelope bytes → ⊥)
envelope bytes = elim (eqb_tells (length bytes) (number bytes)) [
  | inr other ↦ inr (λ e. other.1 e.declared)
  | inl declared ↦ elim (cases_lt (number bytes) (2 ^ 31)) [
    | inr big ↦ inr (λ e. omega (arith, big, e.fits))
    | inl fits ↦ elim (cases_lt (length bytes) 5) [
      | inl few ↦ inr (λ e. omega (arith, few, e.some))
      | inr some ↦ elim (eqb_tells (get_or bytes (length bytes - 1) 0) 0) [
        | inr other ↦ inr (λ e. other.1 e.ended)
        | inl ended ↦ inl (record { declared = declared.1; fits = fits; some = some; ended = ended.1 })
      ]
    ]
  ]
]

-- there is no fault, or one of some kind
abbrev FaultlessOr : (ErrorKind → Type 0) → Type 0
FaultlessOr Fault = ((kind : ErrorKind) → Fault kind → ⊥) ⊎ ((kind : ErrorKind) × Fault kind)

text_fault : (text : List ℕ) → FaultlessOr (IsNoText text)
text_fault text = elim (is_text text) [ inl u ↦ inl (λ kind f. f.1 u) | inr not_text ↦ inr (Utf8EncodingError, (refl, not_text)) ]

truth_fault : (payload : List ℕ) → FaultlessOr (IsPayloadFault kinds.Boolean payload)
truth_fault payload = elim (cases_lt 1 (slice_index payload 0)) [ inl big ↦ inr (MalformedValue, (refl, big)) | inr small ↦ inl (λ kind f. omega (arith, f.1, small)) ]

old_fault : (payload : List ℕ) → FaultlessOr (IsOldMisfit payload)
old_fault payload = elim (eqb_tells (slice_index payload 4) (subtype_byte subtypes.BinaryOld)) [
  | inr other ↦ inl (λ kind f. other.1 f.old)
  | inl old ↦ elim (eqb_tells (number payload) (number (drop 5 payload) + 4)) [
    | inl same ↦ inl (λ kind f. f.misfit same.1)
    | inr misfit ↦ inr (MalformedValue, record { is = refl; old = old.1; misfit = misfit.1 })
  ]
]

whole_code : (payload : List ℕ) → 14 ≤ length payload → IsTextAt (code_in payload) → IsUtf8 (text_in (code_in payload)) → IsEnvelope (scope_in payload) → (kind : ErrorKind) → CodeFault payload kind → ⊥
whole_code payload long text utf scope MalformedValue (inl short) = omega (arith, long, short)
whole_code payload long text utf scope MalformedValue (inr (inl never)) = never (number (code_in payload) + 4) text.0 text.1
whole_code payload long text utf scope MalformedValue (inr (inr none)) = none.2 scope
whole_code payload long text utf scope Utf8EncodingError f = f.1.1 utf
whole_code payload long text utf scope OutOfMemory f = f

code_fault : (payload : List ℕ) → FaultlessOr (CodeFault payload)
code_fault payload = elim (cases_lt (length payload) 14) [
  | inl short ↦ inr (MalformedValue, inl short)
  | inr long ↦ elim (text_at (code_in payload)) [
    | inr never ↦ inr (MalformedValue, inr (inl never))
    | inl text ↦ elim (is_text (text_in (code_in payload))) [
      | inr not_text ↦ inr (Utf8EncodingError, (long, (text, not_text)))
      | inl utf ↦ elim (envelope (scope_in payload)) [
        | inr none ↦ inr (MalformedValue, inr (inr (text, utf, none)))
        | inl scope ↦ inl (whole_code payload long text utf scope)
      ]
    ]
  ]
]

faultless_or : (tag : ElementType) (payload : List ℕ) → FaultlessOr (IsPayloadFault tag payload)
faultless_or kinds.String payload = text_fault (text_in payload)
faultless_or kinds.JavaScriptCode payload = text_fault (text_in payload)
faultless_or kinds.Symbol payload = text_fault (text_in payload)
faultless_or kinds.DbPointer payload = text_fault (text_in payload)
faultless_or kinds.Boolean payload = truth_fault payload
faultless_or kinds.Binary payload = old_fault payload
faultless_or kinds.JavaScriptCodeWithScope payload = code_fault payload
faultless_or _ payload = inl (λ kind f. f)

-- a payload with a fault spells no value
no_value : (tag : ElementType) (payload : List ℕ) (kind : ErrorKind) → IsPayloadFault tag payload kind → (v : Value) → value_kind v ≡ tag → SpellsValue payload v → ⊥
no_value tag payload kind f (scalar s) e h = h.0 kind (subst (λ t. IsPayloadFault t payload kind) (sym e) f)
no_value tag payload kind f (scoped_code t ms) e h = h.0 kind (subst (λ t. IsPayloadFault t payload kind) (sym e) f)
no_value tag payload kind f (array vs) e h = let g : IsPayloadFault kinds.Array payload kind = subst (λ t. IsPayloadFault t payload kind) (sym e) f in g
no_value tag payload kind f (document ms) e h = let g : IsPayloadFault kinds.EmbeddedDocument payload kind = subst (λ t. IsPayloadFault t payload kind) (sym e) f in g

holds_or : (tag : ElementType) (payload : List ℕ) → IsFaultless tag payload → ((held : List ℕ) × HoldsDocument tag payload held) ⊎ ((held : List ℕ) → HoldsDocument tag payload held → ⊥)
holds_or kinds.EmbeddedDocument payload h = inl (payload, refl)
holds_or kinds.Array payload h = inl (payload, refl)
holds_or kinds.JavaScriptCodeWithScope payload h = inl (scope_in payload, (h, refl))
holds_or _ payload h = inr (λ held x. x)

-- ---- what the tests find, whatever the bytes are

abbrev Told : Type 0
Told = Result (Unit {0}) GateError

abbrev ElementsTell : ℕ → Type 0
ElementsTell inner = (elements : List ℕ) → (r : Told) × ReadsElements elements inner r

abbrev PayloadsTell : ℕ → Type 0
PayloadsTell inner = (tag : ElementType) (payload : List ℕ) → IsPayload tag payload → (r : Told) × ReadsPayload tag payload inner r

-- the tests find something of a payload, if they do of each document inside
payload_by : (inner : ℕ) → ((tag : ElementType) (payload held : List ℕ) → HoldsDocument tag payload held → (r : Told) × ReadsPayload tag payload inner r) → PayloadsTell inner
payload_by inner inside tag payload sized = elim (faultless_or tag payload) [
  | inr fault ↦ (Err gate.Faulty, no_value tag payload fault.0 fault.1)
  | inl faultless ↦ elim (holds_or tag payload faultless) [
    | inl held ↦ inside tag payload held.0 held.1
    | inr none ↦ (let v = scalar_read tag payload sized faultless none in (Ok tt, (v.0, v.1, v.2, omega (arith, v.3))))
  ]
]

payloads_at : (inner : ℕ) → ElementsTell inner → PayloadsTell (suc inner)
payloads_at inner tell = payload_by (suc inner) (λ tag payload held holds.
    let e = tell (drop 4 held) in
    (e.0, held_reads tag payload held (suc inner) e.0 holds (omega arith) (subst (λ n. ReadsElements (drop 4 held) n e.0) (let i : inner ≡ suc inner - 1 = omega arith in i) e.1)))

payloads_at_zero : PayloadsTell 0
payloads_at_zero = payload_by 0 (λ tag payload held holds. (Err gate.TooDeep, (held, holds, nests_zero 0 (drop 4 held) refl)))

at_end : (rest : List ℕ) → (rest ≡ 0 ∷ []) ⊎ (rest ≡ 0 ∷ [] → ⊥)
at_end [] = inr (λ e. absurd (cc))
at_end (zero ∷ []) = inl refl
at_end (suc b ∷ []) = inr (λ e. absurd (cc))
at_end (b ∷ c ∷ rest) = inr (λ e. absurd (cc))

shorter : (bytes next : List ℕ) (e : Element) → IsFirstFrame bytes e next → length next < length bytes
shorter bytes next e first = omega (arith, ap length first.parts, length-append e.key (0 ∷ (e.payload ++ next)), length-append e.payload next)

-- elements, from this rest on
walk : (inner : ℕ) → PayloadsTell inner → (fuel : ℕ) (all rest : List ℕ) → length rest ≤ fuel → Progress all rest inner → (r : Told) × ReadsElements all inner r
walk inner payloads zero all rest room so_far =
    (Err gate.Faulty, progress_no_frame all rest inner so_far (λ is. omega (arith, ap length is, room)) (λ e next first. omega (arith, shorter rest next e first, room)))
walk inner payloads (suc fuel) all rest room so_far = by (at_end rest) (frame_or_fault rest) (λ next less more. walk inner payloads fuel all next less more)
  where
    framed : (e : Element) (next : List ℕ) → IsFirstFrame rest e next → ((next : List ℕ) → length next ≤ fuel → Progress all next inner → (r : Told) × ReadsElements all inner r)
        → (r : Told) × ReadsPayload e.tag e.payload inner r → (r : Told) × ReadsElements all inner r
    framed e next first on (Ok x, v) = on next (omega (arith, shorter rest next e first, room)) (progress_more all rest next inner e v.0 so_far first v.1 v.2 v.3)
    framed e next first on (Err error, h) = (Err error, element_fault all rest next inner e error so_far first h)

    by : (rest ≡ 0 ∷ []) ⊎ (rest ≡ 0 ∷ [] → ⊥) → ((e : Element) × (next : List ℕ) × IsFirstFrame rest e next) ⊎ ((kind : ErrorKind) × IsStructuralFault rest kind)
        → ((next : List ℕ) → length next ≤ fuel → Progress all next inner → (r : Told) × ReadsElements all inner r) → (r : Told) × ReadsElements all inner r
    by (inl is) frame on = (Ok tt, progress_done all rest inner so_far is)
    by (inr more) (inr fault) on = (Err gate.Faulty, progress_no_frame all rest inner so_far more fault.1.no_frame)
    by (inr more) (inl f) on = framed f.0 f.1 f.2 on (payloads f.0.tag f.0.payload (payload_by_itself rest f.0 f.1 f.2))

elements_by : (inner : ℕ) → PayloadsTell inner → ElementsTell inner
elements_by inner payloads elements = walk inner payloads (length elements) elements elements (omega arith) (progress_start elements inner)

elements_tell : (inner : ℕ) → ElementsTell inner
elements_tell zero = elements_by 0 payloads_at_zero
elements_tell (suc inner) = elements_by (suc inner) (payloads_at inner (elements_tell inner))

-- ---- all tests

abbrev pub GateTells : List ℕ → Type 0
GateTells bytes = Passes bytes ⊎ ((e : GateError) × IsRefused bytes e)

told_of : (bytes : List ℕ) → IsCounted bytes → IsEnvelope bytes → (r : Told) × ReadsElements (drop 4 bytes) 99 r → GateTells bytes
told_of bytes counted env (Ok x, h) = inl (counted, env, (h.0, h.1, omega (arith, h.2)))
told_of bytes counted env (Err gate.Faulty, h) = inr (gate.Faulty, (counted, env, h))
told_of bytes counted env (Err gate.TooDeep, h) = inr (gate.TooDeep, (counted, env, h))
told_of bytes counted env (Err _, h) = absurd h

counted_tells : (bytes : List ℕ) → IsCounted bytes → GateTells bytes
counted_tells bytes c = elim (eqb_tells (get_or bytes (length bytes - 1) 0) 0) [
  | inr other ↦ inr (gate.NotTerminated, (c, other.1))
  | inl ended ↦ told_of bytes c (record { declared = c.2; fits = omega (arith, c.1); some = omega (arith, c.0, c.2); ended = ended.1 }) (elements_tell 99 (drop 4 bytes))
]

pub gate_tells : (bytes : List ℕ) → GateTells bytes
gate_tells bytes = elim (cases_lt (length bytes) 4) [
  | inl few ↦ inr (gate.EndInside, inl few)
  | inr four ↦ elim (cases_lt (number bytes) 5) [
    | inl low ↦ inr (gate.BadLength, (four, inl low))
    | inr some ↦ elim (cases_lt size_limit (number bytes)) [
      | inl high ↦ inr (gate.BadLength, (four, inr (inl high)))
      | inr fits ↦ elim (cases_lt (number bytes) (length bytes)) [
        | inl more ↦ inr (gate.BadLength, (four, inr (inr more)))
        | inr no_more ↦ elim (cases_lt (length bytes) (number bytes)) [
          | inl fewer ↦ inr (gate.EndInside, inr (some, fits, fewer))
          | inr enough ↦ counted_tells bytes (some, fits, omega arith)
        ]
      ]
    ]
  ]
]
