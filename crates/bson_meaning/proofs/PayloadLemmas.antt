-- What a payload holds: a scalar, or a document, an array or a scope.
use Rattle.std.proofs.Common.{◌≡◌, inl, inr, ℕ, zero, suc, ◌+◌, ◌-◌, ◌<◌, ◌≤◌, List, [], ◌∷◌, ◌++◌, drop, length, length-append, slice_index, Bool, true, false, leb, Option, Some, None, MatchOption, Result, Ok, Err, Bor, IsUtf8, if◌then◌else◌, ◌==◌, refl, ap, sym, ◌∙◌, subst, arith}
use Rattle.std.proofs.lemmas.Bool.{leb-true, leb-false}
use Rattle.std.specs.Int.{w32, w64, from_le_bytes, cast_signed}
use Rattle.bson_base.specs.declared.spec.ElementType.{ElementType}
use Rattle.bson_base.specs.declared.spec.ElementType.TheVariants as kinds
use Rattle.bson_base.specs.declared.spec.BinarySubtype.TheVariants as subtypes
use Rattle.bson_base.specs.Tags.{subtype_of, subtype_byte}
use Rattle.bson_base.specs.Value.{Scalar, scalar_kind, double, string, binary, undefined, object_id, boolean, date_time, null, regex, db_pointer, code, symbol, int32, timestamp, int64, decimal, max_key, min_key, Value, scalar, array, document, scoped_code, Members, no_members, member, value_kind, levels, members_levels}
use Rattle.bson_bytes.specs.Spells.{SpellsValue, SpellsMembers}
use Rattle.bson_frame.specs.declared.error.ErrorKind.{ErrorKind}
use Rattle.bson_frame.specs.declared.error.ErrorKind.TheVariants.{MalformedValue, Utf8EncodingError, OutOfMemory}
use Rattle.bson_frame.specs.Frame.{number, Element, IsFirstFrame}
use Rattle.bson_frame.specs.Payload.{IsPayload, IsFaultless, IsTextAt, TextFault, text_in, code_in, scope_in}
use Rattle.bson_bytes.proofs.OneTreeLemmas.{end_no_frame}
use Rattle.bson_bytes.proofs.ScalarReadLemmas.{HasInner, scalar_read as faultless_scalar}
use Rattle.bson_frame.proofs.FrameLemmas.{frame_is_one}
use Rattle.bson_meaning.specs.Gate.{HoldsDocument, Leads, Nests, IsRefused, Passes, ReadsElements, ReadsPayload}
use Rattle.bson_meaning.specs.declared.gating.GateError.{GateError}
use Rattle.bson_meaning.specs.declared.gating.GateError.TheVariants.{EndInside, BadLength, NotTerminated, Faulty, TooDeep}
use Rattle.bson_meaning.proofs.ProgressLemmas.{Progress, progress_no_value, progress_nests, items_of_members, members_of_items}

-- ---- code with scope

pub no_text : (payload : List ℕ) (kind : ErrorKind) → IsFaultless kinds.JavaScriptCodeWithScope payload → 14 ≤ length payload → TextFault (code_in payload) kind → ⊥
no_text payload MalformedValue h long f = h MalformedValue (inr (inl f))
no_text payload Utf8EncodingError h long f = h Utf8EncodingError (long, f)
no_text payload OutOfMemory h long f = f

pub scope_long : (payload : List ℕ) → IsFaultless kinds.JavaScriptCodeWithScope payload → IsTextAt (code_in payload) → IsUtf8 (text_in (code_in payload)) → 5 ≤ length (scope_in payload)
scope_long payload h text utf = by (leb 5 (length (scope_in payload))) refl
  where
    by : (b : Bool) → leb 5 (length (scope_in payload)) ≡ b → 5 ≤ length (scope_in payload)
    by true e = leb-true 5 (length (scope_in payload)) e
    by false e = absurd (h MalformedValue (inr (inr (text, utf, λ envelope. let some = envelope.some in omega (arith, some, leb-false 5 (length (scope_in payload)) e)))))

pub scope_holds : (tag : ElementType) (payload : List ℕ) (r : Option (Bor (List ℕ))) → tag ≡ kinds.JavaScriptCodeWithScope → IsFaultless tag payload
    → MatchOption r ⊥ (λ s. (s.now ≡ scope_in payload) × (5 ≤ length s.now)) → MatchOption r ((held : List ℕ) → HoldsDocument tag payload held → ⊥) (λ held. HoldsDocument tag payload held.now × (4 ≤ length held.now))
scope_holds tag payload None is h m = absurd m
scope_holds tag payload (Some s) is h m =
    let P : ElementType → Type 0 = λ t. HoldsDocument t payload s.now in
    (subst P (sym is) (subst (λ t. IsFaultless t payload) is h, m.0), omega (arith, m.1))

-- ---- scalars

no_inner : (tag : ElementType) (payload : List ℕ) → IsFaultless tag payload → ((held : List ℕ) → HoldsDocument tag payload held → ⊥) → HasInner tag ≡ false
no_inner kinds.EmbeddedDocument payload h none = absurd (none payload refl)
no_inner kinds.Array payload h none = absurd (none payload refl)
no_inner kinds.JavaScriptCodeWithScope payload h none = absurd (none (scope_in payload) (h, refl))
no_inner _ payload h none = refl

-- a payload without a fault that holds no document holds a scalar
pub scalar_read : (tag : ElementType) (payload : List ℕ) → IsPayload tag payload → IsFaultless tag payload → ((held : List ℕ) → HoldsDocument tag payload held → ⊥)
    → (v : Value) × (value_kind v ≡ tag) × SpellsValue payload v × (levels v ≡ 0)
scalar_read tag payload s h none = faultless_scalar tag payload s h (no_inner tag payload h none)

-- ---- documents inside

pub nests_zero : (n : ℕ) (elements : List ℕ) → n ≡ 0 → Nests n elements
unfolding Nests
nests_zero n elements e = subst (λ m. Nests m elements) (sym e) tt

held_well : (tag : ElementType) (payload held : List ℕ) (inner : ℕ) → HoldsDocument tag payload held → 0 < inner → ReadsElements (drop 4 held) (inner - 1) (Ok tt) → ReadsPayload tag payload inner (Ok tt)
held_well kinds.EmbeddedDocument payload held inner is some h = (document h.0, refl, subst (λ b. SpellsMembers (drop 4 b) h.0) is h.1, omega (arith, h.2))
held_well kinds.Array payload held inner is some h =
    let vs = items_of_members (drop 4 payload) h.0 (subst (λ b. SpellsMembers (drop 4 b) h.0) is h.1) in
    (array vs.0, refl, vs.1, omega (arith, h.2, vs.2))
held_well kinds.JavaScriptCodeWithScope payload held inner is some h =
    (scoped_code (text_in (code_in payload)) h.0, refl, (is.0, refl, subst (λ b. SpellsMembers (drop 4 b) h.0) is.1 h.1), omega (arith, h.2))
held_well _ payload held inner is some h = absurd is

scalar_inner : (s : Scalar) → HasInner (scalar_kind s) ≡ false
scalar_inner (double n) = refl
scalar_inner (string t) = refl
scalar_inner _ = refl

pub scalar_apart : (s : Scalar) (tag : ElementType) → scalar_kind s ≡ tag → HasInner tag ≡ true → ⊥
scalar_apart s tag e h = let no : true ≡ false = sym h ∙ ap HasInner (sym e) ∙ scalar_inner s in cc

-- the members of the document that a value is spelled with
pub record Inner (held : List ℕ) (v : Value) : Type 0 where
  pub members : Members
  pub spelled : SpellsMembers (drop 4 held) members
  pub deep : levels v ≡ suc (members_levels members)

document_inner : (payload held : List ℕ) (v : Value) → held ≡ payload → value_kind v ≡ kinds.EmbeddedDocument → SpellsValue payload v → Inner held v
document_inner payload held (document ms) is kind value = record { members = ms; spelled = subst (λ b. SpellsMembers (drop 4 b) ms) (sym is) value; deep = refl }
document_inner payload held (array vs) is kind value = absurd (cc)
document_inner payload held (scoped_code t ms) is kind value = absurd (cc)
document_inner payload held (scalar s) is kind value = absurd (scalar_apart s kinds.EmbeddedDocument kind refl)

array_inner : (payload held : List ℕ) (v : Value) → held ≡ payload → value_kind v ≡ kinds.Array → SpellsValue payload v → Inner held v
array_inner payload held (array vs) is kind value =
    let ms = members_of_items (drop 4 payload) vs value in
    record { members = ms.0; spelled = subst (λ b. SpellsMembers (drop 4 b) ms.0) (sym is) ms.1; deep = ap suc (sym ms.2) }
array_inner payload held (document ms) is kind value = absurd (cc)
array_inner payload held (scoped_code t ms) is kind value = absurd (cc)
array_inner payload held (scalar s) is kind value = absurd (scalar_apart s kinds.Array kind refl)

scope_inner : (payload held : List ℕ) (v : Value) → held ≡ scope_in payload → value_kind v ≡ kinds.JavaScriptCodeWithScope → SpellsValue payload v → Inner held v
scope_inner payload held (scoped_code t ms) is kind value = record { members = ms; spelled = subst (λ b. SpellsMembers (drop 4 b) ms) (sym is) value.2; deep = refl }
scope_inner payload held (array vs) is kind value = absurd (cc)
scope_inner payload held (document ms) is kind value = absurd (cc)
scope_inner payload held (scalar s) is kind value = absurd (scalar_apart s kinds.JavaScriptCodeWithScope kind refl)

pub inner_of : (tag : ElementType) (payload held : List ℕ) (v : Value) → HoldsDocument tag payload held → value_kind v ≡ tag → SpellsValue payload v → Inner held v
inner_of kinds.EmbeddedDocument payload held v is kind value = document_inner payload held v is kind value
inner_of kinds.Array payload held v is kind value = array_inner payload held v is kind value
inner_of kinds.JavaScriptCodeWithScope payload held v is kind value = scope_inner payload held v is.1 kind value
inner_of _ payload held v is kind value = absurd is

held_ill : (tag : ElementType) (payload held : List ℕ) → HoldsDocument tag payload held → ((ms : Members) → SpellsMembers (drop 4 held) ms → ⊥) → (v : Value) → value_kind v ≡ tag → SpellsValue payload v → ⊥
held_ill tag payload held is none v kind value = let i = inner_of tag payload held v is kind value in none i.members i.spelled

pub held_reads : (tag : ElementType) (payload held : List ℕ) (inner : ℕ) (r : Result (Unit {0}) GateError) → HoldsDocument tag payload held → 0 < inner → ReadsElements (drop 4 held) (inner - 1) r → ReadsPayload tag payload inner r
held_reads tag payload held inner (Ok x) is some h = held_well tag payload held inner is some h
held_reads tag payload held inner (Err Faulty) is some h = held_ill tag payload held is h
held_reads tag payload held inner (Err TooDeep) is some h = let e : inner - 1 + 1 ≡ inner = omega arith in (held, is, subst (λ n. Nests n (drop 4 held)) e h)
held_reads tag payload held inner (Err _) is some h = h

-- ---- what an element says of all

pub element_fault : (body mid rest : List ℕ) (inner : ℕ) (e : Element) (error : GateError) → Progress body mid inner → IsFirstFrame mid e rest → ReadsPayload e.tag e.payload inner (Err error) → ReadsElements body inner (Err error)
element_fault body mid rest inner e Faulty so_far first h = progress_no_value body mid rest inner e so_far first h
element_fault body mid rest inner e TooDeep so_far first h = progress_nests body mid rest inner e h.0 so_far first h.1 h.2
element_fault body mid rest inner e _ so_far first h = h

-- ---- what faultless bytes nest is in what they spell

leads_spelled : (body rest : List ℕ) (es : List Element) (ps : Members) → Leads body es rest → SpellsMembers body ps → (qs : Members) × SpellsMembers rest qs × (members_levels qs ≤ members_levels ps)
leads_spelled body rest [] ps is h = (ps, subst (λ b. SpellsMembers b ps) is h, omega arith)
leads_spelled body rest (e ∷ es) no_members leads h = absurd (end_no_frame body e leads.0 h leads.1)
leads_spelled body rest (e ∷ es) (member k v ps) leads h =
    let same = frame_is_one body h.0 e h.1 leads.0 h.2 leads.1 in
    let more = leads_spelled leads.0 rest es ps leads.2 (subst (λ r. SpellsMembers r ps) same.1 h.6) in
    (more.0, more.1, omega (arith, more.2))

pub nests_levels : (n : ℕ) (elements : List ℕ) (ps : Members) → Nests n elements → SpellsMembers elements ps → n ≤ members_levels ps
unfolding Nests
nests_levels zero elements ps nests h = omega arith
nests_levels (suc n) elements ps nests all = at_rest (leads_spelled elements nests.1 nests.0 ps nests.5 all) (λ ds inside. nests_levels n (drop 4 nests.4) ds nests.8 inside)
  where
    at_rest : (qs : Members) × SpellsMembers nests.1 qs × (members_levels qs ≤ members_levels ps) → ((ds : Members) → SpellsMembers (drop 4 nests.4) ds → n ≤ members_levels ds) → suc n ≤ members_levels ps
    at_rest (no_members, is, low) deeper = absurd (end_no_frame nests.1 nests.2 nests.3 is nests.6)
    at_rest (member k v qs, h, low) deeper =
        let same = frame_is_one nests.1 h.0 nests.2 h.1 nests.3 h.2 nests.6 in
        let i = inner_of nests.2.tag nests.2.payload nests.4 v nests.7 (h.4 ∙ ap (λ f. f.tag) same.0) (subst (λ f. SpellsValue f.payload v) same.0 h.5) in
        omega (arith, deeper i.members i.spelled, i.deep, low)

-- ---- bytes pass or are refused

pub one_answer : (bytes : List ℕ) (error : GateError) → Passes bytes → IsRefused bytes error → ⊥
one_answer bytes EndInside h (inl few) = omega (arith, h.0.0, h.0.2)
one_answer bytes EndInside h (inr few) = omega (arith, few.2, h.0.2)
one_answer bytes BadLength h (four, inl low) = omega (arith, low, h.0.0)
one_answer bytes BadLength h (four, inr (inl high)) = omega (arith, high, h.0.1)
one_answer bytes BadLength h (four, inr (inr more)) = omega (arith, more, h.0.2)
one_answer bytes NotTerminated h r = r.1 h.1.ended
one_answer bytes Faulty h r = r.2 h.2.0 h.2.1
one_answer bytes TooDeep h r = omega (arith, h.2.2, nests_levels 100 (drop 4 bytes) h.2.0 r.2 h.2.1)
