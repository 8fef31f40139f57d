-- The parts of `append`: what is written after a document, and how it becomes a document again.
use Rattle.std.specs.List.{AllZip}
use Rattle.std.proofs.Common.{◌≡◌, ℕ, suc, ◌+◌, ◌-◌, ◌<◌, ◌≤◌, ◌^◌, List, [], ◌∷◌, ◌++◌, length, take, drop, set, OnOk, IfErr, Result, Ok, Err, refl, sym, ap, ◌∙◌, subst, append_assoc, arith}
use Rattle.std.proofs.lemmas.List.{length-append, set-append_right, take_at, take-append-drop, drop-drop, drop_more, drop_all, length-take-le, length-drop}
use Rattle.bson_base.specs.declared.spec.BinarySubtype.{BinarySubtype}
use Rattle.bson_base.specs.Kinds.{HasNo00}
use Rattle.bson_base.specs.Tags.{tag_byte}
use Rattle.bson_base.specs.Value.{binary}
use Rattle.bson_bytes.specs.Encode.{le32, cstring_of, frame_of, text_bytes, scope_frame_of, scalar_bytes, scalar_size}
use Rattle.bson_bytes.specs.Writing.{IsWriteRefusal, RefusesWriting, StartsWith}
use Rattle.bson_frame.specs.declared.error.Error.{Error}
use Rattle.bson_frame.specs.declared.error.ErrorKind.{ErrorKind}
use Rattle.bson_frame.specs.declared.error.ErrorKind.TheVariants.{MalformedValue, Utf8EncodingError, OutOfMemory}
use Rattle.bson_frame.specs.Payload.{IsEnvelope}
use Rattle.bson_frame.specs.View.{IsBare}
use Rattle.bson_raw.specs.Append.{element_for, element_bytes, body_of, with_element, CanTake, AppendsElement}
use Rattle.bson_raw.specs.Raw.{RawValue, raw_kind, raw_payload, IsPlainRaw}
use Rattle.bson_raw.specs.Written.{CanWrite, Closes}
use Rattle.bson_bytes.proofs.LengthLemmas.{le32_length, text_length, ended_length, framed_length, scoped_length, payload_length}
use Rattle.bson_bytes.proofs.ExtentLemmas.{framed_envelope}

-- ---- lengths

-- ---- refusals

refuses_for : (P Q : Type 0) (k : ErrorKind) → (P → Q) → RefusesWriting P k → RefusesWriting Q k
refuses_for P Q MalformedValue f h = f h
refuses_for P Q Utf8EncodingError f h = h
refuses_for P Q OutOfMemory f h = h

pub refusal_for : (P Q : Type 0) (e : Error) → (P → Q) → IsWriteRefusal P e → IsWriteRefusal Q e
refusal_for P Q e f h = (refuses_for P Q e.kind f h.0, h.1)

malformed_for : (Q : Type 0) (k : ErrorKind) → k ≡ MalformedValue → Q → RefusesWriting Q k
malformed_for Q k e h = subst (λ (x : ErrorKind). RefusesWriting Q x) (sym e) h

pub bare_refusal : (Q : Type 0) (e : Error) → IsBare MalformedValue e → Q → IsWriteRefusal Q e
bare_refusal Q e b h = (malformed_for Q e.kind b.0 h, b.1)

-- ---- payloads

pub refused_for : (P Q : Type 0) (r : Result (Unit {0}) Error) → (P → Q) → IfErr r (IsWriteRefusal P) → IfErr r (IsWriteRefusal Q)
refused_for P Q (Ok x) f h = tt
refused_for P Q (Err e) f h = refusal_for P Q e f h

pub long_text : (t : List ℕ) (r : Result (Unit {0}) Error) → IfErr r (IsWriteRefusal (2 ^ 31 ≤ length t + 5)) → IfErr r (IsWriteRefusal (Unit {0} × (length (text_bytes t) < 2 ^ 31) → ⊥))
long_text t r h = refused_for (2 ^ 31 ≤ length t + 5) (Unit {0} × (length (text_bytes t) < 2 ^ 31) → ⊥) r (λ long can. omega (arith, long, can.1, text_length t)) h

pub long_pointer : (t bs : List ℕ) (r : Result (Unit {0}) Error) → IfErr r (IsWriteRefusal (2 ^ 31 ≤ length t + 5)) → IfErr r (IsWriteRefusal (Unit {0} × (length (text_bytes t ++ bs) < 2 ^ 31) → ⊥))
long_pointer t bs r h = refused_for (2 ^ 31 ≤ length t + 5) (Unit {0} × (length (text_bytes t ++ bs) < 2 ^ 31) → ⊥) r (λ long can. omega (arith, long, can.1, text_length t, length-append (text_bytes t) bs)) h

pub long_binary : (s : BinarySubtype) (bs : List ℕ) (r : Result (Unit {0}) Error) → IfErr r (IsWriteRefusal (2 ^ 31 ≤ scalar_size (binary s bs))) → IfErr r (IsWriteRefusal (Unit {0} × (length (scalar_bytes (binary s bs)) < 2 ^ 31) → ⊥))
long_binary s bs r h = refused_for (2 ^ 31 ≤ scalar_size (binary s bs)) (Unit {0} × (length (scalar_bytes (binary s bs)) < 2 ^ 31) → ⊥) r (λ long can. omega (arith, long, can.1, payload_length (binary s bs))) h

-- a code with scope, in three pieces and its length

module _ (old a b m t scope : List ℕ) (ea : a ≡ old ++ 0 ∷ 0 ∷ 0 ∷ 0 ∷ []) (eb : b ≡ a ++ text_bytes t) (em : m ≡ b ++ scope) where
  pieces : m ≡ old ++ ((0 ∷ 0 ∷ 0 ∷ 0 ∷ []) ++ (text_bytes t ++ scope))
  pieces =
      let grouped : ((old ++ 0 ∷ 0 ∷ 0 ∷ 0 ∷ []) ++ text_bytes t) ++ scope ≡ old ++ ((0 ∷ 0 ∷ 0 ∷ 0 ∷ []) ++ (text_bytes t ++ scope)) = simp append_assoc in
      em ∙ ap (λ (x : List ℕ). x ++ scope) (eb ∙ ap (λ (x : List ℕ). x ++ text_bytes t) ea) ∙ grouped

  pub scoped_put : (new : List ℕ) (start : ℕ) (r : Result (Unit {0}) Error) → start ≡ length old
      → ((before middle after : List ℕ) → m ≡ before ++ (middle ++ after) → length before ≡ start → length middle ≡ 4 → OnOk r (new ≡ before ++ (le32 (length after + 4) ++ after)))
      → OnOk r (new ≡ old ++ scope_frame_of t scope)
  unfolding scope_frame_of
  scoped_put new start r at puts = puts old (0 ∷ 0 ∷ 0 ∷ 0 ∷ []) (text_bytes t ++ scope) pieces (sym at) refl

  pub long_scoped : (start : ℕ) (r : Result (Unit {0}) Error) → start ≡ length old → IfErr r (λ e. IsBare MalformedValue e × (start + 2 ^ 31 ≤ length m))
      → IfErr r (IsWriteRefusal (Unit {0} × (length (scope_frame_of t scope) < 2 ^ 31) → ⊥))
  long_scoped start (Ok x) at h = tt
  long_scoped start (Err e) at h =
      let total : length m ≡ length old + length t + length scope + 9 = omega (arith, ap length pieces, length-append old ((0 ∷ 0 ∷ 0 ∷ 0 ∷ []) ++ (text_bytes t ++ scope)), length-append (text_bytes t) scope, text_length t) in
      bare_refusal (Unit {0} × (length (scope_frame_of t scope) < 2 ^ 31) → ⊥) e h.0 (λ can. omega (arith, h.1, can.1, total, scoped_length t scope, at))

pub long_code : (t scope : List ℕ) (e : Error) → IsWriteRefusal (2 ^ 31 ≤ length t + 5) e → IsWriteRefusal (Unit {0} × (length (scope_frame_of t scope) < 2 ^ 31) → ⊥) e
long_code t scope e h = refusal_for (2 ^ 31 ≤ length t + 5) (Unit {0} × (length (scope_frame_of t scope) < 2 ^ 31) → ⊥) e (λ long can. omega (arith, long, can.1, scoped_length t scope)) h

-- ---- a document's parts

one_left : (old : List ℕ) → IsEnvelope old → drop (length old - 5) (drop 4 old) ≡ 0 ∷ []
one_left old env =
    let last : ℕ = length old - 1 in
    drop-drop (length old - 5) 4 old
    ∙ ap (λ (k : ℕ). drop k old) (omega (arith, env.some))
    ∙ drop_more old last 0 (omega (arith, env.some))
    ∙ ap (λ (b : ℕ). b ∷ drop (last + 1) old) env.ended
    ∙ ap (λ (x : List ℕ). 0 ∷ x) (drop_all (last + 1) old (omega (arith, env.some)))

-- its four bytes of length, its elements, and its final 00
pub document_parts : (old : List ℕ) → IsEnvelope old → old ≡ take 4 old ++ (body_of old ++ 0 ∷ [])
document_parts old env =
    let some = env.some in
    let tail : List ℕ = drop 4 old in
    let len : length tail ≡ length old - 4 = length-drop 4 old in
    let cut : tail ≡ take (length old - 5) tail ++ drop (length old - 5) tail = sym (take-append-drop (length old - 5) tail) in
    sym (take-append-drop 4 old) ∙ ap (λ (x : List ℕ). take 4 old ++ x) (cut ∙ ap (λ (x : List ℕ). body_of old ++ x) (one_left old env))

pub four_length : (old : List ℕ) → IsEnvelope old → length (take 4 old) ≡ 4
four_length old env = length-take-le 4 old (omega (arith, env.some))

pub body_length : (old : List ℕ) → IsEnvelope old → length (body_of old) + 5 ≡ length old
body_length old env = omega (arith, env.some, length-drop 4 old, length-take-le (length old - 5) (drop 4 old) (omega (arith, env.some, length-drop 4 old)))

-- ---- the length is put in

abbrev pub PutsLength : ℕ → List ℕ → List ℕ → Type 0
PutsLength start old new = (before middle after : List ℕ) → old ≡ before ++ (middle ++ after) → length before ≡ start → length middle ≡ 4 → new ≡ before ++ (le32 (length after + 4) ++ after)

pub length_kept : (old new : List ℕ) → 4 ≤ length old → PutsLength 0 old new → length new ≡ length old
length_kept old new some puts =
    let e = puts [] (take 4 old) (drop 4 old) (sym (take-append-drop 4 old)) refl (length-take-le 4 old some) in
    omega (arith, ap length e, length-append (le32 (length (drop 4 old) + 4)) (drop 4 old), le32_length (length (drop 4 old) + 4), length-drop 4 old)

pub closed : (old new four body more : List ℕ) (tag end : ℕ) → PutsLength 0 old new → old ≡ four ++ ((body ++ 0 ∷ []) ++ more) → length four ≡ 4 → length body + 5 ≡ end
    → set new (end - 1) tag ≡ le32 (length body + length more + 5) ++ (body ++ tag ∷ more)
closed old new four body more tag end puts e len whole =
    let after : List ℕ = (body ++ 0 ∷ []) ++ more in
    let n : ℕ = length body + length more + 5 in
    let size : length after + 4 ≡ n = omega (arith, length-append (body ++ 0 ∷ []) more, length-append body (0 ∷ [])) in
    let at : new ≡ le32 n ++ (body ++ 0 ∷ more) = puts [] four after e refl len ∙ ap (λ (k : ℕ). le32 k ++ after) size ∙ ap (λ (x : List ℕ). le32 n ++ x) (append_assoc body (0 ∷ []) more) in
    let here : end - 1 - 4 - length body ≡ 0 = omega arith in
    ap (λ (x : List ℕ). set x (end - 1) tag) at
    ∙ set-append_right (le32 n) (body ++ 0 ∷ more) 4 (end - 1) tag (le32_length n) (omega arith)
    ∙ ap (λ (x : List ℕ). le32 n ++ x) (set-append_right body (0 ∷ more) (length body) (end - 1 - 4) tag refl (omega arith)
    ∙ ap (λ (k : ℕ). body ++ set (0 ∷ more) k tag) here)

pub closed_length : (old four body more : List ℕ) → old ≡ four ++ ((body ++ 0 ∷ []) ++ more) → length four ≡ 4 → length old ≡ length body + length more + 5
closed_length old four body more e len = omega (arith, ap length e, length-append four ((body ++ 0 ∷ []) ++ more), length-append (body ++ 0 ∷ []) more, length-append body (0 ∷ []), len)

-- ---- the element is in

pub with_element_length : (old key : List ℕ) (v : RawValue) → IsEnvelope old → length (with_element old (element_for key v)) ≡ length old + length key + length (raw_payload v) + 2
with_element_length old key v env =
    let e = element_bytes (element_for key v) in
    omega (arith, framed_length (body_of old ++ e), length-append (body_of old) e, length-append (cstring_of key) (raw_payload v), ended_length key, body_length old env)

pub can_write : (old key : List ℕ) (v : RawValue) → IsEnvelope old → CanTake old key v → CanWrite v
can_write old key v env c = (c.value_plain, omega (arith, c.fits, with_element_length old key v env))

module _ (old key : List ℕ) (v : RawValue) (env : IsEnvelope old) where
  -- what follows the tag
  abbrev pub rest_of : List ℕ
  rest_of = cstring_of key ++ (raw_payload v ++ 0 ∷ [])

  rest_length : length rest_of ≡ length key + length (raw_payload v) + 2
  rest_length = omega (arith, length-append (cstring_of key) (raw_payload v ++ 0 ∷ []), length-append (raw_payload v) (0 ∷ []), ended_length key)

  framed_with : (tag : ℕ) → le32 (length (body_of old) + length rest_of + 5) ++ (body_of old ++ tag ∷ rest_of) ≡ frame_of (body_of old ++ tag ∷ (cstring_of key ++ raw_payload v))
  unfolding frame_of
  framed_with tag =
      let body : List ℕ = body_of old in
      let k : List ℕ = cstring_of key in
      let p : List ℕ = raw_payload v in
      let elements : List ℕ = body ++ tag ∷ (k ++ p) in
      let size : length body + length rest_of + 5 ≡ length elements + 5 = omega (arith, length-append body (tag ∷ (k ++ p)), length-append k p, ended_length key, rest_length) in
      let grouped : elements ++ 0 ∷ [] ≡ body ++ tag ∷ (k ++ (p ++ 0 ∷ [])) = simp append_assoc in
      ap (λ (n : ℕ). le32 n ++ (body ++ tag ∷ rest_of)) size ∙ ap (λ (x : List ℕ). le32 (length elements + 5) ++ x) (sym grouped)

  pub closes_to : (new : List ℕ) (result : Result (Unit {0}) Error) → HasNo00 key → IsPlainRaw v → Closes (take 4 old) (body_of old) rest_of (tag_byte (raw_kind v)) new result → AppendsElement old new key v result
  closes_to new (Ok x) k p h =
      let size = with_element_length old key v env in
      let body = body_length old env in
      (record { key_plain = k; value_plain = p; fits = omega (arith, h.1, size, body, rest_length) }, h.0 ∙ framed_with (tag_byte (raw_kind v)))
  closes_to new (Err e) k p h =
      let size = with_element_length old key v env in
      let body = body_length old env in
      (bare_refusal (CanTake old key v → ⊥) e h.1 (λ (c : CanTake old key v). omega (arith, h.2, c.fits, size, body, rest_length)), h.0 ∙ sym (document_parts old env))

pub envelope_kept : (old new key : List ℕ) (v : RawValue) (result : Result (Unit {0}) Error) → IsEnvelope old → AppendsElement old new key v result → IsEnvelope new
envelope_kept old new key v (Ok x) env h =
    let body : List ℕ = body_of old ++ element_bytes (element_for key v) in
    subst IsEnvelope (sym h.1) (framed_envelope body (omega (arith, (h.0).fits, framed_length body)))
envelope_kept old new key v (Err e) env h = subst IsEnvelope (sym h.1) env

-- ---- the whole call

-- the old bytes, and what was put after them
pub behind : (old mid rest : List ℕ) → IsEnvelope old → mid ≡ old ++ rest → mid ≡ take 4 old ++ ((body_of old ++ 0 ∷ []) ++ rest)
behind old mid rest env e = e ∙ ap (λ (x : List ℕ). x ++ rest) (document_parts old env) ∙ append_assoc (take 4 old) (body_of old ++ 0 ∷ []) rest

pub cut_down : (old mid new : List ℕ) (n : ℕ) → n ≡ length old → StartsWith mid old → new ≡ take n mid → new ≡ old
cut_down old mid new n len s e = e ∙ ap (λ (x : List ℕ). take n x) s.1 ∙ take_at old s.0 n (sym len)

-- the document has grown
pub grown : (old new key : List ℕ) (v : RawValue) → IsEnvelope old → CanTake old key v × (new ≡ with_element old (element_for key v)) → length old + 2 ≤ length new
grown old new key v env h = omega (arith, ap length h.1, with_element_length old key v env)

-- ---- places

pub zip_length : {A B : Type 0} (R : A → B → Type 0) (xs : List A) (ys : List B) → AllZip R xs ys → length xs ≡ length ys
zip_length R [] [] h = refl
zip_length R [] (y ∷ ys) h = absurd h
zip_length R (x ∷ xs) [] h = absurd h
zip_length R (x ∷ xs) (y ∷ ys) h = ap suc (zip_length R xs ys h.1)
