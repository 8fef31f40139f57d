-- What is written as a payload has the size of its kind, whatever follows it.
use Rattle.std.proofs.Common.{◌≡◌, ℕ, ◌+◌, ◌-◌, ◌<◌, ◌≤◌, ◌^◌, List, [], ◌∷◌, ◌++◌, length, get_or, refl, sym, ap, ◌∙◌, append_assoc, arith}
use Rattle.std.proofs.lemmas.List.{length-append, get_or_append_left, get_or_at}
use Rattle.bson_base.specs.declared.spec.ElementType.{ElementType}
use Rattle.bson_base.specs.declared.spec.ElementType.TheVariants as kinds
use Rattle.bson_base.specs.declared.spec.BinarySubtype.{BinarySubtype}
use Rattle.bson_base.specs.Tags.{subtype_byte}
use Rattle.bson_base.specs.Value.{double, string, binary, undefined, object_id, boolean, date_time, null, regex, db_pointer, code, symbol, int32, timestamp, int64, decimal, max_key, min_key}
use Rattle.bson_bytes.specs.Encode.{le32, cstring_of, text_bytes, scope_frame_of, inner, scalar_bytes}
use Rattle.bson_frame.specs.Frame.{number, HasSize, IsTextSize, IsDocumentSize, IsBinarySize, IsCodeSize, IsRegexSize, IsPointerSize, IsCstring}
use Rattle.bson_frame.specs.Payload.{IsEnvelope}
use Rattle.bson_frame.proofs.FrameLemmas.{front_is_one}
use Rattle.bson_frame.proofs.PayloadLemmas.{number_front}
use Rattle.bson_raw.specs.Raw.{RawValue, leaf, array, document, scoped_code, raw_kind, raw_payload}
use Rattle.bson_raw.specs.Written.{CanWrite, IsFormed}
use Rattle.bson_bytes.proofs.LengthLemmas.{le32_length, text_length, le64_length}
use Rattle.bson_bytes.proofs.ExtentLemmas.{number_back}

-- ---- what follows doesn't count

text_beside : (p r q : List ℕ) (n : ℕ) → n ≤ length p → IsTextSize (p ++ r) n → IsTextSize (p ++ q) n
text_beside p r q n le h =
    let e = number_front p r (omega (arith, h.declared)) in
    let d = number_front p q (omega (arith, h.declared)) in
    record {
      declared = omega (arith, h.declared, e, d);
      fits = omega (arith, h.fits, e, d);
      some = omega (arith, h.some, e, d);
      ended = get_or_append_left p q 0 (n - 1) (omega (arith, h.declared)) ∙ sym (get_or_append_left p r 0 (n - 1) (omega (arith, h.declared))) ∙ h.ended;
    }

document_beside : (p r q : List ℕ) → IsDocumentSize (p ++ r) (length p) → IsDocumentSize (p ++ q) (length p)
document_beside p r q h =
    let e = number_front p r (omega (arith, h.some)) in
    let d = number_front p q (omega (arith, h.some)) in
    record {
      declared = omega (arith, h.declared, e, d);
      fits = omega (arith, h.fits, e, d);
      some = h.some;
      ended = get_or_append_left p q 0 (length p - 1) (omega (arith, h.some)) ∙ sym (get_or_append_left p r 0 (length p - 1) (omega (arith, h.some))) ∙ h.ended;
    }

binary_beside : (p r q : List ℕ) → IsBinarySize (p ++ r) (length p) → IsBinarySize (p ++ q) (length p)
binary_beside p r q h =
    let e = number_front p r (omega (arith, h.declared)) in
    let d = number_front p q (omega (arith, h.declared)) in
    record { declared = omega (arith, h.declared, e, d); fits = omega (arith, h.fits, e, d) }

code_beside : (p r q : List ℕ) → 4 ≤ length p → IsCodeSize (p ++ r) (length p) → IsCodeSize (p ++ q) (length p)
code_beside p r q long h =
    let e = number_front p r long in
    let d = number_front p q long in
    record { declared = omega (arith, h.declared, e, d); fits = omega (arith, h.fits, e, d); there = omega (arith, length-append p q) }

regex_beside : (p r q : List ℕ) → IsRegexSize (p ++ r) (length p) → IsRegexSize (p ++ q) (length p)
regex_beside p r q h =
    let whole = h.pattern ++ 0 ∷ (h.options ++ 0 ∷ []) in
    let len : length p ≡ length whole = omega (arith, h.declared, length-append h.pattern (0 ∷ (h.options ++ 0 ∷ [])), length-append h.options (0 ∷ [])) in
    let grouped : whole ++ h.rest ≡ h.pattern ++ 0 ∷ (h.options ++ 0 ∷ h.rest) = simp append_assoc in
    let e = front_is_one p whole r h.rest len (h.parts ∙ sym grouped) in
    let again : whole ++ q ≡ h.pattern ++ 0 ∷ (h.options ++ 0 ∷ q) = simp append_assoc in
    record { pattern = h.pattern; options = h.options; rest = q; parts = ap (λ (x : List ℕ). x ++ q) e.0 ∙ again; pattern_name = h.pattern_name; options_name = h.options_name; declared = h.declared }

pub size_beside : (k : ElementType) (p r q : List ℕ) → (k ≡ kinds.JavaScriptCodeWithScope → 4 ≤ length p) → HasSize k (p ++ r) (length p) → HasSize k (p ++ q) (length p)
size_beside kinds.Double p r q l h = h
size_beside kinds.String p r q l h = text_beside p r q (length p) (omega arith) h
size_beside kinds.EmbeddedDocument p r q l h = document_beside p r q h
size_beside kinds.Array p r q l h = document_beside p r q h
size_beside kinds.Binary p r q l h = binary_beside p r q h
size_beside kinds.Undefined p r q l h = h
size_beside kinds.ObjectId p r q l h = h
size_beside kinds.Boolean p r q l h = h
size_beside kinds.DateTime p r q l h = h
size_beside kinds.Null p r q l h = h
size_beside kinds.RegularExpression p r q l h = regex_beside p r q h
size_beside kinds.DbPointer p r q l h = record { room = h.room; text = text_beside p r q (length p - 12) (omega arith) h.text }
size_beside kinds.JavaScriptCode p r q l h = text_beside p r q (length p) (omega arith) h
size_beside kinds.Symbol p r q l h = text_beside p r q (length p) (omega arith) h
size_beside kinds.JavaScriptCodeWithScope p r q l h = code_beside p r q (l refl) h
size_beside kinds.Int32 p r q l h = h
size_beside kinds.Timestamp p r q l h = h
size_beside kinds.Int64 p r q l h = h
size_beside kinds.Decimal128 p r q l h = h
size_beside kinds.MaxKey p r q l h = h
size_beside kinds.MinKey p r q l h = h

-- ---- what is written

text_sized : (t more : List ℕ) → length t + 5 < 2 ^ 31 → IsTextSize (text_bytes t ++ more) (length t + 5)
unfolding text_bytes
text_sized t more lt =
    let head : List ℕ = le32 (length t + 1) in
    let grouped : (head ++ (t ++ 0 ∷ [])) ++ more ≡ head ++ ((t ++ 0 ∷ []) ++ more) = append_assoc head (t ++ 0 ∷ []) more in
    let n : number ((head ++ (t ++ 0 ∷ [])) ++ more) ≡ length t + 1 = ap number grouped ∙ number_back (length t + 1) ((t ++ 0 ∷ []) ++ more) (omega arith) in
    let other : (head ++ (t ++ 0 ∷ [])) ++ more ≡ (head ++ t) ++ 0 ∷ more = simp append_assoc in
    let last : get_or ((head ++ t) ++ 0 ∷ more) (length t + 5 - 1) 0 ≡ 0 = get_or_at (head ++ t) 0 more 0 (length t + 5 - 1) (omega (arith, length-append head t, le32_length (length t + 1))) in
    record {
      declared = omega (arith, n);
      fits = omega (arith, n);
      some = omega (arith, n);
      ended = ap (λ (x : List ℕ). get_or x (length t + 5 - 1) 0) other ∙ last;
    }

text_whole : (t : List ℕ) → length (text_bytes t) < 2 ^ 31 → IsTextSize (text_bytes t ++ 0 ∷ []) (length (text_bytes t))
text_whole t lt = rw (text_length t) (text_sized t (0 ∷ []) (omega (arith, text_length t)))

pointer_whole : (t bs : List ℕ) → length bs ≡ 12 → length (text_bytes t ++ bs) < 2 ^ 31 → IsPointerSize ((text_bytes t ++ bs) ++ 0 ∷ []) (length (text_bytes t ++ bs))
pointer_whole t bs twelve lt =
    let size : length (text_bytes t ++ bs) ≡ length t + 17 = omega (arith, length-append (text_bytes t) bs, text_length t) in
    let text : IsTextSize (text_bytes t ++ (bs ++ 0 ∷ [])) (length t + 5) = text_sized t (bs ++ 0 ∷ []) (omega (arith, size)) in
    let less : length (text_bytes t ++ bs) - 12 ≡ length t + 5 = omega (arith, size) in
    record { room = omega (arith, size); text = rw (append_assoc (text_bytes t) bs (0 ∷ []), less) text }

binary_whole : (s : BinarySubtype) (bs : List ℕ) → length (scalar_bytes (binary s bs)) < 2 ^ 31 → IsBinarySize (scalar_bytes (binary s bs) ++ 0 ∷ []) (length (scalar_bytes (binary s bs)))
binary_whole s bs lt =
    let i : List ℕ = inner s bs in
    let head : List ℕ = le32 (length i) in
    let size : length (head ++ subtype_byte s ∷ i) ≡ length i + 5 = omega (arith, length-append head (subtype_byte s ∷ i), le32_length (length i)) in
    let n : number ((head ++ subtype_byte s ∷ i) ++ 0 ∷ []) ≡ length i = ap number (append_assoc head (subtype_byte s ∷ i) (0 ∷ [])) ∙ number_back (length i) ((subtype_byte s ∷ i) ++ 0 ∷ []) (omega (arith, size)) in
    record { declared = omega (arith, n, size); fits = omega (arith, n, size) }

regex_whole : (p o : List ℕ) → IsCstring p → IsCstring o → IsRegexSize ((cstring_of p ++ cstring_of o) ++ 0 ∷ []) (length (cstring_of p ++ cstring_of o))
unfolding cstring_of
regex_whole p o pattern options =
    let grouped : ((p ++ 0 ∷ []) ++ (o ++ 0 ∷ [])) ++ 0 ∷ [] ≡ p ++ 0 ∷ (o ++ 0 ∷ (0 ∷ [])) = simp append_assoc in
    record {
      pattern = p;
      options = o;
      rest = 0 ∷ [];
      parts = grouped;
      pattern_name = pattern;
      options_name = options;
      declared = omega (arith, length-append (p ++ 0 ∷ []) (o ++ 0 ∷ []), length-append p (0 ∷ []), length-append o (0 ∷ []));
    }

scoped_whole : (t scope : List ℕ) → length (scope_frame_of t scope) < 2 ^ 31 → IsCodeSize (scope_frame_of t scope ++ 0 ∷ []) (length (scope_frame_of t scope))
unfolding scope_frame_of
scoped_whole t scope lt =
    let inside : List ℕ = text_bytes t ++ scope in
    let head : List ℕ = le32 (length inside + 4) in
    let size : length (head ++ inside) ≡ length inside + 4 = omega (arith, length-append head inside, le32_length (length inside + 4)) in
    let n : number ((head ++ inside) ++ 0 ∷ []) ≡ length inside + 4 = ap number (append_assoc head inside (0 ∷ [])) ∙ number_back (length inside + 4) (inside ++ 0 ∷ []) (omega (arith, size)) in
    record { declared = omega (arith, n, size); fits = omega (arith, n, size); there = omega (arith, length-append (head ++ inside) (0 ∷ []), size) }

document_whole : (bs : List ℕ) → IsEnvelope bs → IsDocumentSize (bs ++ 0 ∷ []) (length bs)
document_whole bs h =
    let d = number_front bs (0 ∷ []) (omega (arith, h.some)) in
    record {
      declared = omega (arith, h.declared, d);
      fits = omega (arith, h.fits, d);
      some = h.some;
      ended = get_or_append_left bs (0 ∷ []) 0 (length bs - 1) (omega (arith, h.some)) ∙ h.ended;
    }

pub payload_sized : (v : RawValue) → IsFormed v → CanWrite v → HasSize (raw_kind v) (raw_payload v ++ 0 ∷ []) (length (raw_payload v))
payload_sized (leaf (double n)) f w = le64_length n
payload_sized (leaf (string t)) f w = text_whole t w.1
payload_sized (leaf (binary s bs)) f w = binary_whole s bs w.1
payload_sized (leaf undefined) f w = refl
payload_sized (leaf (object_id bs)) f w = f
payload_sized (leaf (boolean b)) f w = refl
payload_sized (leaf (date_time z)) f w = le64_length _
payload_sized (leaf null) f w = refl
payload_sized (leaf (regex p o)) f w = regex_whole p o (record { no_zero = w.0.0; text = f.0 }) (record { no_zero = w.0.1; text = f.1 })
payload_sized (leaf (db_pointer t bs)) f w = pointer_whole t bs f w.1
payload_sized (leaf (code t)) f w = text_whole t w.1
payload_sized (leaf (symbol t)) f w = text_whole t w.1
payload_sized (leaf (int32 z)) f w = le32_length _
payload_sized (leaf (timestamp t i)) f w = omega (arith, length-append (le32 i) (le32 t), le32_length i, le32_length t)
payload_sized (leaf (int64 z)) f w = le64_length _
payload_sized (leaf (decimal bs)) f w = f
payload_sized (leaf max_key) f w = refl
payload_sized (leaf min_key) f w = refl
payload_sized (array bs) f w = document_whole bs f
payload_sized (document bs) f w = document_whole bs f
payload_sized (scoped_code t bs) f w = scoped_whole t bs w.1
