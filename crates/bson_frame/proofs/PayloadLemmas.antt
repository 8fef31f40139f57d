-- A payload is sized by itself, whatever follows it.
use Rattle.std.proofs.Common.{◌≡◌, ℕ, ◌-◌, ◌≤◌, List, [], ◌∷◌, ◌++◌, length, get_or, sym, ◌∙◌, append_assoc, arith}
use Rattle.std.proofs.lemmas.List.{length-append, get_or_append_left}
use Rattle.bson_base.specs.declared.spec.ElementType.{ElementType}
use Rattle.bson_base.specs.declared.spec.ElementType.TheVariants as kinds
use Rattle.bson_frame.specs.Frame.{number, HasSize, IsTextSize, IsDocumentSize, IsBinarySize, IsRegexSize, Element, IsFirstFrame}
use Rattle.bson_frame.specs.Payload.{IsPayload}
use Rattle.bson_frame.proofs.FrameLemmas.{front_is_one}

-- the first four bytes are those of the front
pub number_front : (p r : List ℕ) → 4 ≤ length p → number (p ++ r) ≡ number p
number_front p r h =
    let a : get_or (p ++ r) 0 0 ≡ get_or p 0 0 = get_or_append_left p r 0 0 (omega arith) in
    let b : get_or (p ++ r) 1 0 ≡ get_or p 1 0 = get_or_append_left p r 0 1 (omega arith) in
    let c : get_or (p ++ r) 2 0 ≡ get_or p 2 0 = get_or_append_left p r 0 2 (omega arith) in
    let d : get_or (p ++ r) 3 0 ≡ get_or p 3 0 = get_or_append_left p r 0 3 (omega arith) in
    omega (arith, a, b, c, d)

text_alone : (p r : List ℕ) (n : ℕ) → n ≤ length p → IsTextSize (p ++ r) n → IsTextSize p n
text_alone p r n le h =
    let e = number_front p r (omega (arith, h.declared)) in
    record {
      declared = omega (arith, h.declared, e);
      fits = omega (arith, h.fits, e);
      some = omega (arith, h.some, e);
      ended = sym (get_or_append_left p r 0 (n - 1) (omega (arith, h.declared))) ∙ h.ended;
    }

document_alone : (p r : List ℕ) → IsDocumentSize (p ++ r) (length p) → IsDocumentSize p (length p)
document_alone p r h =
    let e = number_front p r (omega (arith, h.some)) in
    record {
      declared = omega (arith, h.declared, e);
      fits = omega (arith, h.fits, e);
      some = h.some;
      ended = sym (get_or_append_left p r 0 (length p - 1) (omega (arith, h.some))) ∙ h.ended;
    }

binary_alone : (p r : List ℕ) → IsBinarySize (p ++ r) (length p) → IsBinarySize p (length p)
binary_alone p r h =
    let e = number_front p r (omega (arith, h.declared)) in
    record { declared = omega (arith, h.declared, e); fits = omega (arith, h.fits, e) }

regex_alone : (p r : List ℕ) → IsRegexSize (p ++ r) (length p) → IsRegexSize p (length p)
regex_alone p r h =
    let whole = h.pattern ++ 0 ∷ (h.options ++ 0 ∷ []) in
    let len : length p ≡ length whole = omega (arith, h.declared, length-append h.pattern (0 ∷ (h.options ++ 0 ∷ [])), length-append h.options (0 ∷ [])) in
    let grouped : whole ++ h.rest ≡ h.pattern ++ 0 ∷ (h.options ++ 0 ∷ h.rest) = simp append_assoc in
    let e = front_is_one p whole r h.rest len (h.parts ∙ sym grouped) in
    record { pattern = h.pattern; options = h.options; rest = []; parts = e.0; pattern_name = h.pattern_name; options_name = h.options_name; declared = h.declared }

by_itself : (k : ElementType) (p r : List ℕ) → HasSize k (p ++ r) (length p) → IsPayload k p
by_itself kinds.Double p r h = h
by_itself kinds.String p r h = text_alone p r (length p) (omega arith) h
by_itself kinds.EmbeddedDocument p r h = document_alone p r h
by_itself kinds.Array p r h = document_alone p r h
by_itself kinds.Binary p r h = binary_alone p r h
by_itself kinds.Undefined p r h = h
by_itself kinds.ObjectId p r h = h
by_itself kinds.Boolean p r h = h
by_itself kinds.DateTime p r h = h
by_itself kinds.Null p r h = h
by_itself kinds.RegularExpression p r h = regex_alone p r h
by_itself kinds.DbPointer p r h = record { room = h.room; text = text_alone p r (length p - 12) (omega (arith, h.room)) h.text }
by_itself kinds.JavaScriptCode p r h = text_alone p r (length p) (omega arith) h
by_itself kinds.Symbol p r h = text_alone p r (length p) (omega arith) h
by_itself kinds.JavaScriptCodeWithScope p r h = tt
by_itself kinds.Int32 p r h = h
by_itself kinds.Timestamp p r h = h
by_itself kinds.Int64 p r h = h
by_itself kinds.Decimal128 p r h = h
by_itself kinds.MaxKey p r h = h
by_itself kinds.MinKey p r h = h

pub payload_by_itself : (bytes : List ℕ) (e : Element) (rest : List ℕ) → IsFirstFrame bytes e rest → IsPayload e.tag e.payload
payload_by_itself bytes e rest h = by_itself e.tag e.payload rest h.size
