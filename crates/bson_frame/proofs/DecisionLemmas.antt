-- Bytes begin with a frame, or something is wrong with them: there is no third case.
use Rattle.std.proofs.Common.{◌≡◌, ◌≢◌, ℕ, zero, suc, ◌+◌, ◌-◌, ◌<◌, ◌≤◌, ◌^◌, Bool, true, false, cond, eqb, List, [], ◌∷◌, ◌++◌, length, take, drop, get_or, Option, Some, None, ◌⊎◌, inl, inr, refl, sym, ap, ◌∙◌, subst, arith}
use Rattle.std.specs.Prelude.{IsUtf8}
use Rattle.std.specs.Str.{is_utf8}
use Rattle.std.proofs.lemmas.Bool.{cases_lt, false≢true}
use Rattle.std.proofs.lemmas.Bool.Decides.{eqb_tells}
use Rattle.std.proofs.lemmas.Str.{IsUtf8-from_is_utf8, is_utf8-from_IsUtf8}
use Rattle.std.proofs.lemmas.List.{length-append, length-take-le, take-append-drop}
use Rattle.bson_base.specs.declared.spec.ElementType.{ElementType}
use Rattle.bson_base.specs.declared.spec.ElementType.TheVariants as kinds
use Rattle.bson_base.specs.Tags.{tag_byte}
use Rattle.bson_base.specs.Kinds.{HasNo00}
use Rattle.bson_frame.specs.declared.error.ErrorKind.{ErrorKind}
use Rattle.bson_frame.specs.declared.error.ErrorKind.TheVariants.{MalformedValue, Utf8EncodingError, OutOfMemory}
use Rattle.bson_frame.specs.Frame.{number, IsCstring, IsTextSize, IsDocumentSize, IsBinarySize, IsCodeSize, IsPointerSize, IsRegexSize, HasSize, Element, IsFirstFrame, IsStructuralFault}
use Rattle.bson_frame.specs.Reader.{NameFault, IsNeverWhole, RegexFault, SizeFault}
use Rattle.bson_frame.proofs.NameLemmas.{no_pattern, no_options}
use Rattle.bson_frame.proofs.FrameLemmas.{nothing, no_key, unknown_tag, no_size}
use Rattle.bson_frame.proofs.TagLemmas.{kind_of, kind_of-tag_byte}

-- ---- names

pub utf8_by_test : (bytes : List ℕ) (b : Bool) → is_utf8 bytes ≡ b → IsUtf8 bytes ⊎ (IsUtf8 bytes → ⊥)
utf8_by_test bytes true e = inl (IsUtf8-from_is_utf8 bytes e)
utf8_by_test bytes false e = inr (λ u. absurd (false≢true (sym e ∙ is_utf8-from_IsUtf8 bytes u)))

pub record RunAt (bytes : List ℕ) : Type 0 where
  pub run : List ℕ
  pub rest : List ℕ
  pub parts : bytes ≡ run ++ 0 ∷ rest
  pub no_zero : HasNo00 run

pub record NameAt (bytes : List ℕ) : Type 0 where
  pub name : List ℕ
  pub rest : List ℕ
  pub parts : bytes ≡ name ++ 0 ∷ rest
  pub is_name : IsCstring name

run_behind : (b : ℕ) (bytes : List ℕ) → RunAt bytes ⊎ HasNo00 bytes → RunAt (suc b ∷ bytes) ⊎ HasNo00 (suc b ∷ bytes)
run_behind b bytes (inl r) = inl (record { run = suc b ∷ r.run; rest = r.rest; parts = ap (λ (x : List ℕ). suc b ∷ x) r.parts; no_zero = (omega arith, r.no_zero) })
run_behind b bytes (inr h) = inr (omega arith, h)

run_or_none : (bytes : List ℕ) → RunAt bytes ⊎ HasNo00 bytes
run_or_none [] = inr tt
run_or_none (zero ∷ bytes) = inl (record { run = []; rest = bytes; parts = refl; no_zero = tt })
run_or_none (suc b ∷ bytes) = run_behind b bytes (run_or_none bytes)

name_of_run : (bytes : List ℕ) (r : RunAt bytes) → IsUtf8 r.run ⊎ (IsUtf8 r.run → ⊥) → NameAt bytes ⊎ ((kind : ErrorKind) × NameFault bytes kind)
name_of_run bytes r (inl text) = inl (record { name = r.run; rest = r.rest; parts = r.parts; is_name = record { no_zero = r.no_zero; text = text } })
name_of_run bytes r (inr no_text) = inr (Utf8EncodingError, (r.run, r.rest, r.parts, r.no_zero, no_text))

name_by_run : (bytes : List ℕ) → RunAt bytes ⊎ HasNo00 bytes → NameAt bytes ⊎ ((kind : ErrorKind) × NameFault bytes kind)
name_by_run bytes (inl r) = name_of_run bytes r (utf8_by_test r.run (is_utf8 r.run) refl)
name_by_run bytes (inr h) = inr (MalformedValue, h)

name_or_fault : (bytes : List ℕ) → NameAt bytes ⊎ ((kind : ErrorKind) × NameFault bytes kind)
name_or_fault bytes = name_by_run bytes (run_or_none bytes)

-- ---- sizes

abbrev pub WholeOrNever : (List ℕ → ℕ → Type 0) → List ℕ → Type 0
WholeOrNever Size bytes = ((size : ℕ) × Size bytes size × (size ≤ length bytes)) ⊎ IsNeverWhole Size bytes

fixed : (n : ℕ) (bytes : List ℕ) → WholeOrNever (λ _ size. size ≡ n) bytes
fixed n bytes = elim (cases_lt (length bytes) n) [ inl short ↦ inr (λ size is le. absurd (omega (arith, short, is, le))) | inr room ↦ inl (n, refl, room) ]

ended_text : (bytes : List ℕ) → number bytes < 2 ^ 31 → 1 ≤ number bytes → number bytes + 4 ≤ length bytes → WholeOrNever IsTextSize bytes
ended_text bytes fits some room = elim (eqb_tells (get_or bytes (number bytes + 3) 0) 0) [
  | inl same ↦ inl (number bytes + 4, record { declared = refl; fits = fits; some = some; ended = ap (λ (k : ℕ). get_or bytes k 0) (let e : number bytes + 4 - 1 ≡ number bytes + 3 = omega arith in e) ∙ same.1 }, room)
  | inr other ↦ inr (λ size s le. absurd (other.1 (ap (λ (k : ℕ). get_or bytes k 0) (let e : number bytes + 3 ≡ size - 1 = omega (arith, s.declared) in e) ∙ s.ended)))
]

pub text_or_never : (bytes : List ℕ) → WholeOrNever IsTextSize bytes
text_or_never bytes = elim (cases_lt (number bytes) (2 ^ 31)) [
  | inr big ↦ inr (λ size s le. absurd (omega (arith, big, s.fits)))
  | inl fits ↦ elim (cases_lt (number bytes) 1) [
    | inl none ↦ inr (λ size s le. absurd (omega (arith, none, s.some)))
    | inr some ↦ elim (cases_lt (length bytes) (number bytes + 4)) [
      | inl short ↦ inr (λ size s le. absurd (omega (arith, short, s.declared, le)))
      | inr room ↦ ended_text bytes fits some room
    ]
  ]
]

ended_document : (bytes : List ℕ) → number bytes < 2 ^ 31 → 5 ≤ number bytes → number bytes ≤ length bytes → WholeOrNever IsDocumentSize bytes
ended_document bytes fits some room = elim (eqb_tells (get_or bytes (number bytes - 1) 0) 0) [
  | inl same ↦ inl (number bytes, record { declared = refl; fits = fits; some = some; ended = same.1 }, room)
  | inr other ↦ inr (λ size s le. absurd (other.1 (ap (λ (k : ℕ). get_or bytes (k - 1) 0) (sym s.declared) ∙ s.ended)))
]

document_or_never : (bytes : List ℕ) → WholeOrNever IsDocumentSize bytes
document_or_never bytes = elim (cases_lt (number bytes) (2 ^ 31)) [
  | inr big ↦ inr (λ size s le. absurd (omega (arith, big, s.fits)))
  | inl fits ↦ elim (cases_lt (number bytes) 5) [
    | inl none ↦ inr (λ size s le. absurd (omega (arith, none, s.declared, s.some)))
    | inr some ↦ elim (cases_lt (length bytes) (number bytes)) [
      | inl short ↦ inr (λ size s le. absurd (omega (arith, short, s.declared, le)))
      | inr room ↦ ended_document bytes fits some room
    ]
  ]
]

binary_or_never : (bytes : List ℕ) → WholeOrNever IsBinarySize bytes
binary_or_never bytes = elim (cases_lt (number bytes) (2 ^ 31)) [
  | inr big ↦ inr (λ size s le. absurd (omega (arith, big, s.fits)))
  | inl fits ↦ elim (cases_lt (length bytes) (number bytes + 5)) [
    | inl short ↦ inr (λ size s le. absurd (omega (arith, short, s.declared, le)))
    | inr room ↦ inl (number bytes + 5, record { declared = refl; fits = fits }, room)
  ]
]

code_or_never : (bytes : List ℕ) → WholeOrNever IsCodeSize bytes
code_or_never bytes = elim (cases_lt (number bytes) (2 ^ 31)) [
  | inr big ↦ inr (λ size s le. absurd (omega (arith, big, s.fits)))
  | inl fits ↦ elim (cases_lt (length bytes) 4) [
    | inl none ↦ inr (λ size s le. absurd (omega (arith, none, s.there)))
    | inr there ↦ elim (cases_lt (length bytes) (number bytes)) [
      | inl short ↦ inr (λ size s le. absurd (omega (arith, short, s.declared, le)))
      | inr room ↦ inl (number bytes, record { declared = refl; fits = fits; there = there }, room)
    ]
  ]
]

pointer_of_text : (bytes : List ℕ) → WholeOrNever IsTextSize bytes → WholeOrNever IsPointerSize bytes
pointer_of_text bytes (inl t) = elim (cases_lt (length bytes) (t.0 + 12)) [
  | inl short ↦ inr (λ size s le. absurd (omega (arith, short, s.room, s.text.declared, t.1.declared, le)))
  | inr room ↦ inl (t.0 + 12, record { room = omega arith; text = subst (λ (k : ℕ). IsTextSize bytes k) (let e : t.0 ≡ t.0 + 12 - 12 = omega arith in e) t.1 }, room)
]
pointer_of_text bytes (inr never) = inr (λ size s le. never (size - 12) s.text (omega (arith, le)))

-- ---- the size of a payload, or why there is none

abbrev pub SizeOrFault : ElementType → List ℕ → Type 0
SizeOrFault tag bytes = ((size : ℕ) × HasSize tag bytes size × (size ≤ length bytes)) ⊎ ((kind : ErrorKind) × IsNeverWhole (HasSize tag) bytes × SizeFault tag bytes kind)

malformed : (tag : ElementType) (bytes : List ℕ) → tag ≢ kinds.RegularExpression → WholeOrNever (HasSize tag) bytes → SizeOrFault tag bytes
malformed tag bytes other (inl whole) = inl whole
malformed tag bytes other (inr never) = inr (MalformedValue, never, λ is no_text. other is)

regex_fault : (bytes : List ℕ) (kind : ErrorKind) → IsNeverWhole IsRegexSize bytes → RegexFault bytes kind → SizeOrFault kinds.RegularExpression bytes
regex_fault bytes MalformedValue never f = inr (MalformedValue, never, λ is no_text. f no_text)
regex_fault bytes Utf8EncodingError never f = inr (Utf8EncodingError, never, (refl, f))
regex_fault bytes OutOfMemory never f = absurd f

regex_by_options : (bytes : List ℕ) (p : NameAt bytes) → NameAt p.rest ⊎ ((kind : ErrorKind) × NameFault p.rest kind) → SizeOrFault kinds.RegularExpression bytes
regex_by_options bytes p (inl o) =
    let whole : bytes ≡ p.name ++ 0 ∷ (o.name ++ 0 ∷ o.rest) = p.parts ∙ ap (λ (x : List ℕ). p.name ++ 0 ∷ x) o.parts in
    inl (
      length p.name + length o.name + 2,
      record { pattern = p.name; options = o.name; rest = o.rest; parts = whole; pattern_name = p.is_name; options_name = o.is_name; declared = refl },
      omega (arith, ap length whole, length-append p.name (0 ∷ (o.name ++ 0 ∷ o.rest)), length-append o.name (0 ∷ o.rest)),
    )
regex_by_options bytes p (inr f) =
    let why = no_options bytes p.name p.rest f.0 p.is_name p.parts f.1 in
    regex_fault bytes f.0 why.0 why.1

regex_by_pattern : (bytes : List ℕ) → NameAt bytes ⊎ ((kind : ErrorKind) × NameFault bytes kind) → SizeOrFault kinds.RegularExpression bytes
regex_by_pattern bytes (inl p) = regex_by_options bytes p (name_or_fault p.rest)
regex_by_pattern bytes (inr f) =
    let why = no_pattern bytes f.0 f.1 in
    regex_fault bytes f.0 why.0 why.1

size_or_fault : (tag : ElementType) (bytes : List ℕ) → SizeOrFault tag bytes
size_or_fault kinds.Double bytes = malformed kinds.Double bytes (λ e. absurd cc) (fixed 8 bytes)
size_or_fault kinds.String bytes = malformed kinds.String bytes (λ e. absurd cc) (text_or_never bytes)
size_or_fault kinds.EmbeddedDocument bytes = malformed kinds.EmbeddedDocument bytes (λ e. absurd cc) (document_or_never bytes)
size_or_fault kinds.Array bytes = malformed kinds.Array bytes (λ e. absurd cc) (document_or_never bytes)
size_or_fault kinds.Binary bytes = malformed kinds.Binary bytes (λ e. absurd cc) (binary_or_never bytes)
size_or_fault kinds.Undefined bytes = malformed kinds.Undefined bytes (λ e. absurd cc) (fixed 0 bytes)
size_or_fault kinds.ObjectId bytes = malformed kinds.ObjectId bytes (λ e. absurd cc) (fixed 12 bytes)
size_or_fault kinds.Boolean bytes = malformed kinds.Boolean bytes (λ e. absurd cc) (fixed 1 bytes)
size_or_fault kinds.DateTime bytes = malformed kinds.DateTime bytes (λ e. absurd cc) (fixed 8 bytes)
size_or_fault kinds.Null bytes = malformed kinds.Null bytes (λ e. absurd cc) (fixed 0 bytes)
size_or_fault kinds.RegularExpression bytes = regex_by_pattern bytes (name_or_fault bytes)
size_or_fault kinds.DbPointer bytes = malformed kinds.DbPointer bytes (λ e. absurd cc) (pointer_of_text bytes (text_or_never bytes))
size_or_fault kinds.JavaScriptCode bytes = malformed kinds.JavaScriptCode bytes (λ e. absurd cc) (text_or_never bytes)
size_or_fault kinds.Symbol bytes = malformed kinds.Symbol bytes (λ e. absurd cc) (text_or_never bytes)
size_or_fault kinds.JavaScriptCodeWithScope bytes = malformed kinds.JavaScriptCodeWithScope bytes (λ e. absurd cc) (code_or_never bytes)
size_or_fault kinds.Int32 bytes = malformed kinds.Int32 bytes (λ e. absurd cc) (fixed 4 bytes)
size_or_fault kinds.Timestamp bytes = malformed kinds.Timestamp bytes (λ e. absurd cc) (fixed 8 bytes)
size_or_fault kinds.Int64 bytes = malformed kinds.Int64 bytes (λ e. absurd cc) (fixed 8 bytes)
size_or_fault kinds.Decimal128 bytes = malformed kinds.Decimal128 bytes (λ e. absurd cc) (fixed 16 bytes)
size_or_fault kinds.MaxKey bytes = malformed kinds.MaxKey bytes (λ e. absurd cc) (fixed 0 bytes)
size_or_fault kinds.MinKey bytes = malformed kinds.MinKey bytes (λ e. absurd cc) (fixed 0 bytes)

-- ---- tags

-- one line of the table of tags, before the lines below it
line : (b : ℕ) (k : ElementType) (below : Option ElementType) → ((j : ElementType) → below ≡ Some j → tag_byte j ≡ b) → (j : ElementType) → cond (eqb b (tag_byte k)) (Some k) below ≡ Some j → tag_byte j ≡ b
line b k below others j e = elim (eqb_tells b (tag_byte k)) [
  | inl same ↦ (let taken : Some k ≡ Some j = sym (ap (λ (t : Bool). cond t (Some k) below) same.0) ∙ e in
      let is : k ≡ j = cc in
      sym (same.1 ∙ ap tag_byte is))
  | inr other ↦ others j (sym (ap (λ (t : Bool). cond t (Some k) below) other.0) ∙ e)
]

byte_of_kind : (b : ℕ) (j : ElementType) → kind_of b ≡ Some j → tag_byte j ≡ b
unfolding kind_of
byte_of_kind b =
    line b kinds.Double _ (line b kinds.String _ (line b kinds.EmbeddedDocument _ (line b kinds.Array _ (line b kinds.Binary _ (line b kinds.Undefined _ (line b kinds.ObjectId _
    (line b kinds.Boolean _ (line b kinds.DateTime _ (line b kinds.Null _ (line b kinds.RegularExpression _ (line b kinds.DbPointer _ (line b kinds.JavaScriptCode _ (line b kinds.Symbol _
    (line b kinds.JavaScriptCodeWithScope _ (line b kinds.Int32 _ (line b kinds.Timestamp _ (line b kinds.Int64 _ (line b kinds.Decimal128 _ (line b kinds.MaxKey _ (line b kinds.MinKey None
    (λ j e. absurd cc)))))))))))))))))))))

kind_by_table : (b : ℕ) (r : Option ElementType) → kind_of b ≡ r → ((k : ElementType) × (tag_byte k ≡ b)) ⊎ ((k : ElementType) → tag_byte k ≢ b)
kind_by_table b (Some k) e = inl (k, byte_of_kind b k e)
kind_by_table b None e = inr (λ k is. let bad : Some k ≡ None = sym (kind_of-tag_byte k) ∙ ap kind_of is ∙ e in absurd cc)

-- ---- frames

abbrev pub FrameOrFault : List ℕ → Type 0
FrameOrFault bytes = ((e : Element) × (rest : List ℕ) × IsFirstFrame bytes e rest) ⊎ ((kind : ErrorKind) × IsStructuralFault bytes kind)

frame_by_size : (b : ℕ) (after : List ℕ) (n : NameAt after) (tag : ElementType) → tag_byte tag ≡ b → SizeOrFault tag n.rest → FrameOrFault (b ∷ after)
frame_by_size b after n tag t (inl sized) =
    let payload : List ℕ = take sized.0 n.rest in
    let rest : List ℕ = drop sized.0 n.rest in
    let whole : payload ++ rest ≡ n.rest = take-append-drop sized.0 n.rest in
    let len : length payload ≡ sized.0 = length-take-le sized.0 n.rest sized.2 in
    inl (
      record { tag = tag; key = n.name; payload = payload },
      rest,
      record {
        parts = ap (λ (x : ℕ). x ∷ after) (sym t) ∙ ap (λ (x : List ℕ). tag_byte tag ∷ x) (n.parts ∙ ap (λ (x : List ℕ). n.name ++ 0 ∷ x) (sym whole));
        key_name = n.is_name;
        size = subst (λ (k : ℕ). HasSize tag (payload ++ rest) k) (sym len) (subst (λ (x : List ℕ). HasSize tag x sized.0) (sym whole) sized.1);
      },
    )
frame_by_size b after n tag t (inr f) = inr (f.0, no_size b after n.name n.rest tag n.is_name n.parts t f.0 f.1 f.2)

frame_by_kind : (b : ℕ) (after : List ℕ) (n : NameAt after) → ((k : ElementType) × (tag_byte k ≡ b)) ⊎ ((k : ElementType) → tag_byte k ≢ b) → FrameOrFault (b ∷ after)
frame_by_kind b after n (inl k) = frame_by_size b after n k.0 k.1 (size_or_fault k.0 n.rest)
frame_by_kind b after n (inr none) = inr (MalformedValue, unknown_tag b after n.name n.rest n.is_name n.parts none)

frame_by_name : (b : ℕ) (after : List ℕ) → NameAt after ⊎ ((kind : ErrorKind) × NameFault after kind) → FrameOrFault (b ∷ after)
frame_by_name b after (inl n) = frame_by_kind b after n (kind_by_table b (kind_of b) refl)
frame_by_name b after (inr f) = inr (f.0, no_key b after f.0 f.1)

pub frame_or_fault : (bytes : List ℕ) → FrameOrFault bytes
frame_or_fault [] = inr (MalformedValue, nothing)
frame_or_fault (b ∷ after) = frame_by_name b after (name_or_fault after)
