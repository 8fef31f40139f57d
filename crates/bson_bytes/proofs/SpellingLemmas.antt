-- What is written spells what was written.
use Rattle.std.proofs.Common.{◌≡◌, ℕ, suc, ◌+◌, ◌%◌, ◌^◌, ◌<◌, List, [], ◌∷◌, ◌++◌, length, drop, inl, inr, refl, sym, ap, ◌∙◌, arith, append_assoc, length-append, subst}
use Rattle.std.specs.Prelude.{IsUtf8, decimal as digits}
use Rattle.bson_base.specs.Kinds.{HasNo00, IsPlainScalar, IsCleanScalar, IsRangedScalar, IsPlain}
use Rattle.bson_base.specs.Tags.{tag_byte}
use Rattle.bson_base.specs.Value.{Scalar, value_kind, Value, scalar, array, document, scoped_code, Items, no_items, item, Members, no_members, member, EachPart, EachItem, EachMember}
use Rattle.std.proofs.lemmas.Fmt.{IsAscii-decimal, decimal_by_steps_wide}
use Rattle.std.proofs.lemmas.Str.{IsUtf8-from_ascii}
use Rattle.bson_bytes.specs.Encode.{le32, text_bytes, cstring_of, frame_of, scope_frame_of, scalar_size, value_bytes, items_bytes, members_bytes, value_size, items_size, members_size}
use Rattle.bson_bytes.specs.Spells.{SpellsValue, SpellsItems, SpellsMembers}
use Rattle.bson_bytes.proofs.LengthLemmas.{text_length, framed_length, scoped_length, items_length, members_length}
use Rattle.bson_bytes.proofs.ExtentLemmas.{number_back, text_size, framed_size, framed_envelope}
use Rattle.bson_base.proofs.PartLemmas.{each_part}
use Rattle.bson_bytes.proofs.ScalarLemmas.{IsTold, scalar_sized, scalar_faultless, scalar_held, text_back, pointer_back}
use Rattle.bson_frame.specs.declared.error.ErrorKind.{ErrorKind}
use Rattle.bson_frame.specs.declared.error.ErrorKind.TheVariants.{MalformedValue, Utf8EncodingError, OutOfMemory}
use Rattle.bson_frame.specs.Frame.{number, HasSize, IsCodeSize, IsTextSize, IsCstring}
use Rattle.bson_frame.specs.Payload.{text_in, code_in, scope_in, IsEnvelope, CodeFault}
use Rattle.bson_bytes.proofs.OptionsLemmas.{no_zero_both}

abbrev pub IsCleanPart : Scalar → Type 0
IsCleanPart s = IsPlainScalar s × IsCleanScalar s

told : (s : Scalar) → IsCleanPart s → IsRangedScalar s → scalar_size s < 2 ^ 31 → IsTold s
told s clean ranged small = record { plain = clean.0; clean = clean.1; ranged = ranged; small = small }

-- ---- a code with its scope

scoped_sized : (t b rest : List ℕ) → length t + length b + 14 < 2 ^ 31 → IsCodeSize (scope_frame_of t (frame_of b) ++ rest) (length (scope_frame_of t (frame_of b)))
unfolding scope_frame_of
scoped_sized t b rest h =
    let inside : length (text_bytes t ++ frame_of b) ≡ length t + length b + 10 = simp (length-append, text_length, framed_length) (omega arith) in
    let l : length (scope_frame_of t (frame_of b)) ≡ length t + length b + 14 = omega (arith, scoped_length t (frame_of b), framed_length b) in
    let n : number (scope_frame_of t (frame_of b) ++ rest) ≡ length (text_bytes t ++ frame_of b) + 4 = ap number (append_assoc (le32 (length (text_bytes t ++ frame_of b) + 4)) (text_bytes t ++ frame_of b) rest) ∙ number_back (length (text_bytes t ++ frame_of b) + 4) _ (omega (arith, h, inside)) in
    record {
      declared = omega (arith, l, n, inside);
      fits = omega (arith, n, inside, h);
      there = omega (arith, l, length-append (scope_frame_of t (frame_of b)) rest);
    }

pub code_back : (t scope : List ℕ) → code_in (scope_frame_of t scope) ≡ text_bytes t ++ scope
unfolding scope_frame_of le32
code_back t scope = refl

pub scope_back : (t scope : List ℕ) → length t + 5 < 2 ^ 31 → scope_in (scope_frame_of t scope) ≡ scope
scope_back t scope h = ap (λ (x : List ℕ). drop (number x + 4) x) (code_back t scope) ∙ sym (pointer_back t scope h)

scoped_faultless : (t b : List ℕ) → length t + length b + 14 < 2 ^ 31 → IsUtf8 t → (kind : ErrorKind) → CodeFault (scope_frame_of t (frame_of b)) kind → ⊥
scoped_faultless t b h utf MalformedValue (inl short) = omega (arith, short, scoped_length t (frame_of b), framed_length b)
scoped_faultless t b h utf MalformedValue (inr (inl never)) =
    let c = code_back t (frame_of b) in
    let s = subst (λ (x : List ℕ). IsTextSize x (length (text_bytes t))) (sym c) (text_size t (frame_of b) (omega (arith, h))) in
    never (length (text_bytes t)) s (omega (arith, ap length c, length-append (text_bytes t) (frame_of b)))
scoped_faultless t b h utf MalformedValue (inr (inr loose)) = loose.2 (subst IsEnvelope (sym (scope_back t (frame_of b) (omega (arith, h)))) (framed_envelope b (omega (arith, h))))
scoped_faultless t b h utf Utf8EncodingError fault = fault.1.1 (subst IsUtf8 (sym (ap text_in (code_back t (frame_of b)) ∙ text_back t (frame_of b) (omega (arith, h)))) utf)
scoped_faultless t b h utf OutOfMemory fault = fault

-- ---- keys of arrays

no_zero_digits : (i : ℕ) → i < 10 ^ 64 → HasNo00 (digits i)
no_zero_digits i h = decimal_by_steps_wide (λ n ds. HasNo00 ds) (λ n small. (omega arith, tt)) (λ n ds more d. no_zero_both ds ((48 + n % 10) ∷ []) d (omega arith, tt)) i h

pub digits_name : (i : ℕ) → i < 2 ^ 63 → IsCstring (digits i)
digits_name i h = record { no_zero = no_zero_digits i (omega (arith, h)); text = IsUtf8-from_ascii (digits i) (IsAscii-decimal i (omega (arith, h))) }

-- ---- elements

pub element_parts : (tag : ℕ) (key payload more : List ℕ) → (tag ∷ (cstring_of key ++ (payload ++ more))) ++ 0 ∷ [] ≡ tag ∷ (key ++ 0 ∷ (payload ++ (more ++ 0 ∷ [])))
unfolding cstring_of
element_parts tag key payload more = simp append_assoc

pub framed_inside : (b : List ℕ) → drop 4 (frame_of b) ≡ b ++ 0 ∷ []
unfolding frame_of le32
framed_inside b = refl

pub value_sized : (v : Value) (rest : List ℕ) → IsPlain v → EachPart IsUtf8 IsRangedScalar v → value_size v < 2 ^ 31 → HasSize (value_kind v) (value_bytes v ++ rest) (length (value_bytes v))
value_sized (scalar s) rest plain ranged h = scalar_sized s rest plain ranged h
value_sized (array vs) rest plain ranged h = framed_size (items_bytes 0 vs) rest (omega (arith, h, items_length 0 vs))
value_sized (document ms) rest plain ranged h = framed_size (members_bytes ms) rest (omega (arith, h, members_length ms))
value_sized (scoped_code t ms) rest plain ranged h = scoped_sized t (members_bytes ms) rest (omega (arith, h, members_length ms))

-- what is clean is plain
pub plain_value : (v : Value) → EachPart HasNo00 IsCleanPart v → IsPlain v
plain_value v clean = each_part HasNo00 HasNo00 IsCleanPart IsPlainScalar (λ k h. h) (λ s h. h.0) v clean

mutual
  pub spelled_value : (v : Value) → EachPart HasNo00 IsCleanPart v → EachPart IsUtf8 IsRangedScalar v → value_size v < 2 ^ 31 → SpellsValue (value_bytes v) v
  spelled_value (scalar s) clean ranged h = (scalar_faultless s (told s clean ranged h), scalar_held s (told s clean ranged h))
  spelled_value (array vs) clean ranged h = subst (λ (x : List ℕ). SpellsItems x vs) (sym (framed_inside (items_bytes 0 vs))) (spelled_items 0 vs clean ranged (omega (arith, h)) (omega (arith, h)))
  spelled_value (document ms) clean ranged h = subst (λ (x : List ℕ). SpellsMembers x ms) (sym (framed_inside (members_bytes ms))) (spelled_members ms clean ranged (omega (arith, h)))
  spelled_value (scoped_code t ms) clean ranged h = (
    scoped_faultless t (members_bytes ms) (omega (arith, h, members_length ms)) ranged.0,
    sym (ap text_in (code_back t (frame_of (members_bytes ms))) ∙ text_back t (frame_of (members_bytes ms)) (omega (arith, h))),
    subst (λ (x : List ℕ). SpellsMembers x ms) (sym (ap (drop 4) (scope_back t (frame_of (members_bytes ms)) (omega (arith, h))) ∙ framed_inside (members_bytes ms))) (spelled_members ms clean.1 ranged.1 (omega (arith, h))),
  )

  pub spelled_items : (i : ℕ) (vs : Items) → EachItem HasNo00 IsCleanPart vs → EachItem IsUtf8 IsRangedScalar vs → items_size i vs < 2 ^ 31 → i + items_size i vs < 2 ^ 32 → SpellsItems (items_bytes i vs ++ 0 ∷ []) vs
  spelled_items i no_items clean ranged h small = refl
  spelled_items i (item v vs) clean ranged h small = (
    record { tag = value_kind v; key = digits i; payload = value_bytes v },
    items_bytes (suc i) vs ++ 0 ∷ [],
    record {
      parts = element_parts (tag_byte (value_kind v)) (digits i) (value_bytes v) (items_bytes (suc i) vs);
      key_name = digits_name i (omega (arith, small));
      size = value_sized v (items_bytes (suc i) vs ++ 0 ∷ []) (plain_value v clean.0) ranged.0 (omega (arith, h));
    },
    refl,
    spelled_value v clean.0 ranged.0 (omega (arith, h)),
    spelled_items (suc i) vs clean.1 ranged.1 (omega (arith, h)) (omega (arith, small)),
  )

  pub spelled_members : (ms : Members) → EachMember HasNo00 IsCleanPart ms → EachMember IsUtf8 IsRangedScalar ms → members_size ms < 2 ^ 31 → SpellsMembers (members_bytes ms ++ 0 ∷ []) ms
  spelled_members no_members clean ranged h = refl
  spelled_members (member k v ms) clean ranged h = (
    record { tag = value_kind v; key = k; payload = value_bytes v },
    members_bytes ms ++ 0 ∷ [],
    record {
      parts = element_parts (tag_byte (value_kind v)) k (value_bytes v) (members_bytes ms);
      key_name = record { no_zero = clean.0; text = ranged.0 };
      size = value_sized v (members_bytes ms ++ 0 ∷ []) (plain_value v clean.1) ranged.1 (omega (arith, h));
    },
    refl,
    refl,
    spelled_value v clean.1 ranged.1 (omega (arith, h)),
    spelled_members ms clean.2 ranged.2 (omega (arith, h)),
  )
