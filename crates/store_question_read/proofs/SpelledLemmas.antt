-- What is written spells the value, whatever the order of a regular expression's options.
use Rattle.std.proofs.Common.{◌≡◌, ℕ, suc, ◌+◌, ◌^◌, ◌<◌, List, [], ◌∷◌, ◌++◌, drop, length, inl, inr, refl, sym, ap, ◌∙◌, arith, append_assoc, length-append, subst}
use Rattle.std.specs.Prelude.{IsUtf8, decimal as digits}
use Rattle.bson_base.specs.Kinds.{HasNo00, IsPlain, IsPlainScalar, IsRangedScalar}
use Rattle.bson_base.specs.Tags.{tag_byte}
use Rattle.bson_base.specs.Value.{Scalar, binary, regex, scalar_kind, value_kind, Value, scalar, array, document, scoped_code, Items, no_items, item, Members, no_members, member, EachPart, EachItem, EachMember}
use Rattle.bson_base.proofs.PartLemmas.{each_part}
use Rattle.bson_bytes.specs.Encode.{cstring_of, encode, frame_of, scope_frame_of, scalar_bytes, scalar_size, text_bytes, value_bytes, items_bytes, members_bytes, value_size, items_size, members_size}
use Rattle.bson_bytes.specs.Spells.{HoldsScalar, SpellsValue, SpellsItems, SpellsMembers}
use Rattle.bson_bytes.proofs.ExtentLemmas.{text_size, framed_envelope}
use Rattle.bson_bytes.proofs.LengthLemmas.{framed_length, members_length, scoped_length}
use Rattle.bson_bytes.proofs.ScalarLemmas.{IsTold, scalar_faultless, scalar_held, text_back}
use Rattle.bson_bytes.proofs.SpellingLemmas.{code_back, digits_name, element_parts, framed_inside, scope_back, value_sized}
use Rattle.bson_frame.specs.declared.error.ErrorKind.{ErrorKind}
use Rattle.bson_frame.specs.declared.error.ErrorKind.TheVariants.{MalformedValue, Utf8EncodingError, OutOfMemory}
use Rattle.bson_frame.specs.Frame.{IsCstring, IsTextSize}
use Rattle.bson_frame.specs.Payload.{CodeFault, IsEnvelope, IsFaultless, text_in}
use Rattle.store_question_read.specs.Values.{ReadableScalar}

abbrev pub FitScalar : Scalar → Type 0
FitScalar s = IsPlainScalar s × ReadableScalar s

regex_back : (p o : List ℕ) → cstring_of p ++ cstring_of o ≡ p ++ 0 ∷ (o ++ 0 ∷ [])
unfolding cstring_of
regex_back p o = append_assoc p (0 ∷ []) (o ++ 0 ∷ [])

abbrev Told : Scalar → Type 0
Told s = IsFaultless (scalar_kind s) (scalar_bytes s) × HoldsScalar (scalar_bytes s) s

by_clean : (s : Scalar) → IsTold s → Told s
by_clean s h = (scalar_faultless s h, scalar_held s h)

scalar_told : (s : Scalar) → FitScalar s → IsRangedScalar s → scalar_size s < 2 ^ 31 → Told s
scalar_told (regex p o) f r h = (λ kind fault. fault, regex_back p o)
scalar_told (binary s bs) f r h = by_clean (binary s bs) (record { plain = tt; clean = f.1; ranged = r; small = h })
scalar_told s f r h = by_clean s (record { plain = f.0; clean = tt; ranged = r; small = h })

code_faultless : (t b : List ℕ) → length t + length b + 14 < 2 ^ 31 → IsUtf8 t → (kind : ErrorKind) → CodeFault (scope_frame_of t (frame_of b)) kind → ⊥
code_faultless t b h utf MalformedValue (inl short) = omega (arith, short, scoped_length t (frame_of b), framed_length b)
code_faultless t b h utf MalformedValue (inr (inl never)) =
    let c = code_back t (frame_of b) in
    let s = subst (λ (x : List ℕ). IsTextSize x (length (text_bytes t))) (sym c) (text_size t (frame_of b) (omega (arith, h))) in
    never (length (text_bytes t)) s (omega (arith, ap length c, length-append (text_bytes t) (frame_of b)))
code_faultless t b h utf MalformedValue (inr (inr loose)) = loose.2 (subst IsEnvelope (sym (scope_back t (frame_of b) (omega (arith, h)))) (framed_envelope b (omega (arith, h))))
code_faultless t b h utf Utf8EncodingError fault = fault.1.1 (subst IsUtf8 (sym (ap text_in (code_back t (frame_of b)) ∙ text_back t (frame_of b) (omega (arith, h)))) utf)
code_faultless t b h utf OutOfMemory fault = fault

plain_value : (v : Value) → EachPart HasNo00 FitScalar v → IsPlain v
plain_value v fit = each_part HasNo00 HasNo00 FitScalar IsPlainScalar (λ k h. h) (λ s h. h.0) v fit

mutual
  pub spelled_value : (v : Value) → EachPart HasNo00 FitScalar v → EachPart IsUtf8 IsRangedScalar v → value_size v < 2 ^ 31 → SpellsValue (value_bytes v) v
  spelled_value (scalar s) fit ranged h = scalar_told s fit ranged h
  spelled_value (array vs) fit ranged h = subst (λ (x : List ℕ). SpellsItems x vs) (sym (framed_inside (items_bytes 0 vs))) (spelled_items 0 vs fit ranged (omega (arith, h)) (omega (arith, h)))
  spelled_value (document ms) fit ranged h = subst (λ (x : List ℕ). SpellsMembers x ms) (sym (framed_inside (members_bytes ms))) (spelled_members ms fit ranged (omega (arith, h)))
  spelled_value (scoped_code t ms) fit ranged h = (
    code_faultless t (members_bytes ms) (omega (arith, h, members_length ms)) ranged.0,
    sym (ap text_in (code_back t (frame_of (members_bytes ms))) ∙ text_back t (frame_of (members_bytes ms)) (omega (arith, h))),
    subst (λ (x : List ℕ). SpellsMembers x ms) (sym (ap (drop 4) (scope_back t (frame_of (members_bytes ms)) (omega (arith, h))) ∙ framed_inside (members_bytes ms))) (spelled_members ms fit.1 ranged.1 (omega (arith, h))),
  )

  pub spelled_items : (i : ℕ) (vs : Items) → EachItem HasNo00 FitScalar vs → EachItem IsUtf8 IsRangedScalar vs → items_size i vs < 2 ^ 31 → i + items_size i vs < 2 ^ 32 → SpellsItems (items_bytes i vs ++ 0 ∷ []) vs
  spelled_items i no_items fit ranged h small = refl
  spelled_items i (item v vs) fit ranged h small = (
    record { tag = value_kind v; key = digits i; payload = value_bytes v },
    items_bytes (suc i) vs ++ 0 ∷ [],
    record {
      parts = element_parts (tag_byte (value_kind v)) (digits i) (value_bytes v) (items_bytes (suc i) vs);
      key_name = digits_name i (omega (arith, small));
      size = value_sized v (items_bytes (suc i) vs ++ 0 ∷ []) (plain_value v fit.0) ranged.0 (omega (arith, h));
    },
    refl,
    spelled_value v fit.0 ranged.0 (omega (arith, h)),
    spelled_items (suc i) vs fit.1 ranged.1 (omega (arith, h)) (omega (arith, small)),
  )

  pub spelled_members : (ms : Members) → EachMember HasNo00 FitScalar ms → EachMember IsUtf8 IsRangedScalar ms → members_size ms < 2 ^ 31 → SpellsMembers (members_bytes ms ++ 0 ∷ []) ms
  spelled_members no_members fit ranged h = refl
  spelled_members (member k v ms) fit ranged h = (
    record { tag = value_kind v; key = k; payload = value_bytes v },
    members_bytes ms ++ 0 ∷ [],
    record {
      parts = element_parts (tag_byte (value_kind v)) k (value_bytes v) (members_bytes ms);
      key_name = record { no_zero = fit.0; text = ranged.0 };
      size = value_sized v (members_bytes ms ++ 0 ∷ []) (plain_value v fit.1) ranged.1 (omega (arith, h));
    },
    refl,
    refl,
    spelled_value v fit.1 ranged.1 (omega (arith, h)),
    spelled_members ms fit.2 ranged.2 (omega (arith, h)),
  )
