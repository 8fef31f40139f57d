-- What a scalar is written as has its size, has no fault, and holds it.
use Rattle.std.proofs.Common.{◌≡◌, ℕ, ℤ, ◌+◌, ◌-◌, ◌^◌, ◌<◌, ◌==◌, List, [], ◌∷◌, ◌++◌, length, Bool, true, false, take, drop, refl, sym, ap, ◌∙◌, arith, append_assoc, append-nil, length-append, subst}
use Rattle.std.specs.Prelude.{slice_index, IsUtf8, FitsSigned, if◌then◌else◌}
use Rattle.std.specs.Int.{w32, w64, from_le_bytes, cast_signed, cast_unsigned}
use Rattle.std.proofs.lemmas.Nat.{from_le_bytes-to_le_bytes_4, from_le_bytes-to_le_bytes_8}
use Rattle.std.proofs.lemmas.Bool.{eqb-true}
use Rattle.std.proofs.Math.Facts.{to_z-of_z, Fits-of_z}
use Rattle.std.proofs.Math.Seq.{take-append_seam, drop-append_seam}
use Rattle.bson_base.specs.declared.spec.BinarySubtype.{BinarySubtype}
use Rattle.bson_base.specs.declared.spec.BinarySubtype.TheVariants as subtypes
use Rattle.bson_base.specs.Kinds.{HasNo00, IsPlainScalar, IsCleanScalar, IsRangedScalar}
use Rattle.bson_base.specs.Tags.{subtype_of, subtype_byte}
use Rattle.bson_base.specs.Value.{Scalar, double, string, binary, undefined, object_id, boolean, date_time, null, regex, db_pointer, code, symbol, int32, timestamp, int64, decimal, max_key, min_key, scalar_kind}
use Rattle.bson_bytes.specs.Encode.{le32, le64, text_bytes, cstring_of, inner, truth, scalar_bytes, scalar_size}
use Rattle.bson_bytes.specs.Spells.{HoldsScalar}
use Rattle.bson_bytes.proofs.LengthLemmas.{le32_length, le64_length, text_length, inner_length, payload_length}
use Rattle.bson_bytes.proofs.ExtentLemmas.{number_back, text_number, text_size}
use Rattle.bson_frame.specs.declared.error.ErrorKind.{ErrorKind}
use Rattle.bson_frame.specs.Frame.{number, HasSize, IsTextSize, IsRegexSize}
use Rattle.bson_frame.specs.Payload.{text_in, IsFaultless, IsNoText, IsOldMisfit}

-- what a scalar has to be to come back from its bytes
pub record IsTold (s : Scalar) : Type 0 where
  pub plain : IsPlainScalar s
  pub clean : IsCleanScalar s
  pub ranged : IsRangedScalar s
  pub small : scalar_size s < 2 ^ 31

regex_size : (p o rest : List ℕ) → HasNo00 p × HasNo00 o → IsUtf8 p × IsUtf8 o → IsRegexSize ((cstring_of p ++ cstring_of o) ++ rest) (length (cstring_of p ++ cstring_of o))
unfolding cstring_of
regex_size p o rest plain ranged = record {
  pattern = p;
  options = o;
  rest = rest;
  parts = simp append_assoc;
  pattern_name = record { no_zero = plain.0; text = ranged.0 };
  options_name = record { no_zero = plain.1; text = ranged.1 };
  declared = simp length-append (omega arith);
}

pub scalar_sized : (s : Scalar) (rest : List ℕ) → IsPlainScalar s → IsRangedScalar s → scalar_size s < 2 ^ 31 → HasSize (scalar_kind s) (scalar_bytes s ++ rest) (length (scalar_bytes s))
scalar_sized (double n) rest plain ranged h = le64_length n
scalar_sized (string t) rest plain ranged h = text_size t rest h
scalar_sized (binary s bs) rest plain ranged h =
    let n : number ((le32 (length (inner s bs)) ++ subtype_byte s ∷ inner s bs) ++ rest) ≡ length (inner s bs) = ap number (append_assoc (le32 (length (inner s bs))) (subtype_byte s ∷ inner s bs) rest) ∙ number_back (length (inner s bs)) _ (omega (arith, inner_length s bs, h)) in
    record {
      declared = payload_length (binary s bs) ∙ omega (arith, n, inner_length s bs);
      fits = omega (arith, n, inner_length s bs, h);
    }
scalar_sized undefined rest plain ranged h = refl
scalar_sized (object_id bs) rest plain ranged h = ranged.0
scalar_sized (boolean b) rest plain ranged h = refl
scalar_sized (date_time z) rest plain ranged h = le64_length _
scalar_sized null rest plain ranged h = refl
scalar_sized (regex p o) rest plain ranged h = regex_size p o rest plain ranged
scalar_sized (db_pointer t bs) rest plain ranged h =
    let l : length (text_bytes t ++ bs) ≡ length (text_bytes t) + 12 = length-append (text_bytes t) bs ∙ ap (λ n. length (text_bytes t) + n) ranged.1 in
    record {
      room = omega (arith, l);
      text = rw (append_assoc (text_bytes t) bs rest) (subst (λ n. IsTextSize (text_bytes t ++ (bs ++ rest)) n) (omega (arith, l)) (text_size t (bs ++ rest) (omega (arith, h))));
    }
scalar_sized (code t) rest plain ranged h = text_size t rest h
scalar_sized (symbol t) rest plain ranged h = text_size t rest h
scalar_sized (int32 z) rest plain ranged h = le32_length _
scalar_sized (timestamp t i) rest plain ranged h = simp (length-append, le32_length)
scalar_sized (int64 z) rest plain ranged h = le64_length _
scalar_sized (decimal bs) rest plain ranged h = ranged.0
scalar_sized max_key rest plain ranged h = refl
scalar_sized min_key rest plain ranged h = refl

-- ---- no fault

behind_number : (t rest : List ℕ) → drop 4 (text_bytes t ++ rest) ≡ t ++ 0 ∷ rest
unfolding text_bytes le32
behind_number t rest = append_assoc t (0 ∷ []) rest

-- the text in front is the text that was written
pub text_back : (t rest : List ℕ) → length t + 5 < 2 ^ 31 → text_in (text_bytes t ++ rest) ≡ t
text_back t rest h =
    let n : number (text_bytes t ++ rest) - 1 ≡ length t = omega (arith, text_number t rest h) in
    ap (λ n. take n (drop 4 (text_bytes t ++ rest))) n ∙ ap (λ (x : List ℕ). take (length t) x) (behind_number t rest) ∙ take-append_seam t (0 ∷ rest)

-- the same with nothing after it
pub text_alone : (t : List ℕ) → length t + 5 < 2 ^ 31 → text_in (text_bytes t) ≡ t
text_alone t h = ap text_in (sym (append-nil (text_bytes t))) ∙ text_back t [] h

text_faultless : (t rest : List ℕ) (kind : ErrorKind) → length t + 5 < 2 ^ 31 → IsUtf8 t → IsNoText (text_in (text_bytes t ++ rest)) kind → ⊥
text_faultless t rest kind h utf fault = fault.1 (subst IsUtf8 (sym (text_back t rest h)) utf)

alone_faultless : (t : List ℕ) (kind : ErrorKind) → length t + 5 < 2 ^ 31 → IsUtf8 t → IsNoText (text_in (text_bytes t)) kind → ⊥
alone_faultless t kind h utf fault = fault.1 (subst IsUtf8 (sym (text_alone t h)) utf)

-- only the old binary has the byte of the old binary, if the byte reads back as its subtype
pub old_byte : (s : BinarySubtype) → subtype_of (subtype_byte s) ≡ s → subtype_byte s ≡ 2 → s ≡ subtypes.BinaryOld
old_byte s clean e = sym clean ∙ ap subtype_of e

-- the subtype's byte comes after the length
subtype_at : (s : BinarySubtype) (bs : List ℕ) → slice_index (scalar_bytes (binary s bs)) 4 ≡ subtype_byte s
unfolding le32
subtype_at s bs = refl

inner_at : (s : BinarySubtype) (bs : List ℕ) → drop 5 (scalar_bytes (binary s bs)) ≡ inner s bs
unfolding le32
inner_at s bs = refl

old_fits : (bs : List ℕ) → length bs + 9 < 2 ^ 31 → number (scalar_bytes (binary subtypes.BinaryOld bs)) ≡ number (drop 5 (scalar_bytes (binary subtypes.BinaryOld bs))) + 4
unfolding inner
old_fits bs h =
    let long : length (le32 (length bs) ++ bs) ≡ length bs + 4 = length-append (le32 (length bs)) bs ∙ omega (arith, le32_length (length bs)) in
    let outer : number (scalar_bytes (binary subtypes.BinaryOld bs)) ≡ length (le32 (length bs) ++ bs) = number_back (length (le32 (length bs) ++ bs)) _ (omega (arith, long, h)) in
    let within : number (drop 5 (scalar_bytes (binary subtypes.BinaryOld bs))) ≡ length bs = ap number (inner_at subtypes.BinaryOld bs) ∙ number_back (length bs) bs (omega (arith, h)) in
    omega (arith, long, outer, within)

binary_faultless : (s : BinarySubtype) (bs : List ℕ) (kind : ErrorKind) → subtype_of (subtype_byte s) ≡ s → scalar_size (binary s bs) < 2 ^ 31 → IsOldMisfit (scalar_bytes (binary s bs)) kind → ⊥
binary_faultless s bs kind clean h fault =
    let is : s ≡ subtypes.BinaryOld = old_byte s clean (sym (subtype_at s bs) ∙ fault.old) in
    let h' = subst (λ q. scalar_size (binary q bs) < 2 ^ 31) is h in
    fault.misfit (subst (λ q. number (scalar_bytes (binary q bs)) ≡ number (drop 5 (scalar_bytes (binary q bs))) + 4) (sym is) (old_fits bs h'))

truth_small : (b : Bool) → 1 < truth b → ⊥
truth_small true h = omega (arith, h)
truth_small false h = omega (arith, h)

pub scalar_faultless : (s : Scalar) → IsTold s → IsFaultless (scalar_kind s) (scalar_bytes s)
scalar_faultless (double n) h kind fault = fault
scalar_faultless (string t) h kind fault = alone_faultless t kind h.small h.ranged fault
scalar_faultless (binary s bs) h kind fault = binary_faultless s bs kind h.clean h.small fault
scalar_faultless undefined h kind fault = fault
scalar_faultless (object_id bs) h kind fault = fault
scalar_faultless (boolean b) h kind fault = truth_small b fault.1
scalar_faultless (date_time z) h kind fault = fault
scalar_faultless null h kind fault = fault
scalar_faultless (regex p o) h kind fault = fault
scalar_faultless (db_pointer t bs) h kind fault = text_faultless t bs kind (omega (arith, h.small)) h.ranged.0 fault
scalar_faultless (code t) h kind fault = alone_faultless t kind h.small h.ranged fault
scalar_faultless (symbol t) h kind fault = alone_faultless t kind h.small h.ranged fault
scalar_faultless (int32 z) h kind fault = fault
scalar_faultless (timestamp t i) h kind fault = fault
scalar_faultless (int64 z) h kind fault = fault
scalar_faultless (decimal bs) h kind fault = fault
scalar_faultless max_key h kind fault = fault
scalar_faultless min_key h kind fault = fault

-- ---- held

number32_back : (n : ℕ) → n < 2 ^ 32 → n ≡ from_le_bytes w32 (le32 n)
unfolding le32
number32_back n h = sym (from_le_bytes-to_le_bytes_4 n h)

number64_back : (n : ℕ) → n < 2 ^ 64 → n ≡ from_le_bytes w64 (le64 n)
unfolding le64
number64_back n h = sym (from_le_bytes-to_le_bytes_8 n h)

signed32_back : (z : ℤ) → FitsSigned w32 z → z ≡ cast_signed w32 (from_le_bytes w32 (le32 (cast_unsigned w32 z)))
signed32_back z h = sym (to_z-of_z h) ∙ ap (cast_signed w32) (number32_back (cast_unsigned w32 z) (Fits-of_z h).fits)

signed64_back : (z : ℤ) → FitsSigned w64 z → z ≡ cast_signed w64 (from_le_bytes w64 (le64 (cast_unsigned w64 z)))
signed64_back z h = sym (to_z-of_z h) ∙ ap (cast_signed w64) (number64_back (cast_unsigned w64 z) (Fits-of_z h).fits)

old_back : (bs : List ℕ) → bs ≡ drop 9 (scalar_bytes (binary subtypes.BinaryOld bs))
unfolding le32 inner
old_back bs = refl

not_old : (s : BinarySubtype) (bs : List ℕ) → (subtype_byte s == 2) ≡ false → inner s bs ≡ bs
unfolding inner
not_old subtypes.BinaryOld bs e = cc
not_old _ bs e = refl

binary_back : (s : BinarySubtype) (bs : List ℕ) → subtype_of (subtype_byte s) ≡ s → bs ≡ drop (if subtype_byte s == 2 then 9 else 5) (scalar_bytes (binary s bs))
binary_back s bs clean = by (subtype_byte s == 2) refl
  where
    by : (b : Bool) → (subtype_byte s == 2) ≡ b → bs ≡ drop (if b then 9 else 5) (scalar_bytes (binary s bs))
    by true e = subst (λ q. bs ≡ drop 9 (scalar_bytes (binary q bs))) (sym (old_byte s clean (eqb-true (subtype_byte s) 2 e))) (old_back bs)
    by false e = sym (inner_at s bs ∙ not_old s bs e)

timestamp_back : (t i : ℕ) → (t < 2 ^ 32) × (i < 2 ^ 32) → HoldsScalar (le32 i ++ le32 t) (timestamp t i)
unfolding le32
timestamp_back t i h = (sym (from_le_bytes-to_le_bytes_4 i h.1), sym (from_le_bytes-to_le_bytes_4 t h.0))

pub pointer_back : (t bs : List ℕ) → length t + 5 < 2 ^ 31 → bs ≡ drop (number (text_bytes t ++ bs) + 4) (text_bytes t ++ bs)
pointer_back t bs h =
    let n : number (text_bytes t ++ bs) + 4 ≡ length (text_bytes t) = omega (arith, text_number t bs h, text_length t) in
    sym (ap (λ n. drop n (text_bytes t ++ bs)) n ∙ drop-append_seam (text_bytes t) bs)

regex_back : (p o : List ℕ) → cstring_of p ++ cstring_of o ≡ p ++ 0 ∷ (o ++ 0 ∷ [])
unfolding cstring_of
regex_back p o = append_assoc p (0 ∷ []) (o ++ 0 ∷ [])

pub scalar_held : (s : Scalar) → IsTold s → HoldsScalar (scalar_bytes s) s
scalar_held (double n) h = number64_back n h.ranged
scalar_held (string t) h = sym (text_alone t h.small)
scalar_held (binary s bs) h = (sym h.clean ∙ ap subtype_of (sym (subtype_at s bs)), binary_back s bs h.clean ∙ ap (λ b. drop (if b == 2 then 9 else 5) (scalar_bytes (binary s bs))) (sym (subtype_at s bs)))
scalar_held undefined h = tt
scalar_held (object_id bs) h = refl
scalar_held (boolean b) h = refl
scalar_held (date_time z) h = signed64_back z h.ranged
scalar_held null h = tt
scalar_held (regex p o) h = regex_back p o
scalar_held (db_pointer t bs) h = (sym (text_back t bs (omega (arith, h.small))), pointer_back t bs (omega (arith, h.small)))
scalar_held (code t) h = sym (text_alone t h.small)
scalar_held (symbol t) h = sym (text_alone t h.small)
scalar_held (int32 z) h = signed32_back z h.ranged
scalar_held (timestamp t i) h = timestamp_back t i h.ranged
scalar_held (int64 z) h = signed64_back z h.ranged
scalar_held (decimal bs) h = refl
scalar_held max_key h = tt
scalar_held min_key h = tt
