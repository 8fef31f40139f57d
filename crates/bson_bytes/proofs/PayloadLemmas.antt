-- Payloads are the written forms of what they hold.
use Rattle.std.proofs.Common.{◌≡◌, ◌≢◌, ◌==◌, ℕ, ℤ, zero, suc, ◌+◌, ◌-◌, ◌<◌, ◌≤◌, List, [], ◌∷◌, ◌++◌, length, take, drop, get_or, Bool, true, false, refl, sym, ap, ◌∙◌, subst, append_assoc, arith}
use Rattle.std.specs.Prelude.{slice_index, if◌then◌else◌}
use Rattle.std.specs.Int.{w32, w64, from_le_bytes, cast_signed, cast_unsigned}
use Rattle.std.proofs.lemmas.Grind.{common_steps}
use Rattle.std.proofs.lemmas.Int.{of_z-to_z}
use Rattle.std.proofs.lemmas.List.{length-drop, length-append, length-take-le}
use Rattle.std.proofs.lemmas.Nat.{le_bytes_4, le_bytes_8}
use Rattle.std.proofs.lemmas.Str.{IsUtf8-from_ascii, chars-IsAscii}
use Rattle.std.specs.List.Sorted.{IsNonDecreasing}
use Rattle.std.specs.Str.{IsAscii, IsNotAscii}
use Rattle.std.specs.Prelude.{MatchBool, Some}
use Rattle.std.specs.List.{IsAllAdjacentAnswer}
use Rattle.std.specs.Ordering.{is_le, is_some_and, nat_cmp}
use Rattle.std.proofs.lemmas.List.Sorted.{non_decreasing_from_is_sorted}
use Rattle.std.proofs.lemmas.Bool.{MatchBool-at_true}
use Rattle.bson_base.proofs.OptionsLemmas.{never_descends, sorted_text-kept}
use Rattle.bson_base.specs.declared.spec.BinarySubtype.{BinarySubtype}
use Rattle.bson_base.specs.declared.spec.BinarySubtype.TheVariants as subtypes
use Rattle.bson_base.specs.Kinds.{AreBytes, NeverDescends}
use Rattle.bson_base.specs.Options.{sorted_text}
use Rattle.bson_base.specs.Tags.{subtype_byte}
use Rattle.bson_base.specs.Value.{Scalar, double, string, binary, undefined, object_id, boolean, date_time, null, regex, db_pointer, code, symbol, int32, timestamp, int64, decimal, max_key, min_key, scalar_kind}
use Rattle.bson_bytes.specs.Encode.{le32, le64, cstring_of, text_bytes, frame_of, inner, is_old, scalar_bytes, truth}
use Rattle.bson_bytes.specs.Spells.{HoldsScalar, settle_scalar}
use Rattle.bson_frame.specs.Frame.{number, IsCstring, IsTextSize, IsDocumentSize, IsBinarySize, IsRegexSize}
use Rattle.bson_frame.specs.Payload.{IsPayload, text_in}
use Rattle.bson_bytes.specs.Written.{HasOneForm, HasOrderedOptions, IsNewBinary}
use Rattle.bson_bytes.proofs.MeaningLemmas.{subtype_back, bytes_drop, fits32, fits64}
use Rattle.bson_bytes.proofs.OneTreeLemmas.{parts_in}
use Rattle.bson_frame.proofs.NameLemmas.{name_is_one, rest_is_one}

byte_at : (bs : List ℕ) → AreBytes bs → (i : ℕ) → get_or bs i 0 < 256
byte_at [] h i = omega arith
byte_at (b ∷ bs) h zero = h.0
byte_at (b ∷ bs) h (suc i) = byte_at bs h.1 i

-- ---- a length in front

-- the number in front, and what follows it
in_front : (p : List ℕ) → AreBytes p → 4 ≤ length p → p ≡ le32 (number p) ++ drop 4 p
unfolding le32
in_front (a ∷ b ∷ c ∷ d ∷ q) are long =
    let four = a ∷ b ∷ c ∷ d ∷ [] in
    ap (λ (x : List ℕ). x ++ q) (sym (le_bytes_4 four (number (a ∷ b ∷ c ∷ d ∷ q)) refl (byte_at four (are.0, (are.1.0, (are.1.1.0, (are.1.1.1.0, tt))))) refl))
in_front [] are long = absurd (omega (arith, long))
in_front (a ∷ []) are long = absurd (omega (arith, long))
in_front (a ∷ b ∷ []) are long = absurd (omega (arith, long))
in_front (a ∷ b ∷ c ∷ []) are long = absurd (omega (arith, long))

-- what ends in a 00
ends : (q : List ℕ) (n : ℕ) → length q ≡ n + 1 → slice_index q n ≡ 0 → q ≡ take n q ++ 0 ∷ []
ends [] n long last = absurd (omega (arith, long))
ends (x ∷ []) zero long last = ap (λ (y : ℕ). y ∷ []) last
ends (x ∷ y ∷ q) zero long last = absurd (omega (arith, long))
ends (x ∷ q) (suc n) long last = ap (λ (r : List ℕ). x ∷ r) (ends q n (omega (arith, long)) last)

index_behind : (p : List ℕ) (n : ℕ) → 4 ≤ length p → slice_index p (suc (suc (suc (suc n)))) ≡ slice_index (drop 4 p) n
index_behind (a ∷ b ∷ c ∷ d ∷ q) n long = refl
index_behind [] n long = absurd (omega (arith, long))
index_behind (a ∷ []) n long = absurd (omega (arith, long))
index_behind (a ∷ b ∷ []) n long = absurd (omega (arith, long))
index_behind (a ∷ b ∷ c ∷ []) n long = absurd (omega (arith, long))

text_back : (p t : List ℕ) → AreBytes p → IsTextSize p (length p) → t ≡ text_in p → p ≡ text_bytes t
unfolding text_bytes
text_back p t are size is =
    let n = number p - 1 in
    let q = drop 4 p in
    let long : length q ≡ n + 1 = length-drop 4 p ∙ omega (arith, size.declared, size.some) in
    let at : suc (suc (suc (suc n))) ≡ length p - 1 = omega (arith, size.declared, size.some) in
    let last : slice_index q n ≡ 0 = sym (index_behind p n (omega (arith, size.declared))) ∙ ap (slice_index p) at ∙ size.ended in
    let whole : q ≡ t ++ 0 ∷ [] = ends q n long last ∙ ap (λ (x : List ℕ). x ++ 0 ∷ []) (sym is) in
    let taken : length t ≡ n = ap length is ∙ length-take-le n q (omega (arith, long)) in
    let counted : number p ≡ length t + 1 = omega (arith, taken, size.some) in
    in_front p are (omega (arith, size.declared)) ∙ ap (λ (x : ℕ). le32 x ++ q) counted ∙ ap (λ (x : List ℕ). le32 (length t + 1) ++ x) whole

-- a document or an array that ends in a 00 after these elements
pub framed_back : (p body : List ℕ) → AreBytes p → IsDocumentSize p (length p) → drop 4 p ≡ body ++ 0 ∷ [] → p ≡ frame_of body
unfolding frame_of
framed_back p body are size is =
    let long : length p - 4 ≡ length body + 1 = sym (length-drop 4 p) ∙ ap length is ∙ length-append body (0 ∷ []) in
    let counted : number p ≡ length body + 5 = omega (arith, long, size.declared, size.some) in
    in_front p are (omega (arith, size.some)) ∙ ap (λ (x : ℕ). le32 x ++ drop 4 p) counted ∙ ap (λ (x : List ℕ). le32 (length body + 5) ++ x) is

-- ---- scalars

four_back : (p : List ℕ) (n : ℕ) → AreBytes p → length p ≡ 4 → n ≡ from_le_bytes w32 p → p ≡ le32 n
unfolding le32
four_back p n are long is = sym (le_bytes_4 p n long (byte_at p are) is)

eight_back : (p : List ℕ) (n : ℕ) → AreBytes p → length p ≡ 8 → n ≡ from_le_bytes w64 p → p ≡ le64 n
unfolding le64
eight_back p n are long is = sym (le_bytes_8 p n long (byte_at p are) is)

signed_four : (p : List ℕ) (z : ℤ) → AreBytes p → length p ≡ 4 → z ≡ cast_signed w32 (from_le_bytes w32 p) → p ≡ le32 (cast_unsigned w32 z)
signed_four p z are long is = four_back p (cast_unsigned w32 z) are long (ap (cast_unsigned w32) is ∙ of_z-to_z w32 (from_le_bytes w32 p) (fits32 p are))

signed_eight : (p : List ℕ) (z : ℤ) → AreBytes p → length p ≡ 8 → z ≡ cast_signed w64 (from_le_bytes w64 p) → p ≡ le64 (cast_unsigned w64 z)
signed_eight p z are long is = eight_back p (cast_unsigned w64 z) are long (ap (cast_unsigned w64) is ∙ of_z-to_z w64 (from_le_bytes w64 p) (fits64 p are))

timestamp_back : (p : List ℕ) (t i : ℕ) → AreBytes p → length p ≡ 8 → i ≡ from_le_bytes w32 p → t ≡ from_le_bytes w32 (drop 4 p) → p ≡ le32 i ++ le32 t
timestamp_back p t i are long front behind =
    in_front p are (omega (arith, long)) ∙ ap (λ (x : ℕ). le32 x ++ drop 4 p) (sym front)
    ∙ ap (λ (x : List ℕ). le32 i ++ x) (four_back (drop 4 p) t (bytes_drop 4 p are) (length-drop 4 p ∙ omega (arith, long)) behind)

one_back : (p : List ℕ) (b : Bool) → length p ≡ 1 → slice_index p 0 ≡ truth b → p ≡ truth b ∷ []
one_back (x ∷ []) b long is = ap (λ (y : ℕ). y ∷ []) is
one_back [] b long is = absurd (omega (arith, long))
one_back (x ∷ y ∷ p) b long is = absurd (omega (arith, long))

nothing_back : (p : List ℕ) → length p ≡ 0 → p ≡ []
nothing_back [] long = refl
nothing_back (x ∷ p) long = absurd (omega (arith, long))

pub scalar_back : (p : List ℕ) (s : Scalar) → AreBytes p → IsPayload (scalar_kind s) p → HoldsScalar p s → HasOneForm (scalar_kind s) → (settle_scalar s ≡ s) × (p ≡ scalar_bytes s)
scalar_back p (double n) are size holds one = (refl, eight_back p n are size holds)
scalar_back p (string t) are size holds one = (refl, text_back p t are size holds)
scalar_back p (binary s bs) are size holds one = absurd one
scalar_back p undefined are size holds one = (refl, nothing_back p size)
scalar_back p (object_id bs) are size holds one = (refl, sym holds)
scalar_back p (boolean b) are size holds one = (refl, one_back p b size holds)
scalar_back p (date_time z) are size holds one = (refl, signed_eight p z are size holds)
scalar_back p null are size holds one = (refl, nothing_back p size)
scalar_back p (regex q o) are size holds one = absurd one
scalar_back p (db_pointer t bs) are size holds one = absurd one
scalar_back p (code t) are size holds one = (refl, text_back p t are size holds)
scalar_back p (symbol t) are size holds one = (refl, text_back p t are size holds)
scalar_back p (int32 z) are size holds one = (refl, signed_four p z are size holds)
scalar_back p (timestamp t i) are size holds one = (refl, timestamp_back p t i are size holds.0 holds.1)
scalar_back p (int64 z) are size holds one = (refl, signed_eight p z are size holds)
scalar_back p (decimal bs) are size holds one = (refl, sym holds)
scalar_back p max_key are size holds one = (refl, nothing_back p size)
scalar_back p min_key are size holds one = (refl, nothing_back p size)

-- ---- binaries

not_old : (s : BinarySubtype) → (subtype_byte s ≡ 2 → ⊥) → is_old s ≡ false
not_old subtypes.BinaryOld h = absurd (h refl)
not_old _ h = refl

is_other : (x : ℕ) → x ≢ 2 → (x == 2) ≡ false
is_other x h = grind (arith, h, common_steps)

pub binary_back : (p : List ℕ) (s : BinarySubtype) (bs : List ℕ) → AreBytes p → IsBinarySize p (length p) → IsNewBinary p → HoldsScalar p (binary s bs) → p ≡ scalar_bytes (binary s bs)
unfolding inner
binary_back (a ∷ b ∷ c ∷ d ∷ x ∷ q) s bs are size new holds =
    let p = a ∷ b ∷ c ∷ d ∷ x ∷ q in
    let sub : subtype_byte s ≡ x = ap subtype_byte holds.0 ∙ subtype_back x in
    let old : is_old s ≡ false = not_old s (λ e. new (sym sub ∙ e)) in
    let same : bs ≡ q = holds.1 ∙ ap (λ (t : Bool). drop (if t then 9 else 5) p) (is_other x new) in
    let whole : inner s bs ≡ q = ap (λ (t : Bool). if t then le32 (length bs) ++ bs else bs) old ∙ same in
    let counted : number p ≡ length (inner s bs) = omega (arith, size.declared, ap length whole) in
    in_front p are (omega arith) ∙ ap (λ (n : ℕ). le32 n ++ x ∷ q) counted
    ∙ ap (λ (y : ℕ). le32 (length (inner s bs)) ++ y ∷ q) (sym sub) ∙ ap (λ (r : List ℕ). le32 (length (inner s bs)) ++ subtype_byte s ∷ r) (sym whole)
binary_back [] s bs are size new holds = absurd (omega (arith, size.declared))
binary_back (a ∷ []) s bs are size new holds = absurd (omega (arith, size.declared))
binary_back (a ∷ b ∷ []) s bs are size new holds = absurd (omega (arith, size.declared))
binary_back (a ∷ b ∷ c ∷ []) s bs are size new holds = absurd (omega (arith, size.declared))
binary_back (a ∷ b ∷ c ∷ d ∷ []) s bs are size new holds = absurd (omega (arith, size.declared))

-- ---- regular expressions

-- options that are ASCII and ascend are in order
in_order : (t : List ℕ) → IsAscii t → IsNonDecreasing t → sorted_text t ≡ t
in_order t ascii up = sorted_text-kept t (IsUtf8-from_ascii t ascii) (subst NeverDescends (sym (chars-IsAscii t ascii)) (never_descends t up))

pub tested_in_order : (t bytes : List ℕ) (ascii sorted : Bool) → MatchBool ascii (IsAscii t) (IsNotAscii t) → ascii ≡ true → bytes ≡ t
    → IsAllAdjacentAnswer (λ x y b. is_some_and is_le (Some (nat_cmp x y)) ≡ b) bytes sorted → sorted ≡ true → sorted_text t ≡ t
tested_in_order t bytes ascii sorted told is_ascii same answer is_sorted =
    in_order t (MatchBool-at_true (IsAscii t) (IsNotAscii t) is_ascii told) (subst IsNonDecreasing same (MatchBool-at_true _ _ is_sorted (non_decreasing_from_is_sorted bytes sorted answer)))

-- two names at the front are the pattern and the options
pub ordered_options : (payload pattern rest options more : List ℕ) → IsCstring pattern → payload ≡ pattern ++ 0 ∷ rest → IsCstring options → rest ≡ options ++ 0 ∷ more
    → sorted_text options ≡ options → HasOrderedOptions payload
ordered_options payload pattern rest options more is_pattern parts is_options behind kept size =
    let same = rest_is_one payload pattern size.pattern rest (size.options ++ 0 ∷ size.rest) is_pattern size.pattern_name parts size.parts in
    subst (λ (t : List ℕ). sorted_text t ≡ t) (name_is_one rest options size.options more size.rest is_options size.options_name behind same) kept

pub regex_back : (payload p o : List ℕ) → IsRegexSize payload (length payload) → HasOrderedOptions payload → HoldsScalar payload (regex p o)
    → (settle_scalar (regex p o) ≡ regex p o) × (payload ≡ scalar_bytes (regex p o))
unfolding cstring_of
regex_back payload p o size ordered holds =
    let stays = subst (λ (t : List ℕ). sorted_text t ≡ t) (sym (parts_in payload p o size holds).1) (ordered size) in
    (ap (regex p) stays, holds ∙ sym (append_assoc p (0 ∷ []) (o ++ 0 ∷ [])))
