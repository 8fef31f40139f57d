-- What bytes mean is clean and sound.
use Rattle.std.proofs.Common.{◌≡◌, ℕ, ℤ, zero, suc, ◌+◌, ◌^◌, ◌<◌, ◌≤◌, ◌⊎◌, inl, inr, List, [], ◌∷◌, ◌++◌, length, drop, get_or, Bool, true, false, refl, sym, ap, ◌∙◌, subst, arith}
use Rattle.std.specs.Prelude.{IsUtf8, slice_index, FitsSigned}
use Rattle.std.specs.Str.{is_utf8}
use Rattle.std.specs.Int.{w8, w32, w64, from_le_bytes, cast_signed}
use mir.Val.{Fits}
use Rattle.std.proofs.Math.Facts.{sfits_to_z}
use Rattle.std.proofs.lemmas.List.{length-drop}
use Rattle.std.proofs.lemmas.Str.{IsUtf8-from_is_utf8, is_utf8-from_IsUtf8}
use Rattle.std.proofs.lemmas.Bool.{cases_lt}
use Rattle.std.proofs.lemmas.Grind.{common_steps}
use mathlib.Core.Bool.{true≢false}
use Rattle.bson_base.specs.declared.spec.ElementType.TheVariants as kinds
use Rattle.bson_base.specs.Kinds.{HasNo00, AreBytes, IsRangedScalar, IsClean, IsSound}
use Rattle.bson_base.specs.Tags.{tag_byte, subtype_of, subtype_byte}
use Rattle.bson_base.specs.Value.{Scalar, double, string, binary, undefined, object_id, boolean, date_time, null, regex, db_pointer, code, symbol, int32, timestamp, int64, decimal, max_key, min_key, scalar_kind, value_kind, Value, scalar, array, document, scoped_code, Items, no_items, item, Members, no_members, member, look_up, EachPart, EachItem, EachMember}
use Rattle.bson_base.proofs.OptionsLemmas.{sorted_text-in_order}
use Rattle.bson_bytes.specs.Spells.{HoldsScalar, SpellsValue, SpellsItems, SpellsMembers, settle_scalar, settle_value, settle_items, settle, Means}
use Rattle.bson_bytes.proofs.DistinctLemmas.{chosen, distinct}
use Rattle.bson_bytes.proofs.OneTreeLemmas.{parts_in}
use Rattle.bson_base.proofs.PartLemmas.{each_member}
use Rattle.bson_bytes.proofs.OptionsLemmas.{no_zero_sorted, text_sorted}
use Rattle.bson_bytes.proofs.SpellingLemmas.{IsCleanPart}
use Rattle.bson_frame.specs.declared.error.ErrorKind.{ErrorKind}
use Rattle.bson_frame.specs.declared.error.ErrorKind.TheVariants.{MalformedValue, Utf8EncodingError}
use Rattle.bson_frame.specs.Frame.{number, Element, IsFirstFrame, IsRegexSize, IsPointerSize, IsTextSize}
use Rattle.bson_frame.specs.Payload.{IsPayload, IsFaultless, IsNoText, text_in, code_in, scope_in}
use Rattle.bson_frame.proofs.PayloadLemmas.{payload_by_itself}
use Rattle.bson_base.proofs.MemberLemmas.{key_at, without_each}

-- ---- bytes

bytes_back : (xs ys : List ℕ) → AreBytes (xs ++ ys) → AreBytes ys
bytes_back [] ys h = h
bytes_back (x ∷ xs) ys h = bytes_back xs ys h.1

bytes_front : (xs ys : List ℕ) → AreBytes (xs ++ ys) → AreBytes xs
bytes_front [] ys h = tt
bytes_front (x ∷ xs) ys h = (h.0, bytes_front xs ys h.1)

-- what a slice of bytes is known to hold, as the recursive fact
pub are_bytes : (bs : List ℕ) → ((i : ℕ) → Fits w8 (get_or bs i 0)) → AreBytes bs
are_bytes [] h = tt
are_bytes (b ∷ bs) h = ((h 0).fits, are_bytes bs (λ i. h (suc i)))

pub bytes_drop : (n : ℕ) (xs : List ℕ) → AreBytes xs → AreBytes (drop n xs)
bytes_drop zero xs h = h
bytes_drop (suc n) [] h = tt
bytes_drop (suc n) (x ∷ xs) h = bytes_drop n xs h.1

byte_at : (i : ℕ) (xs : List ℕ) → AreBytes xs → slice_index xs i < 256
byte_at i [] h = omega arith
byte_at zero (x ∷ xs) h = h.0
byte_at (suc i) (x ∷ xs) h = byte_at i xs h.1

pub fits32 : (p : List ℕ) → AreBytes p → from_le_bytes w32 p < 2 ^ 32
fits32 p h = omega (arith, byte_at 0 p h, byte_at 1 p h, byte_at 2 p h, byte_at 3 p h)

pub fits64 : (p : List ℕ) → AreBytes p → from_le_bytes w64 p < 2 ^ 64
fits64 p h = omega (arith, byte_at 0 p h, byte_at 1 p h, byte_at 2 p h, byte_at 3 p h, byte_at 4 p h, byte_at 5 p h, byte_at 6 p h, byte_at 7 p h)

signed32 : (p : List ℕ) (z : ℤ) → AreBytes p → z ≡ cast_signed w32 (from_le_bytes w32 p) → FitsSigned w32 z
signed32 p z h is = subst (FitsSigned w32) (sym is) (sfits_to_z (record { fits = fits32 p h }))

signed64 : (p : List ℕ) (z : ℤ) → AreBytes p → z ≡ cast_signed w64 (from_le_bytes w64 p) → FitsSigned w64 z
signed64 p z h is = subst (FitsSigned w64) (sym is) (sfits_to_z (record { fits = fits64 p h }))

pub subtype_back : (b : ℕ) → subtype_byte (subtype_of b) ≡ b
subtype_back b = grind (arith, common_steps)

-- ---- scalars

-- what can't fail to be a text is one
stays_text : (t : List ℕ) → ((IsUtf8 t → ⊥) → ⊥) → IsUtf8 t
stays_text t never = by (is_utf8 t) refl
  where
    by : (b : Bool) → is_utf8 t ≡ b → IsUtf8 t
    by true e = IsUtf8-from_is_utf8 t e
    by false e = absurd (never (λ u. true≢false (sym (is_utf8-from_IsUtf8 t u) ∙ e)))

text_there : (t x : List ℕ) → ((kind : ErrorKind) → IsNoText x kind → ⊥) → t ≡ x → IsUtf8 t
text_there t x faultless is = subst IsUtf8 (sym is) (stays_text x (λ no. faultless Utf8EncodingError (refl, no)))

-- what settled bytes have in every scalar, and in every key
abbrev pub IsGood : Scalar → Type 0
IsGood s = IsCleanPart s × IsRangedScalar s

abbrev pub IsGoodKey : List ℕ → Type 0
IsGoodKey k = HasNo00 k × IsUtf8 k

good_regex : (payload p o : List ℕ) → IsRegexSize payload (length payload) → HoldsScalar payload (regex p o) → IsGood (settle_scalar (regex p o))
good_regex payload p o size is =
    let parts = parts_in payload p o size is in
    let p_name = size.pattern_name in
    let o_zero = subst HasNo00 (sym parts.1) size.options_name.no_zero in
    let o_text = subst IsUtf8 (sym parts.1) size.options_name.text in
    (((subst HasNo00 (sym parts.0) p_name.no_zero, no_zero_sorted o o_text o_zero), sorted_text-in_order o o_text), (subst IsUtf8 (sym parts.0) p_name.text, text_sorted o o_text))

good_binary : (p : List ℕ) (s : _) (bs : List ℕ) (n : ℕ) → AreBytes p → s ≡ subtype_of (slice_index p 4) → bs ≡ drop n p → IsGood (binary s bs)
good_binary p s bs n h i j =
    let b = slice_index p 4 in
    ((tt, sym (i ∙ ap subtype_of (sym (ap subtype_byte i ∙ subtype_back b)))), (subst (λ q. subtype_byte q < 256) (sym i) (rw (subtype_back b) (byte_at 4 p h)), subst AreBytes (sym j) (bytes_drop n p h)))

good_pointer : (p t bs : List ℕ) → AreBytes p → IsPointerSize p (length p) → IsFaultless kinds.DbPointer p → HoldsScalar p (db_pointer t bs) → IsGood (db_pointer t bs)
good_pointer p t bs h size faultless is =
    let long = size.text.declared in
    ((tt, tt), (text_there t (text_in p) faultless is.0, ap length is.1 ∙ length-drop (number p + 4) p ∙ omega (arith, long, size.room), subst AreBytes (sym is.1) (bytes_drop (number p + 4) p h)))

good_scalar : (p : List ℕ) (s : Scalar) → AreBytes p → IsPayload (scalar_kind s) p → IsFaultless (scalar_kind s) p → HoldsScalar p s → IsGood (settle_scalar s)
good_scalar p (double n) h whole faultless is = ((tt, tt), subst (λ m. m < 2 ^ 64) (sym is) (fits64 p h))
good_scalar p (string t) h whole faultless is = ((tt, tt), text_there t (text_in p) faultless is)
good_scalar p (binary s bs) h whole faultless is = good_binary p s bs _ h is.0 is.1
good_scalar p undefined h whole faultless is = ((tt, tt), tt)
good_scalar p (object_id bs) h whole faultless is = ((tt, tt), (ap length is ∙ whole, subst AreBytes (sym is) h))
good_scalar p (boolean b) h whole faultless is = ((tt, tt), tt)
good_scalar p (date_time z) h whole faultless is = ((tt, tt), signed64 p z h is)
good_scalar p null h whole faultless is = ((tt, tt), tt)
good_scalar p (regex a o) h whole faultless is = good_regex p a o whole is
good_scalar p (db_pointer t bs) h whole faultless is = good_pointer p t bs h whole faultless is
good_scalar p (code t) h whole faultless is = ((tt, tt), text_there t (text_in p) faultless is)
good_scalar p (symbol t) h whole faultless is = ((tt, tt), text_there t (text_in p) faultless is)
good_scalar p (int32 z) h whole faultless is = ((tt, tt), signed32 p z h is)
good_scalar p (timestamp t i) h whole faultless is = ((tt, tt), (subst (λ m. m < 2 ^ 32) (sym is.1) (fits32 (drop 4 p) (bytes_drop 4 p h)), subst (λ m. m < 2 ^ 32) (sym is.0) (fits32 p h)))
good_scalar p (int64 z) h whole faultless is = ((tt, tt), signed64 p z h is)
good_scalar p (decimal bs) h whole faultless is = ((tt, tt), (ap length is ∙ whole, subst AreBytes (sym is) h))
good_scalar p max_key h whole faultless is = ((tt, tt), tt)
good_scalar p min_key h whole faultless is = ((tt, tt), tt)

-- ---- trees

frame_bytes : (bytes : List ℕ) (e : Element) (rest : List ℕ) → IsFirstFrame bytes e rest → AreBytes bytes → AreBytes e.payload × AreBytes rest
frame_bytes bytes e rest first h =
    let all : AreBytes (tag_byte e.tag ∷ (e.key ++ 0 ∷ (e.payload ++ rest))) = subst AreBytes first.parts h in
    let behind = bytes_back e.key (0 ∷ (e.payload ++ rest)) all.1 in
    (bytes_front e.payload rest behind.1, bytes_back e.payload rest behind.1)

code_text : (p : List ℕ) → IsFaultless kinds.JavaScriptCodeWithScope p → IsUtf8 (text_in (code_in p))
code_text p faultless = stays_text (text_in (code_in p)) (λ never. by never (cases_lt (length p) 14))
  where
    by : (IsUtf8 (text_in (code_in p)) → ⊥) → (length p < 14) ⊎ (14 ≤ length p) → ⊥
    by never (inl short) = faultless MalformedValue (inl short)
    by never (inr long) = faultless MalformedValue (inr (inl (λ size is le. faultless Utf8EncodingError (long, ((subst (IsTextSize (code_in p)) is.declared is, omega (arith, is.declared, le)), never)))))

mutual
  good_value : (p : List ℕ) (v : Value) → AreBytes p → IsPayload (value_kind v) p → SpellsValue p v → EachPart IsGoodKey IsGood (settle_value v)
  good_value p (scalar s) h whole is = good_scalar p s h whole is.0 is.1
  good_value p (array vs) h whole is = good_items (drop 4 p) vs (bytes_drop 4 p h) is
  good_value p (document ms) h whole is = good_members (drop 4 p) ms (bytes_drop 4 p h) is
  good_value p (scoped_code t ms) h whole is = (
    ((tt, tt), subst IsUtf8 (sym is.1) (code_text p is.0)),
    good_members (drop 4 (scope_in p)) ms (bytes_drop 4 (scope_in p) (bytes_drop (number (code_in p) + 4) (code_in p) (bytes_drop 4 p h))) is.2,
  )

  good_items : (bytes : List ℕ) (vs : Items) → AreBytes bytes → SpellsItems bytes vs → EachItem IsGoodKey IsGood (settle_items vs)
  good_items bytes no_items h is = tt
  good_items bytes (item v vs) h is =
      let parts = frame_bytes bytes is.0 is.1 is.2 h in
      let whole = subst (λ t. IsPayload t is.0.payload) (sym is.3) (payload_by_itself bytes is.0 is.1 is.2) in
      (good_value is.0.payload v parts.0 whole is.4, good_items is.1 vs parts.1 is.5)

  good_members : (bytes : List ℕ) (ms : Members) → AreBytes bytes → SpellsMembers bytes ms → EachMember IsGoodKey IsGood (settle ms)
  good_members bytes no_members h is = tt
  good_members bytes (member k v ms) h is =
      let parts = frame_bytes bytes is.0 is.1 is.2 h in
      let whole = subst (λ t. IsPayload t is.0.payload) (sym is.4) (payload_by_itself bytes is.0 is.1 is.2) in
      let first = good_value is.0.payload v parts.0 whole is.5 in
      let rest = good_members is.1 ms parts.1 is.6 in
      let key = is.2.key_name in
      ((subst HasNo00 (sym is.3) key.no_zero, subst IsUtf8 (sym is.3) key.text), chosen {P = EachPart IsGoodKey IsGood} (look_up k (settle ms)) (settle_value v) first (λ w e. (key_at IsGoodKey IsGood (settle ms) k w rest e).1), without_each IsGoodKey IsGood k (settle ms) rest)

pub meaning_is_clean : (bytes : List ℕ) (d : Members) → AreBytes bytes → Means bytes d → IsClean (document d)
meaning_is_clean bytes d h m =
    subst (λ e. IsClean (document e)) (sym m.3) (each_member IsGoodKey HasNo00 IsGood IsCleanPart (λ k good. good.0) (λ s good. good.0) (settle m.0) (good_members (drop 4 bytes) m.0 (bytes_drop 4 bytes h) m.2))

pub meaning_is_sound : (bytes : List ℕ) (d : Members) → AreBytes bytes → Means bytes d → IsSound (document d)
meaning_is_sound bytes d h m =
    subst (λ e. IsSound (document e)) (sym m.3) (record {
      ranged = each_member IsGoodKey IsUtf8 IsGood IsRangedScalar (λ k good. good.1) (λ s good. good.1) (settle m.0) (good_members (drop 4 bytes) m.0 (bytes_drop 4 bytes h) m.2);
      distinct = distinct m.0;
    })
