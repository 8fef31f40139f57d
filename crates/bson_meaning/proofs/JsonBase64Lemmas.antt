-- What a Base64 text decodes to is bytes.
use Rattle.std.proofs.Common.{◌≡◌, ℕ, zero, suc, ◌+◌, ◌*◌, ◌<◌, ◌==◌, ◌⊎◌, inl, inr, Bool, true, false, List, [], ◌∷◌, ◌++◌, length, take, drop, ◌-◌, ◌/◌, ◌≤◌, cond, ltb, Option, Some, None, Ok, Err, refl, subst, arith, eq-eqb}
use Rattle.std.specs.Prelude.{slice_index, IsUtf8}
use Rattle.std.proofs.lemmas.Bool.{cases_lt, ltb-true, and_parts}
use Rattle.std.proofs.lemmas.List.{get_or_past, get_or-drop, length-drop}
use Rattle.base64.specs.Decode.{decode_error, decode_group, decode_outcome, decoded_bytes, group_bytes, group_error, groups_before_last, groups_bytes, groups_error, lone_error, no_leftover, or_else, scan_bytes, scan_last, suffix_error, symbol_error}
use Rattle.base64.specs.Engines.{standard}
use Rattle.base64.specs.GeneralPurpose.{decode_of}
use Rattle.base64.specs.declared.decode.DecodeError.{DecodeError}
use Rattle.base64.specs.declared.engine.DecodePaddingMode.{DecodePaddingMode}
use Rattle.base64.specs.GeneralPurpose.{IsBytes}
use Rattle.base64.specs.Tables.{is_inverse}
use Rattle.base64.proofs.Canonical.{IsScanned-scan}
use Rattle.base64.proofs.Tables.{are_tables_inverse, IsDecodeTable_from}
use Rattle.bson_base.specs.Kinds.{AreBytes}
use lib.Utf8.{next, scalar, scalars, scalar_cases, encode, encodes}

pub are_joined : (a b : List ℕ) → AreBytes a → AreBytes b → AreBytes (a ++ b)
are_joined [] b h k = k
are_joined (x ∷ a) b h k = (h.0, are_joined a b h.1 k)

are_taken : (n : ℕ) (xs : List ℕ) → AreBytes xs → AreBytes (take n xs)
are_taken zero xs h = tt
are_taken (suc n) [] h = tt
are_taken (suc n) (x ∷ xs) h = (h.0, are_taken n xs h.1)

-- a symbol's value, or none
abbrev IsDecodeTable : List ℕ → Type 0
IsDecodeTable dec = (x : ℕ) → (slice_index dec x ≡ 255) ⊎ (slice_index dec x < 64)

group_ranged : (a b c d : ℕ) → a < 64 → b < 64 → c < 64 → d < 64 → AreBytes (decode_group a b c d)
group_ranged a b c d h i j k = (omega arith, (omega arith, (omega arith, tt)))

symbol_low : (dec s : List ℕ) (i : ℕ) → IsDecodeTable dec → symbol_error dec s i ≡ None → slice_index dec (slice_index s i) < 64
symbol_low dec s i t e = elim (t (slice_index s i)) [
  | inl bad ↦
      let b : (slice_index dec (slice_index s i) == 255) ≡ true = eq-eqb (slice_index dec (slice_index s i)) 255 bad in
      cc (rw b at e)
  | inr low ↦ low
]

no_error : (x y : Option DecodeError) → or_else x y ≡ None → (x ≡ None) × (y ≡ None)
no_error None y e = (refl, e)
no_error (Some x) y e = cc

group_low : (dec s : List ℕ) (i : ℕ) → IsDecodeTable dec → group_error dec s i ≡ None → AreBytes (group_bytes dec s i)
group_low dec s i t e =
    let a = no_error (symbol_error dec s i) (or_else (symbol_error dec s (i + 1)) (or_else (symbol_error dec s (i + 2)) (symbol_error dec s (i + 3)))) e in
    let b = no_error (symbol_error dec s (i + 1)) (or_else (symbol_error dec s (i + 2)) (symbol_error dec s (i + 3))) a.1 in
    let c = no_error (symbol_error dec s (i + 2)) (symbol_error dec s (i + 3)) b.1 in
    group_ranged _ _ _ _ (symbol_low dec s i t a.0) (symbol_low dec s (i + 1) t b.0) (symbol_low dec s (i + 2) t c.0) (symbol_low dec s (i + 3) t c.1)

groups_low : (dec s : List ℕ) (q : ℕ) → IsDecodeTable dec → groups_error dec s q ≡ None → AreBytes (groups_bytes dec s q)
unfolding groups_error groups_bytes
groups_low dec s zero t e = tt
groups_low dec s (suc q) t e =
    let a = no_error (groups_error dec s q) (group_error dec s (4 * q)) e in
    are_joined (groups_bytes dec s q) (group_bytes dec s (4 * q)) (groups_low dec s q t a.0) (group_low dec s (4 * q) t a.1)

-- ---- the last group

zeros_low : (k : ℕ) → slice_index (0 ∷ 0 ∷ 0 ∷ 0 ∷ []) k < 64
zeros_low zero = omega arith
zeros_low (suc zero) = omega arith
zeros_low (suc (suc zero)) = omega arith
zeros_low (suc (suc (suc zero))) = omega arith
zeros_low (suc (suc (suc (suc k)))) = omega arith

last_low : (enc dec : List ℕ) (pad at : ℕ) (s : List ℕ) → is_inverse enc dec ≡ true → IsBytes s → length s ≤ at + 4 → AreBytes (scan_bytes (scan_last dec pad at s))
last_low enc dec pad at s inv bytes short =
    let rest : List ℕ = drop at s in
    let long : length rest ≡ length s - at = length-drop at s in
    let rest_bytes : (k : ℕ) → slice_index rest k < 256 = λ k. rw (get_or-drop at s k 0) (bytes (at + k)) in
    elim (scan_last dec pad at s) as (λ r. scan_last dec pad at s ≡ r → AreBytes (scan_bytes r)) [
      | Ok st ↦ λ e.
          let held = IsScanned-scan enc dec rest pad at rest no_leftover st 0 inv rest_bytes (omega arith) (omega arith) refl
          ((refl, refl, λ j lt. absurd (omega arith), λ j low lt. absurd (omega arith)), (omega arith, omega arith, omega arith, zeros_low)) e in
          let l = held.1.3 in
          are_taken _ _ (group_ranged _ _ _ _ (l 0) (l 1) (l 2) (l 3))
      | Err x ↦ λ e. tt
    ] refl

decoded_low : (enc dec : List ℕ) (pad : ℕ) (allow : Bool) (mode : DecodePaddingMode) (s : List ℕ) → is_inverse enc dec ≡ true → IsDecodeTable dec → IsBytes s → decode_error dec pad allow mode s ≡ None → AreBytes (decoded_bytes dec pad s)
decoded_low enc dec pad allow mode s inv t bytes e =
    let q = groups_before_last (length s) in
    let a = no_error (lone_error dec pad s) (or_else (groups_error dec s q) (suffix_error dec pad allow mode (4 * q) s)) e in
    let b = no_error (groups_error dec s q) (suffix_error dec pad allow mode (4 * q) s) a.1 in
    are_joined (groups_bytes dec s q) (scan_bytes (scan_last dec pad (4 * q) s)) (groups_low dec s q t b.0) (last_low enc dec pad (4 * q) s inv bytes (omega arith))

-- ---- the bytes of a text

encode_bytes : (c : ℕ) → scalar c ≡ true → AreBytes (encode c)
unfolding encode
encode_bytes c h = by (ltb c 128) (ltb c 2048) (ltb c 65536) refl refl refl
  where
    by : (p q r : Bool) → ltb c 128 ≡ p → ltb c 2048 ≡ q → ltb c 65536 ≡ r
        → AreBytes (cond p (c ∷ []) (cond q ((192 + c / 64) ∷ next c ∷ []) (cond r ((224 + c / 4096) ∷ next (c / 64) ∷ next c ∷ []) ((240 + c / 262144) ∷ next (c / 4096) ∷ next (c / 64) ∷ next c ∷ []))))
    by true q r e f g = let l = ltb-true c 128 e in (omega arith, tt)
    by false true r e f g = let l = ltb-true c 2048 f in (omega arith, (omega arith, tt))
    by false false true e f g = let l = ltb-true c 65536 g in (omega arith, (omega arith, (omega arith, tt)))
    by false false false e f g = let l : c < 1114112 = elim (scalar_cases c h) [ inl low ↦ omega arith | inr high ↦ high.1 ] in (omega arith, (omega arith, (omega arith, (omega arith, tt))))

encodes_bytes : (cs : List ℕ) → scalars cs ≡ true → AreBytes (encodes cs)
encodes_bytes [] h = tt
encodes_bytes (c ∷ cs) h =
    let p = and_parts (scalar c) (scalars cs) h in
    are_joined (encode c) (encodes cs) (encode_bytes c p.0) (encodes_bytes cs p.1)

pub each_byte : (bs : List ℕ) → AreBytes bs → IsBytes bs
each_byte [] h i = omega arith
each_byte (b ∷ bs) h zero = h.0
each_byte (b ∷ bs) h (suc i) = each_byte bs h.1 i

text_bytes : (t : List ℕ) → IsUtf8 t → IsBytes t
text_bytes t (cs, (h, e)) = each_byte t (subst AreBytes e (encodes_bytes cs h))

-- ---- the standard alphabet

standard_long : length standard.decode_table ≡ 256
standard_long = refl

standard_inverse : is_inverse standard.encode_table standard.decode_table ≡ true
standard_inverse = are_tables_inverse standard.encode_table standard.decode_table standard.padding.value standard.tables

standard_tells : IsDecodeTable standard.decode_table
standard_tells x = elim (cases_lt x 256) [
  | inl lt ↦ IsDecodeTable_from standard.encode_table standard.decode_table standard_inverse x lt
  | inr past ↦ inr (let z : slice_index standard.decode_table x ≡ 0 = get_or_past standard.decode_table x 0 (omega (arith, standard_long)) in omega arith)
]

outcome_ok : (x : Option DecodeError) (d b : List ℕ) → decode_outcome x d ≡ Ok b → (x ≡ None) × (d ≡ b)
outcome_ok None d b h = (refl, cc h)
outcome_ok (Some e) d b h = cc h

pub base64_ranged : (t bs : List ℕ) → IsUtf8 t → decode_of standard t ≡ Ok bs → AreBytes bs
base64_ranged t bs u e =
    let o = outcome_ok _ _ bs e in
    subst AreBytes o.1 (decoded_low standard.encode_table standard.decode_table standard.padding.value standard.config.decode_allow_trailing_bits standard.config.decode_padding_mode t standard_inverse standard_tells (text_bytes t u) o.0)
