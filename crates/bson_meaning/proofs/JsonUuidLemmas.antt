-- What the text of a UUID reads as is bytes.
use Rattle.std.proofs.Common.{◌≡◌, ℕ, zero, suc, ◌+◌, ◌*◌, ◌<◌, ◌==◌, ◌&&◌, Bool, true, false, if◌then◌else◌, List, [], ◌∷◌, length, take, drop, Option, Some, None, Ok, refl, subst, arith}
use Rattle.std.specs.Prelude.{slice_index}
use Rattle.std.specs.List.{list_all}
use Rattle.uuid.specs.Text.{by_index, byte_of_digits, close_brace, digits_of, has_hyphens, has_urn_prefix, is_hex_digit, open_brace, parsed, parsed_braced, parsed_hyphenated, parsed_simple, parsed_urn, value_of}
use Rattle.uuid_text.specs.UuidText.{uuid_of}
use Rattle.bson_base.specs.Kinds.{AreBytes}
use Rattle.bson_base.specs.ScalarTexts.{read_uuid, valid_uuid}
use Rattle.bson_meaning.proofs.JsonBase64Lemmas.{are_joined}
use Rattle.std.proofs.lemmas.Bool.{and_parts}

value_low : (c : ℕ) → is_hex_digit c ≡ true → value_of c < 16
value_low c h = grind arith

digit_low : (hex : List ℕ) → list_all is_hex_digit hex ≡ true → (i : ℕ) → value_of (slice_index hex i) < 16
digit_low [] h i = omega arith
digit_low (c ∷ cs) h zero = value_low c (and_parts (is_hex_digit c) (list_all is_hex_digit cs) h).0
digit_low (c ∷ cs) h (suc i) = digit_low cs (and_parts (is_hex_digit c) (list_all is_hex_digit cs) h).1 i

byte_low : (hex : List ℕ) → list_all is_hex_digit hex ≡ true → (j : ℕ) → byte_of_digits hex j < 256
byte_low hex h j = omega (arith, digit_low hex h (2 * j), digit_low hex h (2 * j + 1))

all_bytes : (n : ℕ) (f : ℕ → ℕ) → ((j : ℕ) → f j < 256) → AreBytes (by_index n f)
unfolding by_index
all_bytes zero f h = tt
all_bytes (suc n) f h = are_joined (by_index n f) (f n ∷ []) (all_bytes n f h) (h n, tt)

abbrev IsRead : Option (List ℕ) → Type 0
IsRead None = Unit {0}
IsRead (Some bs) = AreBytes bs

either : (b : Bool) (o p : Option (List ℕ)) → IsRead o → IsRead p → IsRead (if b then o else p)
either true o p h k = h
either false o p h k = k

simple_read : (hex : List ℕ) → IsRead (parsed_simple hex)
simple_read hex = by (length hex == 32) (list_all is_hex_digit hex) refl
  where
    by : (a b : Bool) → list_all is_hex_digit hex ≡ b → IsRead (if a && b then Some (by_index 16 (byte_of_digits hex)) else None)
    by true true h = all_bytes 16 (byte_of_digits hex) (byte_low hex h)
    by true false h = tt
    by false b h = tt

hyphenated_read : (s : List ℕ) → IsRead (parsed_hyphenated s)
hyphenated_read s = either ((length s == 36) && has_hyphens s) (parsed_simple (digits_of s)) None (simple_read (digits_of s)) tt

braced_read : (s : List ℕ) → IsRead (parsed_braced s)
braced_read s = either ((length s == 38) && (slice_index s 0 == open_brace) && (slice_index s 37 == close_brace)) (parsed_hyphenated (take 36 (drop 1 s))) None (hyphenated_read (take 36 (drop 1 s))) tt

urn_read : (s : List ℕ) → IsRead (parsed_urn s)
urn_read s = either ((length s == 45) && has_urn_prefix s) (parsed_hyphenated (drop 9 s)) None (hyphenated_read (drop 9 s)) tt

parsed_read : (s : List ℕ) → IsRead (parsed s)
parsed_read s = either (length s == 32) (parsed_simple s) _ (simple_read s)
    (either (length s == 36) (parsed_hyphenated s) _ (hyphenated_read s)
    (either (length s == 38) (parsed_braced s) _ (braced_read s)
    (either (length s == 45) (parsed_urn s) None (urn_read s) tt)))

pub uuid_ranged : (t bs : List ℕ) → read_uuid t ≡ Ok bs → AreBytes bs
unfolding uuid_of
uuid_ranged t bs e = by (parsed t) (parsed_read t) e
  where
    by : (o : Option (List ℕ)) → IsRead o → valid_uuid o ≡ Ok bs → AreBytes bs
    by (Some xs) h f = let i : xs ≡ bs = cc in subst AreBytes i h
    by None h f = cc
