-- What a payload without a fault holds, unless that is a document, an array or a scope: a scalar.
use Rattle.std.proofs.Common.{◌≡◌, ℕ, zero, suc, ◌+◌, List, [], ◌∷◌, ◌++◌, drop, length, length-append, slice_index, Bool, true, false, if◌then◌else◌, ◌==◌, refl, ap, arith}
use Rattle.std.specs.Int.{w32, w64, from_le_bytes, cast_signed}
use mathlib.Core.Bool.{true≢false}
use Rattle.bson_base.specs.declared.spec.ElementType.{ElementType}
use Rattle.bson_base.specs.declared.spec.ElementType.TheVariants as kinds
use Rattle.bson_base.specs.declared.spec.BinarySubtype.TheVariants as subtypes
use Rattle.bson_base.specs.Tags.{subtype_of, subtype_byte}
use Rattle.bson_base.specs.Value.{double, string, binary, undefined, object_id, boolean, date_time, null, regex, db_pointer, code, symbol, int32, timestamp, int64, decimal, max_key, min_key, Value, scalar, value_kind, levels}
use Rattle.bson_bytes.specs.Spells.{SpellsValue}
use Rattle.bson_frame.specs.declared.error.ErrorKind.TheVariants.{MalformedValue}
use Rattle.bson_frame.specs.Frame.{number}
use Rattle.bson_frame.specs.Payload.{IsPayload, IsFaultless, text_in}

-- a kind with a document inside
abbrev pub HasInner : ElementType → Bool
HasInner kinds.EmbeddedDocument = true
HasInner kinds.Array = true
HasInner kinds.JavaScriptCodeWithScope = true
HasInner _ = false

no_rest : (p o rest payload : List ℕ) → payload ≡ p ++ 0 ∷ (o ++ 0 ∷ rest) → length payload ≡ length p + length o + 2 → payload ≡ p ++ 0 ∷ (o ++ 0 ∷ [])
no_rest p o [] payload e n = e
no_rest p o (x ∷ rest) payload e n = absurd (omega (arith, ap length e, length-append p (0 ∷ (o ++ 0 ∷ x ∷ rest)), length-append o (0 ∷ x ∷ rest), n))

truth_of : (payload : List ℕ) (n : ℕ) → slice_index payload 0 ≡ n → IsFaultless kinds.Boolean payload → (v : Value) × (value_kind v ≡ kinds.Boolean) × SpellsValue payload v × (levels v ≡ 0)
truth_of payload zero e h = (scalar (boolean false), refl, (h, e), refl)
truth_of payload (suc zero) e h = (scalar (boolean true), refl, (h, e), refl)
truth_of payload (suc (suc n)) e h = absurd (h MalformedValue (refl, omega (arith, e)))

pub scalar_read : (tag : ElementType) (payload : List ℕ) → IsPayload tag payload → IsFaultless tag payload → HasInner tag ≡ false
    → (v : Value) × (value_kind v ≡ tag) × SpellsValue payload v × (levels v ≡ 0)
scalar_read kinds.Double payload s h none = (scalar (double (from_le_bytes w64 payload)), refl, (h, refl), refl)
scalar_read kinds.String payload s h none = (scalar (string (text_in payload)), refl, (h, refl), refl)
scalar_read kinds.EmbeddedDocument payload s h none = absurd (true≢false none)
scalar_read kinds.Array payload s h none = absurd (true≢false none)
scalar_read kinds.Binary payload s h none = (scalar (binary (subtype_of (slice_index payload 4)) (drop (if slice_index payload 4 == subtype_byte subtypes.BinaryOld then 9 else 5) payload)), refl, (h, (refl, refl)), refl)
scalar_read kinds.Undefined payload s h none = (scalar undefined, refl, (h, tt), refl)
scalar_read kinds.ObjectId payload s h none = (scalar (object_id payload), refl, (h, refl), refl)
scalar_read kinds.Boolean payload s h none = truth_of payload (slice_index payload 0) refl h
scalar_read kinds.DateTime payload s h none = (scalar (date_time (cast_signed w64 (from_le_bytes w64 payload))), refl, (h, refl), refl)
scalar_read kinds.Null payload s h none = (scalar null, refl, (h, tt), refl)
scalar_read kinds.RegularExpression payload s h none = (scalar (regex s.pattern s.options), refl, (h, no_rest s.pattern s.options s.rest payload s.parts s.declared), refl)
scalar_read kinds.DbPointer payload s h none = (scalar (db_pointer (text_in payload) (drop (number payload + 4) payload)), refl, (h, (refl, refl)), refl)
scalar_read kinds.JavaScriptCode payload s h none = (scalar (code (text_in payload)), refl, (h, refl), refl)
scalar_read kinds.Symbol payload s h none = (scalar (symbol (text_in payload)), refl, (h, refl), refl)
scalar_read kinds.JavaScriptCodeWithScope payload s h none = absurd (true≢false none)
scalar_read kinds.Int32 payload s h none = (scalar (int32 (cast_signed w32 (from_le_bytes w32 payload))), refl, (h, refl), refl)
scalar_read kinds.Timestamp payload s h none = (scalar (timestamp (from_le_bytes w32 (drop 4 payload)) (from_le_bytes w32 payload)), refl, (h, (refl, refl)), refl)
scalar_read kinds.Int64 payload s h none = (scalar (int64 (cast_signed w64 (from_le_bytes w64 payload))), refl, (h, refl), refl)
scalar_read kinds.Decimal128 payload s h none = (scalar (decimal payload), refl, (h, refl), refl)
scalar_read kinds.MaxKey payload s h none = (scalar max_key, refl, (h, tt), refl)
scalar_read kinds.MinKey payload s h none = (scalar min_key, refl, (h, tt), refl)
