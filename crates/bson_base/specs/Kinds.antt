-- Which trees are plain, which are clean, and which numbers and texts a value can hold.
use Rattle.std.specs.Prelude.{◌≡◌, ℕ, ◌^◌, ◌<◌, ◌≤◌, List, [], ◌∷◌, length, FitsSigned, IsUtf8, chars}
use Rattle.std.specs.Int.{w32, w64}
use Rattle.bson_base.specs.Tags.{subtype_of, subtype_byte}
use Rattle.bson_base.specs.Value.{Scalar, double, string, binary, object_id, date_time, regex, db_pointer, code, symbol, int32, timestamp, int64, decimal, Value, EachPart, HasDistinctKeys}

abbrev pub HasNo00 : List ℕ → Type 0
HasNo00 [] = Unit {0}
HasNo00 (b ∷ bs) = (0 < b) × HasNo00 bs

abbrev pub NeverDescends : List ℕ → Type 0
NeverDescends [] = Unit {0}
NeverDescends (c ∷ []) = Unit {0}
NeverDescends (c ∷ d ∷ cs) = (c ≤ d) × NeverDescends (d ∷ cs)

abbrev pub AreBytes : List ℕ → Type 0
AreBytes [] = Unit {0}
AreBytes (b ∷ bs) = (b < 256) × AreBytes bs

-- no 00 in a pattern or in options
abbrev pub IsPlainScalar : Scalar → Type 0
IsPlainScalar (regex p o) = HasNo00 p × HasNo00 o
IsPlainScalar _ = Unit {0}

-- the options never descend, the subtype is what its byte reads as
abbrev pub IsCleanScalar : Scalar → Type 0
IsCleanScalar (regex p o) = NeverDescends (chars o)
IsCleanScalar (binary s bs) = subtype_of (subtype_byte s) ≡ s
IsCleanScalar _ = Unit {0}

abbrev pub IsRangedScalar : Scalar → Type 0
IsRangedScalar (double n) = n < 2 ^ 64
IsRangedScalar (string t) = IsUtf8 t
IsRangedScalar (binary s bs) = (subtype_byte s < 256) × AreBytes bs
IsRangedScalar (object_id bs) = (length bs ≡ 12) × AreBytes bs
IsRangedScalar (date_time z) = FitsSigned w64 z
IsRangedScalar (regex p o) = IsUtf8 p × IsUtf8 o
IsRangedScalar (db_pointer t bs) = IsUtf8 t × (length bs ≡ 12) × AreBytes bs
IsRangedScalar (code t) = IsUtf8 t
IsRangedScalar (symbol t) = IsUtf8 t
IsRangedScalar (int32 z) = FitsSigned w32 z
IsRangedScalar (timestamp t i) = (t < 2 ^ 32) × (i < 2 ^ 32)
IsRangedScalar (int64 z) = FitsSigned w64 z
IsRangedScalar (decimal bs) = (length bs ≡ 16) × AreBytes bs
IsRangedScalar _ = Unit {0}

-- what holds of every tree considered here: its numbers and texts are those of their kinds, and no key occurs twice
pub record IsSound (v : Value) : Type 0 where
  pub ranged : EachPart IsUtf8 IsRangedScalar v
  pub distinct : HasDistinctKeys v

abbrev pub IsPlain : Value → Type 0
IsPlain v = EachPart HasNo00 IsPlainScalar v

abbrev pub IsClean : Value → Type 0
IsClean v = EachPart HasNo00 (λ s. IsPlainScalar s × IsCleanScalar s) v
