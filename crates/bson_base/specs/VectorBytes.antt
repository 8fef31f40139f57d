-- The bytes of a vector of numbers (bsonspec.org 1.1, binary subtype 09): a byte of the type, a byte of the padding, the numbers.
use Rattle.std.specs.Prelude.{ℕ, ℤ, ◌<◌, ◌^◌, ◌%◌, Bool, false, ◌==◌, ◌&&◌, ◌||◌, nat_lt, if◌then◌else◌, List, [], ◌∷◌, map, length, FitsSigned}
use Rattle.std.specs.List.{flat_map, All}
use Rattle.std.specs.Int.{w8, w32, cast_unsigned, to_le_bytes}

pub data VectorValue : Type 0 where
  int8 : List ℤ → VectorValue
  -- patterns of 32 bits
  float32 : List ℕ → VectorValue
  -- how many of the last byte's low bits don't count, and the bytes
  packed_bit : ℕ → List ℕ → VectorValue

abbrev pub vector_bytes : VectorValue → List ℕ
vector_bytes (int8 zs) = 0x03 ∷ 0 ∷ map (cast_unsigned w8) zs
vector_bytes (float32 ns) = 0x27 ∷ 0 ∷ flat_map (to_le_bytes w32) ns
vector_bytes (packed_bit p bs) = 0x10 ∷ p ∷ bs

-- p bits of the last byte can be left out
abbrev pub is_padding : ℕ → List ℕ → Bool
is_padding p bs = p == 0 || (nat_lt p 8 && nat_lt 0 (length bs))

-- whether the bytes are those of a vector
abbrev pub is_vector : List ℕ → Bool
is_vector [] = false
is_vector (t ∷ []) = false
is_vector (t ∷ p ∷ ns) = if t == 0x03 then p == 0 else (if t == 0x27 then p == 0 && length ns % 4 == 0 else t == 0x10 && is_padding p ns)

-- the numbers of the vector fit their type
abbrev pub IsRangedVector : VectorValue → Type 0
IsRangedVector (int8 zs) = All (FitsSigned w8) zs
IsRangedVector (float32 ns) = All (λ n. n < 2 ^ 32) ns
IsRangedVector (packed_bit p bs) = Unit {0}
