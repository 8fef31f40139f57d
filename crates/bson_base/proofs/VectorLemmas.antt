-- The bytes of vectors.
use Rattle.std.proofs.Common.{◌≡◌, ℕ, ◌+◌, ◌%◌, List, [], ◌∷◌, true, length, get_or, drop, refl, sym, ap, ◌∙◌, arith, length-append, ◌<◌, ◌^◌, map}
use Rattle.std.specs.Prelude.{◌==◌, ℤ, FitsSigned}
use Rattle.std.proofs.lemmas.Int.{to_z-of_z}
use Rattle.std.proofs.lemmas.Nat.{from_le_bytes-to_le_bytes_4}
use Rattle.std.proofs.lemmas.List.Elements.{All-head, All-tail}
use Rattle.std.specs.List.{flat_map, All}
use Rattle.std.specs.Int.{w8, w32, to_le_bytes, from_le_bytes, cast_signed, cast_unsigned}
use Rattle.bson_base.specs.declared.binary.vector.Vector.{Vector}
use Rattle.bson_base.specs.declared.binary.vector.Vector.TheVariants.{Int8, Float32, PackedBit}
use Rattle.bson_base.specs.VectorBytes.{VectorValue, int8, float32, packed_bit, IsRangedVector, vector_bytes, is_vector}
use Rattle.bson_base.specs.Vectors.{vector_value}

whole_patterns : (ns : List ℕ) → length (flat_map (to_le_bytes w32) ns) % 4 ≡ 0
whole_patterns [] = refl
whole_patterns (n ∷ ns) =
    let long : length (flat_map (to_le_bytes w32) (n ∷ ns)) ≡ 4 + length (flat_map (to_le_bytes w32) ns) = length-append (to_le_bytes w32 n) (flat_map (to_le_bytes w32) ns) in
    omega (arith, long, whole_patterns ns)

pub written_is_vector : (v : Vector) → is_vector (vector_bytes (vector_value v)) ≡ true
written_is_vector (Int8 v) = refl
written_is_vector (Float32 v) = ap (λ k. k == 0) (whole_patterns v.items)
written_is_vector (PackedBit p) = p.padded

-- the numbers that groups of four bytes encode
abbrev numbers_of : List ℕ → List ℕ
numbers_of (a ∷ b ∷ c ∷ d ∷ bs) = from_le_bytes w32 (a ∷ b ∷ c ∷ d ∷ []) ∷ numbers_of bs
numbers_of _ = []

numbers_back : (ns : List ℕ) → All (λ n. n < 2 ^ 32) ns → numbers_of (flat_map (to_le_bytes w32) ns) ≡ ns
numbers_back [] small = refl
numbers_back (n ∷ ns) small =
    let first : from_le_bytes w32 (to_le_bytes w32 n) ≡ n = from_le_bytes-to_le_bytes_4 n (All-head (λ m. m < 2 ^ 32) n ns small) in
    ap (λ m. m ∷ numbers_of (flat_map (to_le_bytes w32) ns)) first ∙ ap (λ l. n ∷ l) (numbers_back ns (All-tail (λ m. m < 2 ^ 32) n ns small))

signs_back : (zs : List ℤ) → All (FitsSigned w8) zs → map (cast_signed w8) (map (cast_unsigned w8) zs) ≡ zs
signs_back [] small = refl
signs_back (z ∷ zs) small =
    ap (λ y. y ∷ map (cast_signed w8) (map (cast_unsigned w8) zs)) (to_z-of_z w8 z (All-head (FitsSigned w8) z zs small)) ∙ ap (λ l. z ∷ l) (signs_back zs (All-tail (FitsSigned w8) z zs small))

-- the first byte says which type it is
types_agree : (x y : VectorValue) → vector_bytes x ≡ vector_bytes y → get_or (vector_bytes x) 0 0 ≡ get_or (vector_bytes y) 0 0
types_agree x y e = ap (λ l. get_or l 0 0) e

int8_apart : (zs ys : List ℤ) → All (FitsSigned w8) zs → All (FitsSigned w8) ys → map (cast_unsigned w8) zs ≡ map (cast_unsigned w8) ys → zs ≡ ys
int8_apart zs ys p q e = sym (signs_back zs p) ∙ ap (map (cast_signed w8)) e ∙ signs_back ys q

float32_apart : (ns ms : List ℕ) → All (λ n. n < 2 ^ 32) ns → All (λ n. n < 2 ^ 32) ms → flat_map (to_le_bytes w32) ns ≡ flat_map (to_le_bytes w32) ms → ns ≡ ms
float32_apart ns ms p q e = sym (numbers_back ns p) ∙ ap numbers_of e ∙ numbers_back ms q

pub bytes_apart : (x y : VectorValue) → IsRangedVector x → IsRangedVector y → vector_bytes x ≡ vector_bytes y → x ≡ y
bytes_apart (int8 zs) (int8 ys) p q e = let rest : map (cast_unsigned w8) zs ≡ map (cast_unsigned w8) ys = ap (drop 2) e in ap int8 (int8_apart zs ys p q rest)
bytes_apart (float32 ns) (float32 ms) p q e = let rest : flat_map (to_le_bytes w32) ns ≡ flat_map (to_le_bytes w32) ms = ap (drop 2) e in ap float32 (float32_apart ns ms p q rest)
bytes_apart (packed_bit k bs) (packed_bit j cs) p q e = ap (λ l. packed_bit (get_or l 1 0) (drop 2 l)) e
bytes_apart (int8 zs) (float32 ms) p q e = let h : ◌≡◌ {A = ℕ} 3 39 = types_agree (int8 zs) (float32 ms) e in absurd (omega (arith, h))
bytes_apart (int8 zs) (packed_bit j cs) p q e = let h : ◌≡◌ {A = ℕ} 3 16 = types_agree (int8 zs) (packed_bit j cs) e in absurd (omega (arith, h))
bytes_apart (float32 ns) (int8 ys) p q e = let h : ◌≡◌ {A = ℕ} 39 3 = types_agree (float32 ns) (int8 ys) e in absurd (omega (arith, h))
bytes_apart (float32 ns) (packed_bit j cs) p q e = let h : ◌≡◌ {A = ℕ} 39 16 = types_agree (float32 ns) (packed_bit j cs) e in absurd (omega (arith, h))
bytes_apart (packed_bit k bs) (int8 ys) p q e = let h : ◌≡◌ {A = ℕ} 16 3 = types_agree (packed_bit k bs) (int8 ys) e in absurd (omega (arith, h))
bytes_apart (packed_bit k bs) (float32 ms) p q e = let h : ◌≡◌ {A = ℕ} 16 39 = types_agree (packed_bit k bs) (float32 ms) e in absurd (omega (arith, h))
