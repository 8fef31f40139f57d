-- What clauses see of vectors, and what reading one returns.
use Rattle.std.specs.Prelude.{◌≡◌, ℕ, true, false, List, Result, Ok, Err}
use Rattle.bson_base.specs.declared.binary.vector.Vector.{Vector}
use Rattle.bson_base.specs.declared.binary.vector.Vector.TheVariants.{Int8, Float32, PackedBit}
use Rattle.bson_base.specs.declared.binary.vector.PackedBitVector.{PackedBitVector}
use Rattle.bson_base.specs.declared.binary.Error.{Error}
use Rattle.bson_base.specs.declared.binary.Error.TheVariants as errors
use Rattle.bson_base.specs.VectorBytes.{VectorValue, int8, float32, packed_bit, vector_bytes, is_vector}

abbrev pub packed_value : PackedBitVector → VectorValue
packed_value p = packed_bit p.padding p.vector.items

abbrev pub vector_value : Vector → VectorValue
vector_value (Int8 v) = int8 v.items
vector_value (Float32 v) = float32 v.items
vector_value (PackedBit p) = packed_value p

-- a vector exactly if the bytes are one, except out of memory
abbrev pub ReadsVector : List ℕ → Result Vector Error → Type 0
ReadsVector bs (Ok v) = (is_vector bs ≡ true) × (vector_bytes (vector_value v) ≡ bs)
ReadsVector bs (Err errors.Vector) = is_vector bs ≡ false
ReadsVector bs (Err errors.Memory) = is_vector bs ≡ true
ReadsVector bs (Err errors.DecodingError) = ⊥
