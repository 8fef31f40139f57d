use Rattle.std.proofs.Common.{◌≡◌, nat_eq, sym, ap, true≢false}
use Rattle.std.specs.Bool.{Decides}
use Rattle.std.specs.Cmp.Lexicographic.{pointwise_decides, bytes_decides}
use Rattle.std.proofs.lemmas.Bool.Decides.{Decides-like, Decides-int_eq, Decides-eqb, Decides-and}
use Rattle.bson_base.specs.contracts.binary.vector.VectorPartialEq.TheImpl as vector
use Rattle.bson_base.specs.declared.binary.vector.Vector.{Vector}
use Rattle.bson_base.specs.declared.binary.vector.Vector.TheVariants.{Int8, Float32, PackedBit}
use Rattle.bson_base.specs.VectorBytes.{int8, float32, packed_bit}
use Rattle.bson_base.specs.Vectors.{vector_value}
use Rattle.bson_base.proofs.laws.equal_vectors.Goals as goal

vectors : (x y : Vector) → Decides (vector.ghosts.eq x y) (vector_value x ≡ vector_value y)
vectors (Int8 v) (Int8 w) = Decides-like _ (ap int8) (λ e. cc) (pointwise_decides Decides-int_eq v.items w.items)
vectors (Int8 v) _ = (λ h. absurd (true≢false (sym h)), λ e. absurd (cc))
vectors (Float32 v) (Float32 w) = Decides-like _ (ap float32) (λ e. cc) (bytes_decides v.items w.items)
vectors (Float32 v) _ = (λ h. absurd (true≢false (sym h)), λ e. absurd (cc))
vectors (PackedBit p) (PackedBit q) =
    Decides-like _ (λ h. λ i. packed_bit (h.1 i) (h.0 i)) (λ e. (cc, cc)) (Decides-and _ (nat_eq p.padding q.padding) (bytes_decides p.vector.items q.vector.items) (Decides-eqb p.padding q.padding))
vectors (PackedBit p) _ = (λ h. absurd (true≢false (sym h)), λ e. absurd (cc))

pub returns-clause-vectors : goal.returns-clause-vectors
returns-clause-vectors c = vectors
