-- The places under a rank and a part.
use Rattle.std.specs.Int.{w64}
use Rattle.std.specs.Prelude.{◌≡◌, ℕ, ℤ, FitsSigned, IsSomeAnd, IsTrue, Option}
use Rattle.std.specs.BTreeSet.{contains_by}
use Rattle.std.specs.Ordering.{int_cmp, nat_cmp, ordering_then}
use Rattle.std.specs.declared.cmp.Ordering.{Ordering}
use Rattle.bson_base.specs.Value.{document, Members, value_kind}
use Rattle.bson_order.specs.Order.{rank}
use Rattle.store_model.specs.Filter.{Path, at}
use Rattle.bson_store.specs.Parts.{part}
use Rattle.bson_store.specs.declared.indexed.ranks.Ranks.{Ranks}

-- a rank, a part and a place against those of a key
abbrev pub beside : ℕ → ℤ → ℤ → ℕ × ℤ × ℤ → Ordering
beside r q p k = ordering_then (ordering_then (nat_cmp r k.0) (int_cmp q k.1)) (int_cmp p k.2)

-- the place is under the rank and the part; 64 bits have room for it, as for each place that is put there
abbrev pub HasRanked : Ranks → ℕ → ℤ → ℤ → Type 0
HasRanked rs r q p = IsTrue (contains_by (beside r q p) rs.keys) × FitsSigned w64 p

-- the value at a path has the rank and the part
abbrev pub RankedAt : Members → Path → ℕ → ℤ → Type 0
RankedAt d p r q = IsSomeAnd (at (document d) p) (λ v. (rank (value_kind v) ≡ r) × (part v ≡ q))

-- these are the rank and the part
abbrev pub AreThese : Option (ℕ × ℤ) → ℕ → ℤ → Type 0
AreThese o r q = IsSomeAnd o (λ (own : ℕ × ℤ). (own.0 ≡ r) × (own.1 ≡ q))
