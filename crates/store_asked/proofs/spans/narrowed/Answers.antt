use Rattle.std.proofs.Common.{rules}
use Rattle.std.proofs.lemmas.Int.{to_z-of_z}
use Rattle.std.specs.Int.{w64}
use Rattle.std.specs.Prelude.{FitsSigned}
use Rattle.store_asked.proofs.SpanLemmas.{narrow_in}
use Rattle.store_asked.proofs.spans.narrowed.Goals as goal

pub returns : goal.returns
returns c =
    let a = c.args.a in
    let b = c.args.b in
    let low_a : FitsSigned w64 a.low = search rules in
    let low_b : FitsSigned w64 b.low = search rules in
    let high_a : FitsSigned w64 a.high = search rules in
    let high_b : FitsSigned w64 b.high = search rules in
    let least : FitsSigned w64 c.greater.result = search rules in
    let most : FitsSigned w64 c.lesser.result = search rules in
    rw (to_z-of_z w64 c.greater.result least, to_z-of_z w64 c.lesser.result most)
    (narrow_in a b c.greater.result c.lesser.result (rw (to_z-of_z w64 a.low low_a, to_z-of_z w64 b.low low_b) at c.greater.ensures.least) (rw (to_z-of_z w64 a.high high_a, to_z-of_z w64 b.high high_b) at c.lesser.ensures.greatest))
