use Rattle.std.proofs.Common.{refl, rules, sym}
use Rattle.std.proofs.lemmas.Int.{to_z-of_z}
use Rattle.std.specs.Int.{w64}
use Rattle.std.specs.Prelude.{FitsSigned}
use Rattle.store_asked.proofs.SpanLemmas.{wide_in}
use Rattle.store_asked.proofs.spans.hull.Goals as goal

pub returns-then-a-b-clause-first : goal.returns-then-a-b-clause-first
returns-then-a-b-clause-first c =
    let a = c.args.a in
    let low : FitsSigned w64 a.low = search rules in
    let high : FitsSigned w64 a.high = search rules in
    let least : FitsSigned w64 c.lesser.result = search rules in
    let most : FitsSigned w64 c.greater.result = search rules in
    rw (to_z-of_z w64 c.lesser.result least, to_z-of_z w64 c.greater.result most)
    (wide_in a a.rank c.lesser.result c.greater.result refl (rw (to_z-of_z w64 a.low low) at c.lesser.ensures.first) (rw (to_z-of_z w64 a.high high) at c.greater.ensures.first))

pub returns-then-a-b-clause-second : goal.returns-then-a-b-clause-second
returns-then-a-b-clause-second c =
    let b = c.args.b in
    let low : FitsSigned w64 b.low = search rules in
    let high : FitsSigned w64 b.high = search rules in
    let least : FitsSigned w64 c.lesser.result = search rules in
    let most : FitsSigned w64 c.greater.result = search rules in
    rw (to_z-of_z w64 c.lesser.result least, to_z-of_z w64 c.greater.result most)
    (wide_in b c.args.a.rank c.lesser.result c.greater.result (sym c.if-a-b.true) (rw (to_z-of_z w64 b.low low) at c.lesser.ensures.second) (rw (to_z-of_z w64 b.high high) at c.greater.ensures.second))
