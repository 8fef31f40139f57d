use Rattle.std.proofs.Common.{◌∙◌, of_z, rules, to_z}
use Rattle.std.proofs.lemmas.Int.{to_z-of_z}
use Rattle.std.specs.Int.{w64}
use Rattle.std.specs.Prelude.{FitsSigned}
use Rattle.store_asked.proofs.SpanLemmas.{compared_some}
use Rattle.store_asked.proofs.spans.compared.Goals as goal

pub returns-then-has_parts : goal.returns-then-has_parts
returns-then-has_parts c =
    let p = c.part_of.result in
    let small : FitsSigned w64 p = search rules in
    compared_some c.rises.ensures c.falls.ensures c.fits.ensures c.args.value c.args.comparison c.rank_of-rank.result (to_z w64 (of_z w64 p)) c.side.result (c.has_parts.ensures c.if-has_parts.true) c.rank_of-rank.ensures (λ w spells. to_z-of_z w64 p small ∙ c.part_of.ensures w spells) c.side.ensures.same
    c.side.ensures.low c.side.ensures.high
