use Rattle.std.proofs.Common.{◌∙◌, arith}
use Rattle.bson_decimal.proofs.WholeLemmas.{round_cut, round_exact}
use Rattle.bson_decimal.proofs.wholes.round.Goals as goal

pub returns-then-unit-e-clause-equal : goal.returns-then-unit-e-clause-equal
returns-then-unit-e-clause-equal c = let a = c.in-Finite in c.align.ensures.equal ∙ round_exact c.args.rounding c.args.a a.s a.c a.e c.args.unit a.is c.if-unit-e.true

pub returns-else-unit-e-clause-equal : goal.returns-else-unit-e-clause-equal
returns-else-unit-e-clause-equal c = let a = c.in-Finite in round_cut c.args.rounding c.args.a a.s a.c a.e c.args.unit c.whole.result a.is (omega arith) c.requires.range c.whole.ensures.equal c.whole.ensures.small
