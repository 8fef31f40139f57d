use Rattle.std.proofs.Common.{◌∙◌}
use Rattle.bson_decimal.proofs.WholeLemmas.{few_digits, parts_far, parts_of}
use Rattle.bson_decimal.proofs.wholes.whole.Goals as goal

pub returns-then-k-gt34-clause-equal : goal.returns-then-k-gt34-clause-equal
returns-then-k-gt34-clause-equal c = c.round_parts.ensures.equal ∙ parts_far c.args.rounding c.args.negative c.args.c c.args.k c.requires.coefficient c.if-k-gt34.true

pub round_parts-requires-2 : goal.round_parts-requires-2
round_parts-requires-2 c = few_digits c.args.c c.args.k c.power_of_ten-power.result c.requires.coefficient c.requires.some c.power_of_ten-power.ensures.equal

pub returns-clause-equal : goal.returns-clause-equal
returns-clause-equal c = c.round_parts-2.ensures.equal ∙ parts_of c.args.rounding c.args.negative c.args.c c.args.k c.power_of_ten-power.result c.cmp.result c.power_of_ten-power.ensures.equal c.cmp.ensures
