use Rattle.std.proofs.Common.{◌∙◌}
use Rattle.bson_decimal.proofs.ScaleLemmas.{signed_sum_beyond}
use Rattle.bson_decimal.proofs.sums.align_beyond.Goals as goal

pub returns-clause-equal : goal.returns-clause-equal
returns-clause-equal c = c.signed_sum.ensures.equal ∙ signed_sum_beyond c.args.s c.args.t c.args.c c.args.d c.args.f c.args.m c.sticky_quotient.result c.requires.first c.requires.full c.requires.second c.requires.range c.sticky_quotient.ensures.small c.sticky_quotient.ensures.equal
