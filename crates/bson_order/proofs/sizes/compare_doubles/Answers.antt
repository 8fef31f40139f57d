use Rattle.std.proofs.Common.{◌*◌, ◌^◌, sym, ◌∙◌}
use Rattle.bson_order.proofs.SizeLemmas.{cancel, least_positive}
use Rattle.bson_order.specs.Line.{least_double}
use Rattle.bson_order.proofs.sizes.compare_doubles.Goals as goal

pub returns : goal.returns
returns c = c.compare_twos.ensures ∙ sym (cancel (c.args.s * 2 ^ c.args.x) (c.args.t * 2 ^ c.args.y) least_double least_positive)
