use Rattle.bson_order.specs.Sizes.{size_of}
use Rattle.bson_order.proofs.SizeLemmas.{no_more, negatives}
use Rattle.bson_order.proofs.numbers.compare_signed.Goals as goal

pub returns-then-negative : goal.returns-then-negative
returns-then-negative c = negatives c.args.negative c.args.below (size_of c.args.size) (size_of c.args.measure) c.compare_sizes.result c.if-negative-below.true c.if-negative.true (no_more c.args.size c.requires.first) (no_more c.args.measure c.requires.second) c.compare_sizes.ensures
