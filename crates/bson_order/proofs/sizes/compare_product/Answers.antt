use Rattle.bson_order.proofs.SizeLemmas.{times}
use Rattle.bson_order.proofs.sizes.compare_product.Goals as goal

pub returns : goal.returns
returns c = times c.args.a c.args.factor c.args.b c.cmp.result c.through_quotient.result c.requires c.cmp.ensures c.through_quotient.ensures
