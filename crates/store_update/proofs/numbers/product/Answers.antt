use Rattle.std.proofs.Common.{◌*ℤ◌}
use Rattle.std.specs.Float.{binary64}
use Rattle.std.specs.Float.Ieee.{mul}
use Rattle.bson_model.specs.View.{view}
use Rattle.store_update.proofs.NumberLemmas.{computed_is}
use Rattle.store_update.proofs.numbers.product.Goals as goal

pub returns : goal.returns
returns c = computed_is (λ x y. x *ℤ y) (mul binary64) (view c.args.one.now) (view c.args.other.now) c.in_ok-x.x c.in_ok-y.y c.are_narrow.result _ c.in_ok-x.ensures c.in_ok-y.ensures c.are_narrow.ensures c.product_as.ensures
