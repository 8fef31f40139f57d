use Rattle.std.proofs.Common.{ap, ◌∙◌}
use Rattle.bson_meaning.specs.Views.{view_scalar}
use Rattle.bson_model.specs.View.{view}
use Rattle.bson_order.specs.Shown.{leaf_of}
use Rattle.bson_order.proofs.TreeLemmas.{leaves_lie}
use Rattle.bson_order.proofs.trees.compare_leaves.Goals as goal

pub returns : goal.returns
returns c = leaves_lie (view_scalar c.leaf.result) (view_scalar c.leaf-2.result) c.compare_scalars.result c.compare_scalars.ensures (view c.args.value.now) (view c.args.other.now) c.requires c.leaf.ensures c.leaf-2.ensures
