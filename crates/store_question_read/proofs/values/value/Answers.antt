use Rattle.bson_model.specs.View.{view}
use Rattle.json.specs.Value.{value_view}
use Rattle.store_question_read.proofs.HeldLemmas.{value_given}
use Rattle.store_question_read.proofs.values.value.Goals as goal

pub returns : goal.returns
returns c = value_given c.args.key.now (value_view c.args.tree.now) (view c.in_ok-value.value) c.held.result c.in_ok-value.ensures c.held.ensures
