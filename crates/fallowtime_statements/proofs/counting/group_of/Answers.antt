use Rattle.bson_model.specs.View.{view}
use Rattle.fallowtime_statements.proofs.CountLemmas.{groups}
use Rattle.fallowtime_statements.proofs.counting.group_of.Goals as goal

pub returns-in-Some : goal.returns-in-Some
returns-in-Some c = groups (view c.args.stage.now) (view c.in-Some.value.now) c.group_in.result (rw c.in-Some.is at c.operand_of.ensures) c.group_in.ensures
