use Rattle.bson_model.specs.View.{view}
use Rattle.fallowtime_statements.proofs.CountLemmas.{limits}
use Rattle.fallowtime_statements.proofs.counting.limit_in.Goals as goal

pub returns-in-Some : goal.returns-in-Some
returns-in-Some c = limits (view c.args.stage.now) (view c.in-Some.value.now) c.number_of.result (rw c.in-Some.is at c.operand_of.ensures) c.number_of.ensures
