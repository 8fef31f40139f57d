use Rattle.bson_model.specs.View.{view}
use Rattle.fallowtime_statements.proofs.CountLemmas.{matches}
use Rattle.fallowtime_statements.proofs.counting.query_of.Goals as goal

pub returns-in-Some : goal.returns-in-Some
returns-in-Some c = matches (view c.args.stage.now) (view c.in-Some.value.now) c.copy_of_value.result (rw c.in-Some.is at c.operand_of.ensures) c.copy_of_value.ensures
