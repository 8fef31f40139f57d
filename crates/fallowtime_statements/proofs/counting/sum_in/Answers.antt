use Rattle.bson_model.specs.View.{view}
use Rattle.fallowtime_statements.proofs.CountLemmas.{sums}
use Rattle.fallowtime_statements.proofs.counting.sum_in.Goals as goal

pub returns-in-Some : goal.returns-in-Some
returns-in-Some c = sums (view c.args.count.now) (view c.in-Some.value.now) c.one_in.result (rw c.in-Some.is at c.operand_of.ensures) c.one_in.ensures
