use Rattle.bson_model.specs.View.{content, view}
use Rattle.fallowtime_statements.proofs.CountLemmas.{counts_all}
use Rattle.fallowtime_statements.proofs.counting.count_in.Goals as goal

pub returns-in-Some : goal.returns-in-Some
returns-in-Some c = counts_all (content c.args.group.now) (view c.in-Some.count.now) c.sum_in.result (rw c.in-Some.is at c.value_in.ensures) c.sum_in.ensures
