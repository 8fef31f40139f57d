use Rattle.bson_model.specs.View.{view}
use Rattle.fallowtime_statements.proofs.CountLemmas.{by_limit, by_skip}
use Rattle.fallowtime_statements.proofs.counting.counting_of_three.Goals as goal

pub returns-then-is_some : goal.returns-then-is_some
returns-then-is_some c = by_skip c.counting_by.result (view c.args.first.now) (view c.args.second.now) (view c.args.group.now) c.counting_by.ensures

pub returns-else-is_some : goal.returns-else-is_some
returns-else-is_some c = by_limit c.counting_by-else-is_some.result (view c.args.first.now) (view c.args.second.now) (view c.args.group.now) c.counting_by-else-is_some.ensures
