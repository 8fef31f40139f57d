use Rattle.bson_model.specs.View.{view}
use Rattle.fallowtime_statements.proofs.FindLemmas.{from_one}
use Rattle.fallowtime_statements.proofs.finding.from_one.Goals as goal

pub returns : goal.returns
returns c = from_one (view c.args.value.now) c.in_ok-number.number c.in_ok-number.ensures c.if-number-eq0.false
