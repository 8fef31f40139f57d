use Rattle.json.specs.Value.{value_view}
use Rattle.store_question_read.specs.Query.{query}
use Rattle.fallowtime_requests.proofs.QueryLemmas.{given}
use Rattle.fallowtime_requests.proofs.staging.question_in.Goals as goal

pub returns-in-Ok : goal.returns-in-Ok
returns-in-Ok c = given c.in-Ok.question (query (value_view c.args.query.now)) c.in-Ok.ensures
