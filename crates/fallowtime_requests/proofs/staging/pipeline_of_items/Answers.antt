use Rattle.json.specs.Value.{value_view}
use Rattle.fallowtime_requests.proofs.StageLemmas.{by_match}
use Rattle.fallowtime_requests.proofs.staging.pipeline_of_items.Goals as goal

pub returns-in-Some-query_of_match : goal.returns-in-Some-query_of_match
returns-in-Some-query_of_match c =
    by_match c.in-Some.first.now c.in-Some.rest.now c.args.items.now c.in-Some.ensures.cases.0 (value_view c.in-Some-query_of_match.query.now) c.in-Some-query_of_match.ensures c.matched.result c.matched.ensures
