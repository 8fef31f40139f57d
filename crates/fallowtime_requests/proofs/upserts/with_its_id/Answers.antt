use Rattle.bson_model.specs.View.{content, view}
use Rattle.fallowtime_requests.proofs.UpsertLemmas.{placed}
use Rattle.fallowtime_requests.proofs.upserts.with_its_id.Goals as goal

pub returns : goal.returns
returns c = placed (view c.args.id) (content c.args.by) c.has_other_id.result c.has_other_id.ensures (content c.in_ok-fronted.field-0) c.if-has_other_id.false c.in_ok-fronted.ensures
