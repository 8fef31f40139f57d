use Rattle.bson_model.specs.View.{view}
use Rattle.fallowtime_requests.proofs.OwnIdLemmas.{not_absent, own}
use Rattle.fallowtime_requests.proofs.reading.own_id.Goals as goal

pub unreachable-requires : goal.unreachable-requires
unreachable-requires c = not_absent c.args.document.now c.requires c.in-None.ensures

pub returns : goal.returns
returns c = own c.args.document.now (view c.in-Some.id.now) c.try_clone.result c.in-Some.ensures c.try_clone.ensures
