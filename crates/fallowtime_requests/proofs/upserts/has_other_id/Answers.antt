use Rattle.bson_model.specs.View.{pairs_of, view}
use Rattle.fallowtime_requests.proofs.UpsertLemmas.{none_differs, own_differs}
use Rattle.fallowtime_requests.proofs.upserts.has_other_id.Goals as goal

pub returns-in-Some : goal.returns-in-Some
returns-in-Some c = own_differs (view c.args.id.now) (view c.in-Some.own.now) (pairs_of c.args.document.now) c.same_meaning.result c.in-Some.ensures c.same_meaning.ensures

pub returns-in-None : goal.returns-in-None
returns-in-None c = none_differs (view c.args.id.now) (pairs_of c.args.document.now) c.in-None.ensures
