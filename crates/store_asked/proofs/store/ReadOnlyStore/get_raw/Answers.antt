use Rattle.std.proofs.lemmas.Result.{err_from_is_err_and}
use Rattle.bson_model.specs.View.{view}
use Rattle.store_model.specs.State as model
use Rattle.bson_store.proofs.ServeLemmas.{bad_name}
use Rattle.store_asked.proofs.ReadLemmas.{got_body, got_none, not_got}
use Rattle.store_asked.proofs.store.ReadOnlyStore.get_raw.Goals as goal

pub returns-in_err-name-clause-reads : goal.returns-in_err-name-clause-reads
returns-in_err-name-clause-reads g c clean docs are =
    let p = err_from_is_err_and c.from_residual.result c.from_residual.ensures.1 in
    rw (p.1, p.2, c.in_err-name.ensures.0) (bad_name docs c.args.name.now (model.get_raw (view c.args.id.now)) c.in_err-name.ensures.1)

pub returns-in_err-body-clause-reads : goal.returns-in_err-body-clause-reads
returns-in_err-body-clause-reads g c clean docs are =
    let p = err_from_is_err_and c.from_residual-in_err-body.result c.from_residual-in_err-body.ensures.1 in
    rw (p.1, p.2) (not_got docs c.args.name.now _ (view c.args.id.now) c.in_err-body.field-0.0 c.in_ok-name.ensures.0 c.in_ok-name.ensures.1 (c.in_err-body.ensures.reads clean docs are))

pub returns-in_default-clause-reads : goal.returns-in_default-clause-reads
returns-in_default-clause-reads g c clean docs are =
    rw c.from.ensures (got_none docs c.args.name.now _ (view c.args.id.now) c.in_ok-body.field-0 c.in_ok-name.ensures.0 c.in_ok-name.ensures.1 c.in_default.is (c.in_ok-body.ensures.reads clean docs are))

pub returns-clause-reads : goal.returns-clause-reads
returns-clause-reads g c clean docs are =
    got_body docs c.args.name.now _ (view c.args.id.now) c.in_ok-body.field-0 c.in-Some.body c.in_ok-name.ensures.0 c.in_ok-name.ensures.1 c.in-Some.is (c.in_ok-body.ensures.reads clean docs are)
