use Rattle.std.proofs.Common.{◌≡◌, rules, refl}
use Rattle.std.proofs.lemmas.Result.{err_from_is_err_and}
use Rattle.store_model.specs.State as model
use Rattle.bson_store.proofs.ServeLemmas.{bad_name}
use Rattle.store_asked.proofs.ReadLemmas.{joined_as, refused_as, unjoined_as}
use Rattle.store_asked.proofs.store.ReadOnlyStore.export.Goals as goal

pub returns-in_err-name-clause-reads : goal.returns-in_err-name-clause-reads
returns-in_err-name-clause-reads g c clean docs are =
    let p = err_from_is_err_and c.from_residual.result c.from_residual.ensures.1 in
    rw (p.1, p.2, c.in_err-name.ensures.0) (bad_name docs c.args.name.now model.export c.in_err-name.ensures.1)

pub returns-in-Err-clause-reads : goal.returns-in-Err-clause-reads
returns-in-Err-clause-reads g c clean docs are =
    let visits = c.visit_bodies-joined.ensures.visits clean docs are in
    rw c.refusal_of.ensures (unjoined_as docs c.args.name.now _ _ _ _ c.in-Err.fault c.in_ok-name.ensures.1 c.in-Err.is visits)

pub returns-in-None-clause-reads : goal.returns-in-None-clause-reads
returns-in-None-clause-reads g c clean docs are =
    let same : c.as_bytes.result.now ≡ c.args.name.now = search rules in
    joined_as docs c.args.name.now c.as_bytes.result.now _ c.visit_bodies-joined.result.0 _ c.in-Ok.field-0 c.in_ok-name.ensures.1 (search rules) refl same c.in-Ok.is c.in-None.is c.visit_bodies-joined.ensures.stopped (c.visit_bodies-joined.ensures.visits clean docs are)

pub returns-in-Some-clause-reads : goal.returns-in-Some-clause-reads
returns-in-Some-clause-reads g c clean docs are =
    let same : c.as_bytes.result.now ≡ c.args.name.now = search rules in
    refused_as docs c.args.name.now c.as_bytes.result.now _ c.visit_bodies-joined.result.0 _ c.in-Ok.field-0 c.in-Some.error c.in_ok-name.ensures.1 (search rules) refl same c.in-Ok.is c.in-Some.is (c.visit_bodies-joined.ensures.visits clean docs are)
