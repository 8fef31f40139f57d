use Rattle.std.proofs.Common.{ap, refl}
use Rattle.std.proofs.lemmas.Result.{err_from_is_err_and}
use Rattle.store_question.specs.Filters.{filter_of}
use Rattle.store_model.specs.State as model
use Rattle.bson_store.specs.Refusals.{as_number}
use Rattle.bson_store.proofs.ServeLemmas.{bad_name}
use Rattle.bson_store.proofs.SelectLemmas.{HasCounted}
use Rattle.store_asked.proofs.ReadLemmas.{picked, unpicked}
use Rattle.store_asked.proofs.store.ReadOnlyStore.count.Goals as goal

pub returns-in_err-name-clause-reads : goal.returns-in_err-name-clause-reads
returns-in_err-name-clause-reads g c clean docs are =
    let p = err_from_is_err_and c.from_residual.result c.from_residual.ensures.1 in
    rw (p.1, p.2, c.in_err-name.ensures.0) (bad_name docs c.args.name.now (model.count (filter_of c.args.filter.now)) c.in_err-name.ensures.1)

pub returns-in_err-count-clause-reads : goal.returns-in_err-count-clause-reads
returns-in_err-count-clause-reads g c clean docs are =
    let p = err_from_is_err_and c.from_residual-in_err-count.result c.from_residual-in_err-count.ensures.1 in
    rw (p.1, p.2) (unpicked (HasCounted) docs c.args.name.now _ (filter_of c.args.filter.now) c.in_err-count.field-0.0 (model.count (filter_of c.args.filter.now)) c.in_ok-name.ensures.0 c.in_ok-name.ensures.1 (λ d. d) (c.in_err-count.ensures.reads clean docs are))

pub returns-clause-reads : goal.returns-clause-reads
returns-clause-reads g c clean docs are =
    picked (HasCounted) docs c.args.name.now _ (filter_of c.args.filter.now) c.in_ok-count.count (model.count (filter_of c.args.filter.now)) (as_number c.in_ok-count.count.number) c.in_ok-name.ensures.0 c.in_ok-name.ensures.1 (λ l out picks t. (out, picks, ap model.number t, refl)) (c.in_ok-count.ensures.reads clean docs are)
