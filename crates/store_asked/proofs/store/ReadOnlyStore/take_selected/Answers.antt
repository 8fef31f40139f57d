use Rattle.std.proofs.Common.{inr, refl}
use Rattle.std.proofs.lemmas.Result.{err_from_is_err_and}
use Rattle.store_question.specs.Filters.{filter_of}
use Rattle.store_documents.specs.Names.{name_bytes}
use Rattle.store_asked.proofs.ReadLemmas.{picked_from}
use Rattle.store_asked.proofs.store.ReadOnlyStore.take_selected.Goals as goal

pub returns-in_err-name-clause-reads : goal.returns-in_err-name-clause-reads
returns-in_err-name-clause-reads g c clean docs are =
    let p = err_from_is_err_and c.from_residual.result c.from_residual.ensures.1 in
    rw (p.1, p.2, c.in_err-name.ensures.0) (inr (c.in_err-name.ensures.1, refl, refl))

pub returns-clause-reads : goal.returns-clause-reads
returns-clause-reads g c clean docs are = picked_from (g.T.Take.took c.args.taker) docs c.args.name.now (name_bytes c.in_ok-name.name) (filter_of c.args.filter.now) c.pick.result c.in_ok-name.ensures.0 c.in_ok-name.ensures.1 (c.pick.ensures.reads clean docs are)
