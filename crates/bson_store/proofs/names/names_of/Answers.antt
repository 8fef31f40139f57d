use Rattle.std.proofs.Common.{sym, subst}
use Rattle.std.proofs.lemmas.Result.{err_from_is_err_and}
use Rattle.store_model.specs.State.{AreAscending}
use Rattle.bson_store.proofs.NameLemmas.{so_far_start, so_far_more, so_far_all, so_far_utf8, in_order}
use Rattle.bson_store.proofs.names.names_of.Goals as goal

pub loop-name-init : goal.loop-name-init
loop-name-init c = (so_far_start c.args.set.keys c.into_iter-name-iterator.result c.new-names.result.items c.into_iter-name-iterator.ensures.into_iter_gives.0 c.new-names.ensures.items, tt, tt)

pub loop-name-preserved : goal.loop-name-preserved
loop-name-preserved c = (
  so_far_more c.args.set.keys c.loop-name.name-iterator c.next.new.self c.in-Some.name c.loop-name.names.items c.add_name.new.names.items c.in-Some.ensures.steps c.in_ok-add_name.ensures.added c.loop-name.invariant.0,
  tt,
  tt,
)

pub returns-in_err-add_name-clause-refused : goal.returns-in_err-add_name-clause-refused
returns-in_err-add_name-clause-refused c texts =
    let p = err_from_is_err_and c.from_residual.result c.from_residual.ensures.1 in
    rw (p.1, p.2) (c.in_err-add_name.ensures.refused (so_far_utf8 c.args.set.keys c.loop-name.name-iterator c.next.new.self c.in-Some.name c.loop-name.names.items c.in-Some.ensures.steps c.loop-name.invariant.0 texts))

pub returns-clause-same : goal.returns-clause-same
returns-clause-same c = so_far_all c.args.set.keys c.loop-name.name-iterator c.loop-name.names.items c.in-None.ensures.steps.0 c.loop-name.invariant.0

pub returns-clause-ascending : goal.returns-clause-ascending
returns-clause-ascending c = subst AreAscending (sym (so_far_all c.args.set.keys c.loop-name.name-iterator c.loop-name.names.items c.in-None.ensures.steps.0 c.loop-name.invariant.0)) (in_order c.args.set.keys c.into_iter-name-iterator.ensures.into_iter_gives.4)
