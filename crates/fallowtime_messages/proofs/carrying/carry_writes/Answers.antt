use Rattle.std.proofs.Common.{sym, subst}
use Rattle.std.proofs.lemmas.Result.{err_from_is_err_and}
use Rattle.bson_store.specs.Calls.{store_state}
use Rattle.fallowtime_messages.specs.Done.{DoesAll}
use Rattle.fallowtime_messages.specs.Outcomes.{CarriesOrStarts}
use Rattle.fallowtime_statements.specs.declared.plans.asked.Plan.TheVariants as plan
use Rattle.fallowtime_messages.proofs.OutcomeLemmas.{all_written, some_written}
use Rattle.fallowtime_messages.proofs.carrying.carry_writes.Goals as goal

pub returns-in_err-written : goal.returns-in_err-written
returns-in_err-written g c = λ xs.
    let p = err_from_is_err_and c.from_residual.result c.from_residual.ensures.1 in
    let s = store_state g.S.Store c.args.store.now in
    let u = store_state g.S.Store c.write_all.new.store in
    subst (λ r. DoesAll (CarriesOrStarts (plan.Writes c.args.statements c.args.stops c.args.told_changed) xs xs r) s u) (sym p.1)
    (some_written c.args.statements c.args.stops c.args.told_changed xs s u c.in_err-written.field-0.0 p.0 c.in_err-written.ensures)

pub returns : goal.returns
returns g c = λ xs.
    all_written c.args.statements c.args.stops c.args.told_changed xs (store_state g.S.Store c.args.store.now) (store_state g.S.Store c.write_all.new.store) c.in_ok-written.written c.tell_written.result c.in_ok-written.ensures c.tell_written.ensures
