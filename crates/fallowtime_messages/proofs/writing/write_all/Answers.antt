use Rattle.std.proofs.Common.{rules, ap, ◌≡◌, ◌∙◌, arith, length, sym, subst, Ok, true, false}
use Rattle.std.proofs.lemmas.List.{nil_from_length}
use Rattle.std.proofs.lemmas.Result.{err_from_is_err_and}
use Rattle.std.specs.Vec.Iter.{into_iter_items}
use Rattle.bson_store.specs.Calls.{store_state}
use Rattle.fallowtime_messages.specs.Done.{DoesAll}
use Rattle.fallowtime_messages.specs.Runs.{RunsTo}
use Rattle.fallowtime_messages.proofs.RunLemmas.{all_run, begin, cut, ended, went_on}
use Rattle.fallowtime_messages.proofs.writing.write_all.Goals as goal

pub loop-statement-init : goal.loop-statement-init
loop-statement-init g c =
    let gives = c.into_iter-statement-iterator.ensures.into_iter_gives in
    let all = ap length gives.0 in (
      begin c.args.stops c.args.statements.items (store_state g.S.Store c.args.store.now) (into_iter_items c.into_iter-statement-iterator.result) c.begun-written.result gives.0 c.begun-written.ensures,
      omega (arith, all, gives.1, c.args.statements.ok.0),
      tt,
      tt,
    )

pub loop-statement-preserved : goal.loop-statement-preserved
loop-statement-preserved g c =
    let l = c.loop-statement in
    let steps = c.in-Some.ensures.steps in
    let fewer = ap length steps.0 in
    let is : c.write_one.result ≡ Ok false = search rules in (
      went_on c.args.stops c.args.statements.items (store_state g.S.Store c.args.store.now) (into_iter_items l.statement-iterator) (into_iter_items c.next.new.self) c.in-Some.statement steps.0 l.written c.write_one.new.written
          (store_state g.S.Store l.store) (store_state g.S.Store c.write_one.new.store) l.invariant.0 c.write_one.result is c.write_one.ensures,
      omega (arith, fewer, steps.1, l.invariant.1),
      tt,
      tt,
    )

pub returns-then-is_last : goal.returns-then-is_last
returns-then-is_last g c =
    let l = c.loop-statement in
    let is : c.write_one.result ≡ Ok true = search rules in
    ended c.args.stops c.args.statements.items (store_state g.S.Store c.args.store.now) (into_iter_items l.statement-iterator) (into_iter_items c.next.new.self) c.in-Some.statement c.in-Some.ensures.steps.0 l.written c.write_one.new.written
    (store_state g.S.Store l.store) (store_state g.S.Store c.write_one.new.store) l.invariant.0 c.write_one.result is c.write_one.ensures

pub returns-in_err-is_last : goal.returns-in_err-is_last
returns-in_err-is_last g c =
    let l = c.loop-statement in
    let p = err_from_is_err_and c.from_residual.result c.from_residual.ensures.1 in
    subst (λ r. DoesAll (RunsTo c.args.stops c.args.statements.items r) (store_state g.S.Store c.args.store.now) (store_state g.S.Store c.write_one.new.store)) (sym p.1)
    (cut c.args.stops c.args.statements.items (store_state g.S.Store c.args.store.now) (into_iter_items l.statement-iterator) (into_iter_items c.next.new.self) c.in-Some.statement c.in-Some.ensures.steps.0 l.written c.write_one.new.written
    (store_state g.S.Store l.store) (store_state g.S.Store c.write_one.new.store) l.invariant.0 p.0 c.write_one.result c.write_one.ensures)

pub returns : goal.returns
returns g c =
    let l = c.loop-statement in
    all_run c.args.stops c.args.statements.items (store_state g.S.Store c.args.store.now) (into_iter_items l.statement-iterator) l.written (store_state g.S.Store l.store)
    (nil_from_length (into_iter_items l.statement-iterator) (l.invariant.1 ∙ c.in-None.ensures.steps.0)) l.invariant.0
