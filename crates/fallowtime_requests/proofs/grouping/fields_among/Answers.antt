use Rattle.std.proofs.Common.{add-one}
use Rattle.std.proofs.lemmas.Result.{err_from_is_err_and}
use Rattle.fallowtime_requests.proofs.GroupLemmas.{all_fields, no_field_here, one_added}
use Rattle.fallowtime_requests.proofs.OperandLemmas.{so_stops}
use Rattle.fallowtime_requests.proofs.grouping.fields_among.Goals as goal

pub loop-name-preserved : goal.loop-name-preserved
loop-name-preserved c =
    let l = c.loop-name in
    rw add-one (
    one_added c.args.members.now l.fields.items l.name-index c.loop-name-item.result l.invariant c.loop-name-test.true c.loop-name-item.is c.add_field.new.fields.items c.in_ok-add_field.ensures.added
    )

pub returns-in_err-add_field : goal.returns-in_err-add_field
returns-in_err-add_field c =
    let l = c.loop-name in
    let p = err_from_is_err_and c.from_residual.result c.from_residual.ensures.1 in
    rw (p.1, p.2) (so_stops _ _ c.in_err-add_field.field-0.0 (no_field_here c.args.members.now l.fields.items l.name-index c.loop-name-item.result l.invariant c.loop-name-test.true c.loop-name-item.is) c.in_err-add_field.ensures.stop)

pub returns : goal.returns
returns c = all_fields c.args.members.now c.loop-name.fields.items c.loop-name.name-index c.loop-name.invariant c.loop-name-test.false
