use Rattle.std.proofs.Common.{◌<◌, arith, length}
use Rattle.std.proofs.lemmas.Result.{err_from_is_err_and}
use Rattle.fallowtime_commands.proofs.EnterLemmas.{all_entered, none_entered, one_entered}
use Rattle.fallowtime_commands.proofs.importing.entries.Goals as goal

pub loop-row-init : goal.loop-row-init
loop-row-init c ds are = none_entered c.args.stays c.args.name.now ds c.new-edits.result.items c.new-edits.ensures.items

pub loop-row-preserved : goal.loop-row-preserved
loop-row-preserved c ds are =
    let pushed = c.in_ok-push_entry.ensures in
    let low : c.loop-row.row-index < length c.args.rows.now = let h = c.loop-row-test.true in omega (arith, h) in
    one_entered c.args.stays c.args.name.now c.args.rows.now ds c.loop-row.row-index c.row-item.result pushed.0 c.loop-row.edits.items c.push_entry.new.edits.items are low c.row-item.is pushed.2 pushed.1 (c.loop-row.invariant ds are)

pub returns : goal.returns
returns c ds are =
    let end = c.loop-row-test.false in
    all_entered c.args.stays c.args.name.now c.args.rows.now ds c.loop-row.row-index c.loop-row.edits.items are (omega (arith, end)) (c.loop-row.invariant ds are)

pub returns-in_err-push_entry : goal.returns-in_err-push_entry
returns-in_err-push_entry c =
    let p = err_from_is_err_and c.from_residual.result c.from_residual.ensures.1 in
    rw (p.1, p.2) (λ ds are. c.in_err-push_entry.ensures)
