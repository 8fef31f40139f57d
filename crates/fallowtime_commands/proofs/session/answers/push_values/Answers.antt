use Rattle.std.proofs.Common.{add-one}
use Rattle.std.proofs.lemmas.Result.{err_from_is_err_and}
use Rattle.fallowtime_commands.proofs.ValueLemmas.{all_values, at_untold, no_value_yet, one_value_more}
use Rattle.fallowtime_commands.proofs.session.answers.push_values.Goals as goal

pub loop-index-init : goal.loop-index-init
loop-index-init c = no_value_yet c.args.counts c.args.values.now c.args.line.now.items

pub loop-index-preserved : goal.loop-index-preserved
loop-index-preserved c =
    let l = c.loop-index in
    rw add-one (
    one_value_more c.args.counts c.args.values.now c.args.line.now.items l.line.items c.push_told.new.line.items l.index _ c.index-values-index.result c.loop-index-test.true c.index-values-index.is l.invariant
    c.in_ok-push_told.ensures
    )

pub returns-in_err-push_told : goal.returns-in_err-push_told
returns-in_err-push_told c =
    let l = c.loop-index in
    let p = err_from_is_err_and c.from_residual.result c.from_residual.ensures.1 in
    rw (p.1, p.2) (
    at_untold c.args.counts c.args.values.now c.args.line.now.items l.line.items c.push_told.new.line.items l.index _ c.index-values-index.result c.loop-index-test.true c.index-values-index.is l.invariant
    c.in_err-push_told.field-0.0 c.in_err-push_told.ensures
    )

pub returns : goal.returns
returns c = all_values c.args.counts c.args.values.now c.args.line.now.items c.loop-index.line.items c.loop-index.index c.loop-index-test.false c.loop-index.invariant
