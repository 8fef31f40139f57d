use Rattle.std.proofs.Common.{add-one, sym}
use Rattle.fallowtime_commands.proofs.TextLemmas.{all_put, at_fault, none_yet, one_more}
use Rattle.fallowtime_commands.proofs.session.bodies.push_bodies.Goals as goal

pub loop-index-init : goal.loop-index-init
loop-index-init c = none_yet c.args.bodies.now c.args.line.now.items

pub loop-index-preserved : goal.loop-index-preserved
loop-index-preserved c =
    let l = c.loop-index in
    rw add-one (
    one_more c.args.bodies.now c.args.line.now.items l.line.items c.push_body.new.line.items c.as_slice.result.now l.index c.index-bodies-index.result l.invariant c.loop-index-test.true (sym c.index-bodies-index.is) c.as_slice.ensures.value
    c.in_default.ensures
    )

pub returns-in-Err : goal.returns-in-Err
returns-in-Err c =
    let l = c.loop-index in
    at_fault c.args.bodies.now c.args.line.now.items l.line.items c.push_body.new.line.items c.as_slice.result.now l.index c.index-bodies-index.result l.invariant c.loop-index-test.true (sym c.index-bodies-index.is) c.as_slice.ensures.value
    c.in-Err.fault c.in-Err.ensures

pub returns : goal.returns
returns c = all_put c.args.bodies.now c.args.line.now.items c.loop-index.line.items c.loop-index.index c.loop-index.invariant c.loop-index-test.false
