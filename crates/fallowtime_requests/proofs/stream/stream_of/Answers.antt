use Rattle.std.proofs.Common.{add-one, sym}
use Rattle.std.proofs.lemmas.Result.{err_from_is_err_and}
use Rattle.fallowtime_requests.proofs.StreamLemmas.{all_put, none_yet, one_more, unfit}
use Rattle.fallowtime_requests.proofs.stream.stream_of.Goals as goal

pub loop-index-init : goal.loop-index-init
loop-index-init c = none_yet c.args.items.now c.args.maker.now c.new-stream.result.items c.new-stream.ensures.items

pub loop-index-preserved : goal.loop-index-preserved
loop-index-preserved c =
    let l = c.loop-index in
    rw add-one (
    one_more c.args.items.now c.args.maker.now l.maker c.put_behind.new.maker l.stream.items c.put_behind.new.stream.items l.index c.index-items-index.result l.invariant c.loop-index-test.true (sym c.index-items-index.is)
    c.in_ok-put_behind.ensures
    )

pub returns-in_err-put_behind : goal.returns-in_err-put_behind
returns-in_err-put_behind c =
    let l = c.loop-index in
    let p = err_from_is_err_and c.from_residual.result c.from_residual.ensures.1 in
    rw (p.1, p.2) (
    unfit c.args.items.now c.args.maker.now l.maker c.put_behind.new.maker l.stream.items c.put_behind.new.stream.items l.index c.index-items-index.result l.invariant c.loop-index-test.true (sym c.index-items-index.is)
    c.in_err-put_behind.field-0.0 c.put_behind.new.maker c.in_err-put_behind.ensures
    )

pub returns : goal.returns
returns c = all_put c.args.items.now c.args.maker.now c.loop-index.maker c.loop-index.stream c.loop-index.index c.loop-index.invariant c.loop-index-test.false
