use Rattle.std.proofs.Common.{◌∙◌, ◌++◌, take}
use Rattle.std.proofs.lemmas.Result.{err_from_is_err_and}
use Rattle.bson_base.proofs.DeviceLemmas.{Gives-trans}
use Rattle.bson_base.proofs.whole.read_all.Goals as goal

pub returns-in_err-extend_from_slice-clause-err : goal.returns-in_err-extend_from_slice-clause-err
returns-in_err-extend_from_slice-clause-err g c =
    let feed = g.S.Source.feed in
    let p = err_from_is_err_and c.from_residual-in_err-extend_from_slice.result c.from_residual-in_err-extend_from_slice.ensures.1 in
    rw (p.1, p.2) (
      c.loop-n.bytes.items ++ take c.in-Ok.n c.read_full.new.buf,
      (
        c.in-Ok.ensures.counts ∙ c.loop-n.invariant.fine,
        Gives-trans (feed c.args.source.now).supply (feed c.loop-n.source).supply (feed c.read_full.new.source).supply c.loop-n.bytes.items (take c.in-Ok.n c.read_full.new.buf) c.loop-n.invariant.so_far c.in-Ok.ensures.bytes,
      ),
    )
