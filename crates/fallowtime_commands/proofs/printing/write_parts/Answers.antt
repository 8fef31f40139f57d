use Rattle.std.proofs.Common.{◌∙◌, arith}
use Rattle.std.proofs.lemmas.Result.{err_from_is_err_and}
use Rattle.cli_commands.proofs.PartLemmas.{parts_more, parts_begun}
use Rattle.fallowtime_commands.proofs.printing.write_parts.Goals as goal

pub returns-in_err-write_all-clause-err : goal.returns-in_err-write_all-clause-err
returns-in_err-write_all-clause-err g c =
    let tally = g.O.Sink.tally in
    let p = err_from_is_err_and c.from_residual.result c.from_residual.ensures.1 in
    rw p.1 (parts_begun (tally c.args.output.now).taken (tally c.loop-part.output).taken (tally c.write_all.new.sink).taken c.args.parts.now c.loop-part.part-index _ c.as_bytes.result.now
    (let h = c.loop-part-test.true in omega arith) c.as_bytes.ensures.value c.loop-part.invariant.went c.in_err-write_all.ensures.err)

pub loop-part-preserved : goal.loop-part-preserved
loop-part-preserved g c =
    let tally = g.O.Sink.tally in
    record {
      fine = c.in_ok-write_all.ensures.counts ∙ c.loop-part.invariant.fine;
      went = parts_more (tally c.args.output.now).taken (tally c.loop-part.output).taken (tally c.write_all.new.sink).taken c.args.parts.now c.loop-part.part-index _ c.as_bytes.result.now
          (let h = c.loop-part-test.true in omega arith) c.as_bytes.ensures.value c.loop-part.invariant.went c.in_ok-write_all.ensures.ok;
    }
