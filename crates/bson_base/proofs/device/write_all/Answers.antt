use Rattle.std.proofs.Common.{sym, ◌∙◌, subst, arith, take, drop}
use Rattle.std.proofs.Math.Seq.{take-add}
use Rattle.std.proofs.KnownBytes.{Appends-trans}
use Rattle.std.specs.Io.KnownBytes.{Appends}
use Rattle.bson_base.proofs.DeviceLemmas.{take_rest}
use Rattle.bson_base.proofs.device.write_all.Goals as goal

pub loop-at-preserved : goal.loop-at-preserved
loop-at-preserved g c =
    let l = c.loop-at in
    let bytes = c.args.bytes.now in
    let n = c.in_ok-at.field-0 in
    let tally = g.S.Sink.tally in
    let here = take_rest bytes l.at n l.invariant.within c.in_ok-at.ensures.bound in
    record {
      within = grind (arith, c.in_ok-at.ensures.bound);
      fine = c.in_ok-at.ensures.counts ∙ l.invariant.fine;
      so_far = subst (Appends (tally c.args.sink.now).taken (tally c.write.new.self).taken) (sym (take-add l.at n bytes))
          (Appends-trans (tally c.args.sink.now).taken (tally l.sink).taken (tally c.write.new.self).taken (take l.at bytes) (take n (drop l.at bytes)) l.invariant.so_far
          (subst (Appends (tally l.sink).taken (tally c.write.new.self).taken) here c.in_ok-at.ensures.bytes));
    }
