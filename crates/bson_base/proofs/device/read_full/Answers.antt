use Rattle.std.proofs.Common.{length, ◌-◌, sym, ◌∙◌, subst, arith, take}
use Rattle.std.proofs.lemmas.Grind.{common_steps}
use Rattle.bson_base.specs.Device.{Gives}
use Rattle.bson_base.proofs.DeviceLemmas.{Gives-trans, take_put_mid}
use Rattle.bson_base.proofs.device.read_full.Goals as goal

pub loop-at-preserved : goal.loop-at-preserved
loop-at-preserved g c =
    let l = c.loop-at in
    let n = c.in_ok-n.n in
    let feed = g.S.Source.feed in
    let here = take_put_mid l.at (length l.buf - l.at) n l.buf c.read.new.buf l.invariant.within c.in_ok-n.ensures.bound in
    record {
      within = grind (arith, common_steps, c.in_ok-n.ensures.bound);
      fine = c.in_ok-n.ensures.counts ∙ l.invariant.fine;
      so_far = subst (Gives (feed c.args.source.now).supply (feed c.read.new.self).supply) (sym here)
          (Gives-trans (feed c.args.source.now).supply (feed l.source).supply (feed c.read.new.self).supply (take l.at l.buf) (take n c.read.new.buf) l.invariant.so_far c.in_ok-n.ensures.bytes);
    }
