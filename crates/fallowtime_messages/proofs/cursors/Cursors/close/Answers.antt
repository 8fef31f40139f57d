use Rattle.fallowtime_messages.proofs.WaitLemmas.{none_or_out_below}
use Rattle.fallowtime_messages.proofs.cursors.Cursors.close.Goals as goal

pub invariant_of-self : goal.invariant_of-self
invariant_of-self c = record {
  from_one = c.args.self.now.from_one;
  below = none_or_out_below c.args.self.now.next _ c.args.space.now c.take_out.result c.args.self.now.waiting c.take_out.new.cursors c.take_out.ensures c.args.self.now.below;
}
