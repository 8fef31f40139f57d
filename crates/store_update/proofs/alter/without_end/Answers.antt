use Rattle.store_update.proofs.UpdateLemmas.{popped_is}
use Rattle.store_update.proofs.alter.without_end.Goals as goal

pub returns : goal.returns
returns c = popped_is c.args.end c.args.items.now c.in_ok-left.left.items c.in_ok-left.ensures
