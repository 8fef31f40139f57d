use Rattle.store_update.proofs.UpdateLemmas.{pushed_is}
use Rattle.store_update.proofs.alter.with_pushed.Goals as goal

pub returns : goal.returns
returns c = pushed_is c.args.push.now c.args.items.now c.in_ok-all.all.items c.in_ok-left.left.items (rw c.as_slice.ensures.value at c.in_ok-all.ensures) c.in_ok-left.ensures
