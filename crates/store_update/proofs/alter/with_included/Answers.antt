use Rattle.store_update.proofs.SetLemmas.{included_is}
use Rattle.store_update.proofs.alter.with_included.Goals as goal

pub returns : goal.returns
returns c = included_is c.args.new.now c.args.items.now c.in_ok-old.old.items c.in_ok-all.all.items c.in_ok-old.ensures c.in_ok-all.ensures
