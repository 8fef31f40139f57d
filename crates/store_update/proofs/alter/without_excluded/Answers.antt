use Rattle.store_update.proofs.SetLemmas.{excluded_is}
use Rattle.store_update.proofs.alter.without_excluded.Goals as goal

pub returns : goal.returns
returns c = excluded_is c.args.values.now c.args.items.now c.in_ok-left.left.items c.in_ok-left.ensures
