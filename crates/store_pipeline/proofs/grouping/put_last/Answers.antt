use Rattle.std.proofs.Common.{refl}
use Rattle.store_pipeline.proofs.GroupLemmas.{lent_last}
use Rattle.store_pipeline.proofs.grouping.put_last.Goals as goal

pub returns : goal.returns
returns c = (refl, λ ds d is are. lent_last c.args.group.now.bodies.items c.push.new.self.items c.args.body ds d c.in_ok-push.ensures.items is are)
