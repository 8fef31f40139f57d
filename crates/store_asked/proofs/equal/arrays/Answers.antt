use Rattle.store_asked.proofs.PathLemmas.{arrays_begun, arrays_grow, arrays_whole}
use Rattle.store_asked.proofs.equal.arrays.Goals as goal

pub loop-keys-init : goal.loop-keys-init
loop-keys-init c = arrays_begun c.args.path.now c.new-filters.result.items c.new-filters.ensures.items

pub loop-keys-preserved : goal.loop-keys-preserved
loop-keys-preserved c = arrays_grow c.args.path.now c.loop-keys.filters.items c.push.new.self.items c.in_ok-beginning.beginning c.loop-keys.keys c.loop-keys-test.true c.in_ok-push.ensures.items c.in_ok-beginning.ensures c.loop-keys.invariant

pub returns : goal.returns
returns c = arrays_whole c.args.path.now c.loop-keys.filters.items c.loop-keys.keys c.loop-keys-test.false c.loop-keys.invariant
