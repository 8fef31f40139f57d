use Rattle.std.proofs.Common.{◌∙◌}
use Rattle.store_asked.proofs.PathLemmas.{keys_grow, keys_whole}
use Rattle.store_asked.proofs.equal.copied.Goals as goal

pub loop-key-preserved : goal.loop-key-preserved
loop-key-preserved c = keys_grow c.args.path.now c.loop-key.key-index c.key-item.result c.in_ok-from_str.field-0 c.loop-key.copy.items c.push.new.self.items c.key-item.is c.loop-key-test.true (c.in_ok-from_str.ensures.ok ∙ c.as_str.ensures.value) c.in_ok-push.ensures.items c.loop-key.invariant

pub returns : goal.returns
returns c = keys_whole c.args.path.now c.loop-key.copy.items c.loop-key.key-index c.loop-key-test.false c.loop-key.invariant
