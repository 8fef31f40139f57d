use Rattle.store_pipeline.proofs.TextLemmas.{keys_grow, keys_whole}
use Rattle.store_pipeline.proofs.sorted.texts.sort_keys_of.Goals as goal

pub loop-part-preserved : goal.loop-part-preserved
loop-part-preserved c = keys_grow c.deref-part-items.result.now c.loop-part.part-index _ c.loop-part.keys.items c.push.new.self.items c.in_ok-key_of.field-0 c.loop-part-test.true c.in_ok-push.ensures.items c.in_ok-key_of.ensures c.loop-part.invariant

pub returns : goal.returns
returns c = keys_whole c.in_ok-parts.parts.items _ c.loop-part.part-index _ _ c.deref-part-items.ensures.value c.loop-part-test.false c.in_ok-parts.ensures c.loop-part.invariant
