use Rattle.store_pipeline.proofs.FieldTextLemmas.{paths_whole}
use Rattle.store_pipeline.proofs.sorted.field_texts.read_paths.Goals as goal

pub returns : goal.returns
returns c = paths_whole c.in_ok-parts.parts.items _ c.loop-part.part-index _ _ c.deref-part-items.ensures.value c.loop-part-test.false c.in_ok-parts.ensures c.loop-part.invariant
