use Rattle.std.proofs.Common.{[], map, sym, subst}
use Rattle.store_pipeline.proofs.SortLemmas.{all_lent, lent_more}
use Rattle.store_pipeline.proofs.sorted.sorting.sort.Goals as goal
use Rattle.store_pipeline.specs.Bodies.{AreLent, document_at}

pub loop-place-init : goal.loop-place-init
loop-place-init c = λ ds are. subst (λ l. AreLent l []) (sym c.in_ok-sorted.ensures.items) tt

pub loop-place-preserved : goal.loop-place-preserved
loop-place-preserved c = λ ds are. lent_more (document_at ds) c.loop-place.sorted.items c.push.new.self.items _ c.loop-place.place-index _ _ c.loop-place-test.true c.in_ok-push.ensures.items (c.body_at.ensures ds are) (c.loop-place.invariant ds are)

pub returns : goal.returns
returns c = λ ds are. (map (document_at ds) c.in_ok-places.places.items, c.in_ok-places.ensures ds are, all_lent (document_at ds) c.loop-place.sorted.items _ c.in_ok-places.places.items c.loop-place.place-index c.deref-place-items.ensures.value c.loop-place-test.false (c.loop-place.invariant ds are))
