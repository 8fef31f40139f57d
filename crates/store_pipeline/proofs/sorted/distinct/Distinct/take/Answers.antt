use Rattle.std.proofs.Common.{◌∙◌, map, ap, refl, rules}
use Rattle.bson_model.specs.View.{view}
use Rattle.store_pipeline.proofs.TakeLemmas.{all_taken, counting_begins, one_more}
use Rattle.store_pipeline.proofs.sorted.distinct.Distinct.take.Goals as goal
use Rattle.store_pipeline.specs.Counted.{counted_in, path_in}

pub loop-value-init : goal.loop-value-init
loop-value-init c = (refl, refl, λ ds h. counting_begins (path_in c.args.self.now) ds c.args.self.now.number c.in-Some.number (counted_in c.args.self.now) (search rules) h.distinct h.last)

pub loop-value-preserved : goal.loop-value-preserved
loop-value-preserved c = (
  c.loop-value.invariant.0,
  c.loop-value.invariant.1,
  λ ds h. one_more (path_in c.loop-value.self) ds c.in-Some.number _ c.loop-value.value-index c.value-item.result c.loop-value.self.counted.items c.count.new.counted.items c.loop-value-test.true c.value-item.is (c.loop-value.invariant.2 ds h) c.in_ok-count.ensures,
)

pub returns-clause-path : goal.returns-clause-path
returns-clause-path c = c.loop-value.invariant.0

pub returns-in_err-count-clause-path : goal.returns-in_err-count-clause-path
returns-in_err-count-clause-path c = c.loop-value.invariant.0

pub returns-clause-holds : goal.returns-clause-holds
returns-clause-holds c = λ ds h d is. all_taken c.args.self.now c.loop-value.self ds d c.in-Some.number _ c.loop-value.value-index c.loop-value.invariant.0 c.loop-value.invariant.1 c.loop-value-test.false (ap (map view) c.deref-value-items.ensures.value ∙ c.in_ok-values.ensures d is) (c.loop-value.invariant.2 ds h)
