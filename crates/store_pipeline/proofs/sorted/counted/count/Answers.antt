use Rattle.std.proofs.Common.{refl}
use Rattle.store_pipeline.proofs.TakeLemmas.{again_on, new_items}
use Rattle.store_pipeline.proofs.sorted.counted.count.Goals as goal
use Rattle.bson_model.specs.View.{view}

pub returns-in-Ok : goal.returns-in-Ok
returns-in-Ok c = λ p ds vs h.
    again_on p ds vs c.args.number c.args.counted.now.items (view c.args.value.now) h c.as_slice.result.now c.as_slice.ensures.value c.in-Ok.place c.index_mut.result.now c.count_once.new.counted c.count_once.result c.in-Ok.ensures.bound c.in-Ok.ensures.place c.index_mut.ensures.value c.count_once.ensures

pub returns-in_ok-insert-in-Err : goal.returns-in_ok-insert-in-Err
returns-in_ok-insert-in-Err c = λ p ds vs h.
    new_items p ds vs c.args.number c.args.counted.now.items (view c.args.value.now) h c.as_slice.result.now c.as_slice.ensures.value c.in-Err.place _ c.insert.new.self.items c.in-Err.ensures.bound c.in-Err.ensures.place c.in_ok-value-in-Err.ensures refl refl c.in_ok-insert-in-Err.ensures.items
