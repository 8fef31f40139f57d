use Rattle.std.proofs.Common.{Option}
use Rattle.bson_base.specs.Value.{Value}
use Rattle.bson_raw.specs.View.{bytes_of, left_of}
use Rattle.store_question.specs.Reads.{OfMembers, Shows}
use Rattle.store_pipeline.proofs.SortedLedLemmas.{BestLeft}
use Rattle.store_pipeline.proofs.sorted.values.best_item.Given as goal
use Rattle.store_pipeline.specs.Order.{itself}

abbrev pub invariant-loop-item : goal.invariant-loop-item
invariant-loop-item l = (o : Option Value) → Shows l.met o → OfMembers (bytes_of l.items) (λ ms. BestLeft itself l.descending ms o (left_of l.item-iterator) l.so_far)
