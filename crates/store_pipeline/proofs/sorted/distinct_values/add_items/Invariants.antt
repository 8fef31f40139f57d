use Rattle.bson_raw.specs.View.{bytes_of, left_of}
use Rattle.store_pipeline.proofs.WalkLemmas.{AddsLeft}
use Rattle.store_pipeline.proofs.sorted.distinct_values.add_items.Given as goal
use Rattle.store_pipeline.specs.Distinct.{itself}
use Rattle.store_question.specs.Reads.{OfMembers}

abbrev pub invariant-loop-item : goal.invariant-loop-item
invariant-loop-item l = OfMembers (bytes_of l.items) (λ ms. AddsLeft itself ms l.fn.values.items (left_of l.item-iterator) l.values.items)
