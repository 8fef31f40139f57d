use Rattle.std.proofs.Common.{◌≡◌, drop}
use Rattle.bson_raw.specs.View.{bytes_of}
use Rattle.store_pipeline.proofs.sorted.compare.compare_documents.Given as goal
use Rattle.store_pipeline.specs.Bodies.{keys_of, OfBody}
use Rattle.store_pipeline.specs.Order.{order_by}

abbrev pub invariant-loop-key : goal.invariant-loop-key
invariant-loop-key l = OfBody (bytes_of l.document) (λ d. OfBody (bytes_of l.other) (λ e. order_by (keys_of l.keys) d e ≡ order_by (keys_of (drop l.key-index l.keys)) d e))
