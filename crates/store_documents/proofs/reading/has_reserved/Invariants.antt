use Rattle.std.proofs.Common.{◌≡◌, drop}
use Rattle.std.specs.List.{list_any}
use Rattle.bson_model.specs.JsonKeys.{is_reserved}
use Rattle.store_documents.proofs.reading.has_reserved.Given as goal

abbrev pub invariant-loop-pair : goal.invariant-loop-pair
invariant-loop-pair l = list_any (λ r. is_reserved r.0.now) l.pairs ≡ list_any (λ r. is_reserved r.0.now) (drop l.pair-index l.pairs)
