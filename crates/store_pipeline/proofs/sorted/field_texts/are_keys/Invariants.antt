use Rattle.std.proofs.Common.{◌≡◌, drop}
use Rattle.std.specs.List.{list_all}
use Rattle.store_pipeline.proofs.sorted.field_texts.are_keys.Given as goal
use Rattle.store_question.specs.Filters.{path_of}
use Rattle.store_pipeline.specs.FieldTexts.{is_key}

abbrev pub invariant-loop-key : goal.invariant-loop-key
invariant-loop-key l = list_all is_key (path_of l.keys) ≡ list_all is_key (path_of (drop l.key-index l.keys))
