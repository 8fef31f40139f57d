use Rattle.std.proofs.Common.{◌≡◌, drop}
use Rattle.std.specs.List.{list_any}
use Rattle.store_pipeline.proofs.sorted.field_texts.meets_any.Given as goal
use Rattle.store_question.specs.Filters.{path_of}
use Rattle.store_pipeline.specs.FieldTexts.{meets}
use Rattle.store_pipeline.specs.Views.{paths_of}

abbrev pub invariant-loop-other : goal.invariant-loop-other
invariant-loop-other l = list_any (meets (path_of l.path)) (paths_of l.others) ≡ list_any (meets (path_of l.path)) (paths_of (drop l.other-index l.others))
