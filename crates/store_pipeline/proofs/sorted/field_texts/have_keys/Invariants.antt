use Rattle.std.proofs.Common.{◌≡◌, drop}
use Rattle.store_pipeline.proofs.sorted.field_texts.have_keys.Given as goal
use Rattle.store_pipeline.specs.FieldTexts.{have_keys}
use Rattle.store_pipeline.specs.Views.{paths_of}

abbrev pub invariant-loop-path : goal.invariant-loop-path
invariant-loop-path l = have_keys (paths_of l.paths) ≡ have_keys (paths_of (drop l.path-index l.paths))
