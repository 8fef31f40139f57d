use Rattle.std.proofs.Common.{◌≡◌, drop}
use Rattle.std.specs.List.{list_all}
use Rattle.store_update.specs.Plan.{path_of}
use Rattle.store_question_read.specs.Read.{is_key}
use Rattle.store_question_read.proofs.update_paths.are_keys.Given as goal

abbrev pub invariant-loop-key : goal.invariant-loop-key
invariant-loop-key l = list_all is_key (path_of l.keys) ≡ list_all is_key (path_of (drop l.key-index l.keys))
