use Rattle.std.proofs.Common.{◌≡◌, take}
use Rattle.store_question.specs.Filters.{path_of}
use Rattle.store_asked.proofs.equal.copied.Given as goal

abbrev pub invariant-loop-key : goal.invariant-loop-key
invariant-loop-key l = path_of l.copy.items ≡ path_of (take l.key-index l.path)
