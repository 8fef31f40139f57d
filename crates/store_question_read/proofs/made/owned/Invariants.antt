use Rattle.std.proofs.Common.{◌≡◌, map, take}
use Rattle.store_question.specs.Filters.{path_of}
use Rattle.store_question_read.proofs.made.owned.Given as goal

abbrev pub invariant-loop-piece : goal.invariant-loop-piece
invariant-loop-piece l = path_of l.keys.items ≡ map (λ x. x.now) (take l.piece-index l.pieces)
