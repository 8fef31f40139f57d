use Rattle.std.proofs.Common.{◌≡◌, drop}
use Rattle.fallowtime_words.specs.Advice.{text_of_kind}
use Rattle.fallowtime_words.proofs.advice.advice_in.Given as goal

abbrev pub invariant-loop-row : goal.invariant-loop-row
invariant-loop-row l = text_of_kind (drop l.row-index l.rows) l.kind ≡ text_of_kind l.rows l.kind
