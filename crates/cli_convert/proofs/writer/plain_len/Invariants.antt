use Rattle.std.proofs.Common.{◌≡◌, ℕ, ◌<◌, ◌==◌, ◌&&◌, get_or, not, true}
use Rattle.cli_convert.proofs.writer.plain_len.Given as goal

abbrev pub invariant-loop-index : goal.invariant-loop-index
invariant-loop-index l = (k : ℕ) → k < l.index → (not (get_or l.text k 0 == 127) && not (get_or l.text k 0 == 194)) ≡ true
