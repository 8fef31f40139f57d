use Rattle.std.proofs.Common.{◌-◌}
use Rattle.std.specs.Io.KnownBytes.{Keeps, append_known}
use Rattle.cli_convert.specs.Writing.{text}
use Rattle.cli_convert.proofs.waiting.Waiting.write_to.Given as goal

abbrev pub invariant-loop-self : goal.invariant-loop-self
invariant-loop-self g l =
    Keeps (append_known (g.W.Write.contents l.fn.writer) (text l.fn.self)) (append_known (g.W.Write.contents l.writer) (text l.self))

abbrev pub decreases-loop-self : goal.decreases-loop-self
decreases-loop-self g l = 7 - l.self.start
