use Rattle.std.proofs.Common.{arith}
use Rattle.std.proofs.KnownBytes.{Keeps-trans}
use Rattle.cli_convert.proofs.WritingLemmas.{none_left, part_given}
use Rattle.cli_convert.proofs.waiting.Waiting.write_to.Goals as goal

pub loop-self-preserved : goal.loop-self-preserved
loop-self-preserved g c = Keeps-trans _ _ _ c.loop-self.invariant (part_given _ _ c.loop-self.self.bytes c.loop-self.self.start c.in_ok-self.field-0 (omega arith) c.in_ok-self.ensures.bytes)

pub returns-clause-all : goal.returns-clause-all
returns-clause-all g c = none_left c.loop-self.self.bytes c.loop-self.self.start (omega arith)
