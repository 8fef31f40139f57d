use Rattle.std.proofs.Common.{drop}
use Rattle.std.specs.Prelude.{IfSome}
use Rattle.store_asked.proofs.SpanLemmas.{Narrow, Wide}
use Rattle.store_asked.proofs.spans.+spans.Given as goal

abbrev pub invariant-narrowest-loop-question : goal.invariant-narrowest-loop-question
invariant-narrowest-loop-question l = IfSome l.least (Narrow l.list)

abbrev pub invariant-widest-loop-question : goal.invariant-widest-loop-question
invariant-widest-loop-question l = Wide l.list (drop l.question-index l.list) l.all
