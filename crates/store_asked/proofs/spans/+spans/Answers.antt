use Rattle.store_asked.proofs.SpanLemmas.{narrow_more}
use Rattle.store_asked.proofs.spans.+spans.Goals as goal

pub narrowest-loop-question-preserved : goal.narrowest-loop-question-preserved
narrowest-loop-question-preserved t c = narrow_more c.args.list.now c.loop-question.question-index c.question-item.result c.loop-question.least c.span_of.result c.both-least.result c.question-item.is c.loop-question-test.true c.both-least.ensures c.loop-question.invariant c.span_of.ensures
