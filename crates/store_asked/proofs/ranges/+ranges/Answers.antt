use Rattle.store_asked.proofs.RangeLemmas.{each_more}
use Rattle.store_asked.proofs.ranges.+ranges.Goals as goal

pub add_each-loop-question-preserved : goal.add_each-loop-question-preserved
add_each-loop-question-preserved t c =
    each_more c.args.list.now c.loop-question.question-index c.question-item.result c.args.ranges.now.items c.loop-question.ranges.items c.add_ranges.new.ranges.items c.question-item.is c.loop-question-test.true c.loop-question.invariant c.in_ok-add_ranges.ensures
