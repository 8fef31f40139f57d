use Rattle.std.proofs.Common.{Some}
use Rattle.bson_base.specs.Value.{document}
use Rattle.store_question.proofs.LackLemmas.{all_left, first_left, others_left}
use Rattle.store_question.proofs.lacking.lacks_one.Goals as goal

pub loop-question-init : goal.loop-question-init
loop-question-init c = λ ts r. all_left ts c.args.list.now r

pub returns-then-lacks_at : goal.returns-then-lacks_at
returns-then-lacks_at c = λ ts r d is yes a.
    let first = first_left ts c.args.list.now c.loop-question.question-index c.question-item.result c.question-item.is c.loop-question-test.true (c.loop-question.invariant ts r) in
    c.lacks_at.ensures first.0 first.1 d is c.if-lacks_at.true (first.2 (Some (document d)) a)

pub loop-question-preserved : goal.loop-question-preserved
loop-question-preserved c = λ ts r.
    others_left ts c.args.list.now c.loop-question.question-index c.question-item.result c.question-item.is c.loop-question-test.true (c.loop-question.invariant ts r)
