use Rattle.std.proofs.Common.{Err, subst, sym}
use Rattle.json.specs.Value.{items_view}
use Rattle.fallowtime_commands.specs.Lists.{ReadsMore}
use Rattle.fallowtime_commands.proofs.ListLemmas.{all_read, none_yet, one_more, stopped}
use Rattle.fallowtime_commands.proofs.session.lists.push_questions.Goals as goal

pub loop-index-init : goal.loop-index-init
loop-index-init c = none_yet c.args.requests.now c.args.maker.now c.args.questions.now.items

pub loop-index-preserved : goal.loop-index-preserved
loop-index-preserved c =
    let l = c.loop-index in
    one_more c.args.requests.now c.args.maker.now l.maker c.push_question.new.maker c.args.questions.now.items l.questions.items c.push_question.new.questions.items l.index c.index-requests-index.result l.invariant c.loop-index-test.true (sym c.index-requests-index.is)
    c.in_default.ensures

pub returns-in-Err : goal.returns-in-Err
returns-in-Err c =
    let l = c.loop-index in
    subst (λ s. ReadsMore c.args.maker.now c.push_question.new.maker (items_view c.args.requests.now) c.args.questions.now.items c.push_question.new.questions.items (Err s)) (sym c.stop_at.ensures) (
    stopped c.args.requests.now c.args.maker.now l.maker c.push_question.new.maker c.args.questions.now.items l.questions.items c.push_question.new.questions.items l.index c.index-requests-index.result l.invariant c.loop-index-test.true (sym c.index-requests-index.is)
    c.in-Err.stop c.push_question.new.maker c.push_question.new.questions.items c.in-Err.ensures
    )

pub returns : goal.returns
returns c = all_read c.args.requests.now c.args.maker.now c.loop-index.maker c.args.questions.now.items c.loop-index.questions.items c.loop-index.index c.loop-index.invariant c.loop-index-test.false
