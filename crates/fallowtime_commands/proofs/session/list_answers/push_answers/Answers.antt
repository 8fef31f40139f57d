use Rattle.std.proofs.Common.{add-one, sym}
use Rattle.fallowtime_commands.proofs.ListAnswerLemmas.{all_put, none_yet, one_more}
use Rattle.fallowtime_commands.proofs.session.list_answers.push_answers.Goals as goal

pub loop-index-init : goal.loop-index-init
loop-index-init c = none_yet c.args.answers.now c.args.line.now.items

pub loop-index-preserved : goal.loop-index-preserved
loop-index-preserved c =
    let l = c.loop-index in
    rw add-one (one_more c.args.answers.now c.args.line.now.items l.line.items c.push_answer.new.line.items l.index c.index-answers-index.result l.invariant c.loop-index-test.true (sym c.index-answers-index.is) c.in_ok-push_answer.ensures)

pub returns : goal.returns
returns c = all_put c.args.answers.now c.args.line.now.items c.loop-index.line.items c.loop-index.index c.loop-index.invariant c.loop-index-test.false
