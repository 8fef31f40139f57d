use Rattle.std.proofs.Common.{sym}
use Rattle.fallowtime_commands.proofs.ListLineLemmas.{all_put, one_more}
use Rattle.fallowtime_commands.proofs.session.list_lines.lines_of.Goals as goal

pub loop-answer-preserved : goal.loop-answer-preserved
loop-answer-preserved c =
    let l = c.loop-answer in
    one_more c.args.answers.now l.lines.items c.push_line.new.lines.items l.answer-index c.answer-item.result l.invariant c.loop-answer-test.true (sym c.answer-item.is) c.in_ok-push_line.ensures

pub returns : goal.returns
returns c = all_put c.args.answers.now c.loop-answer.lines.items c.loop-answer.answer-index c.loop-answer.invariant c.loop-answer-test.false
