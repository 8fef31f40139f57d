use Rattle.json.specs.Value.{items_view, value_view}
use Rattle.fallowtime_commands.proofs.BeginLemmas.{of_command}
use Rattle.fallowtime_commands.proofs.session.questions.question_in.Goals as goal

pub returns : goal.returns
returns c =
    of_command c.args.maker.now c.question_of_line.new.maker (value_view c.args.tree.now) c.in-Some.command (items_view c.in-Some.items.now) c.question_of_line.result c.in-Some.ensures c.question_of_line.ensures.asked
