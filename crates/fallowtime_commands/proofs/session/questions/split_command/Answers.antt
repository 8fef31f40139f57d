use Rattle.json.specs.Value.{value_view}
use Rattle.fallowtime_commands.proofs.BeginLemmas.{has_command, no_array, no_command, no_item, no_text, none_is}
use Rattle.fallowtime_commands.proofs.session.questions.split_command.Goals as goal

pub returns-in_err-items : goal.returns-in_err-items
returns-in_err-items c = none_is (value_view c.args.tree.now) _ c.from_residual.ensures (no_array (value_view c.args.tree.now) c.in_err-items.ensures)

pub returns-in_err-first : goal.returns-in_err-first
returns-in_err-first c = none_is (value_view c.args.tree.now) _ c.from_residual-in_err-first.ensures (no_item (value_view c.args.tree.now) c.in_ok-items.items.now c.in_ok-items.ensures c.in_err-first.ensures.cases)

pub returns-in_err-name : goal.returns-in_err-name
returns-in_err-name c =
    none_is (value_view c.args.tree.now) _ c.from_residual-in_err-name.ensures
    (no_text (value_view c.args.tree.now) c.in_ok-items.items.now c.in_ok-first.first.now c.in_ok-first.rest.now c.in_ok-items.ensures c.in_ok-first.ensures.cases.0 c.in_err-name.ensures)

pub returns-in_err-command : goal.returns-in_err-command
returns-in_err-command c =
    none_is (value_view c.args.tree.now) _ c.from_residual-in_err-command.ensures
    (no_command (value_view c.args.tree.now) c.in_ok-items.items.now c.in_ok-first.first.now c.in_ok-first.rest.now c.in_ok-items.ensures c.in_ok-first.ensures.cases.0 c.in_ok-name.name.now c.in_ok-name.ensures
    c.in_err-command.ensures.is)

pub returns : goal.returns
returns c =
    has_command (value_view c.args.tree.now) c.in_ok-items.items.now c.in_ok-first.first.now c.in_ok-first.rest.now c.in_ok-items.ensures c.in_ok-first.ensures.cases.0 c.in_ok-name.name.now c.in_ok-command.command
    c.in_ok-name.ensures c.in_ok-command.ensures.is
