use Rattle.std.proofs.Common.{codes, sym}
use Rattle.json.specs.Value.{items_view, value_view}
use Rattle.bson_store.specs.Calls.{store_state}
use Rattle.fallowtime_commands.specs.Objects.{id_tree}
use Rattle.fallowtime_commands.proofs.AnswerLemmas.{unasked}
use Rattle.fallowtime_commands.proofs.ListLemmas.{no_requests}
use Rattle.fallowtime_commands.proofs.session.turns.answer_command.Goals as goal

pub returns-in-Some-requests_in : goal.returns-in-Some-requests_in
returns-in-Some-requests_in g c = c.answer_list.ensures (value_view c.args.command.now) (items_view c.in-Some.rest.now, sym c.in-Some.ensures, sym c.in-Some-requests_in.ensures)

pub returns-in-None : goal.returns-in-None
returns-in-None g c =
    let command = value_view c.args.command.now in
    unasked (store_state g.S.Store c.args.store.now) c.args.maker.now (id_tree c.args.id) command (codes "arguments") c.words_line.result
    (no_requests c.args.maker.now command (items_view c.in-Some.rest.now) c.in-Some.ensures c.in-None.ensures) c.words_line.ensures
