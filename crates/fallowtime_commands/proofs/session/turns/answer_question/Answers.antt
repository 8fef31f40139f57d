use Rattle.bson_store.specs.Calls.{store_state}
use Rattle.fallowtime_commands.specs.Objects.{id_tree}
use Rattle.fallowtime_commands.proofs.AnswerLemmas.{carried}
use Rattle.fallowtime_commands.proofs.session.turns.answer_question.Goals as goal

pub returns : goal.returns
returns g c =
    carried (store_state g.S.Store c.args.store.now) (store_state g.S.Store c.perform-outcome.new.store) (id_tree c.args.id) c.args.question c.perform-outcome.result c.answer_line-line.result c.perform-outcome.ensures.moves
    c.perform-outcome.ensures.open c.perform-outcome.ensures.crash c.perform-outcome.ensures.shape c.answer_line-line.ensures
