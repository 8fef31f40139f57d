use Rattle.std.proofs.Common.{Err, subst}
use Rattle.json.specs.Value.{items_view}
use Rattle.bson_store.specs.Calls.{store_state}
use Rattle.fallowtime_commands.specs.Lists.{AskAll, ReadsAll}
use Rattle.fallowtime_commands.specs.Objects.{id_tree}
use Rattle.fallowtime_commands.proofs.AnswerLemmas.{list_stops, replied_all}
use Rattle.fallowtime_commands.proofs.session.turns.answer_list.Goals as goal

pub returns-in-Ok : goal.returns-in-Ok
returns-in-Ok g c = λ command is.
    let qs = c.in-Ok.questions in
    let js = items_view c.args.requests.now in
    replied_all (store_state g.S.Store c.args.store.now) (store_state g.S.Store c.answer_questions.new.store) c.args.maker.now c.questions_in.new.maker (id_tree c.args.id) command js qs.items c.answer_questions.result is
    (subst (λ m. AskAll m c.questions_in.new.maker js qs.items) c.copy-trial.ensures c.in-Ok.ensures) c.answer_questions.ensures

pub returns-in-Err : goal.returns-in-Err
returns-in-Err g c = λ command is.
    let js = items_view c.args.requests.now in
    list_stops (store_state g.S.Store c.args.store.now) c.args.maker.now c.questions_in.new.maker (id_tree c.args.id) command js c.in-Err.stop c.stop_line.result is
    (subst (λ m. ReadsAll m c.questions_in.new.maker js (Err c.in-Err.stop)) c.copy-trial.ensures c.in-Err.ensures) c.stop_line.ensures
