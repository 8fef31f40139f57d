use Rattle.std.proofs.Common.{subst}
use Rattle.json.specs.Value.{value_view}
use Rattle.bson_store.specs.Calls.{store_state}
use Rattle.fallowtime_requests.specs.Reports.{at_text}
use Rattle.fallowtime_requests.specs.declared.stop.Stop.TheVariants.{Words}
use Rattle.fallowtime_commands.specs.Answers.{words}
use Rattle.fallowtime_commands.specs.Objects.{MakesLine, id_tree}
use Rattle.fallowtime_commands.specs.Questions.{Asks, Stops}
use Rattle.fallowtime_commands.proofs.AnswerLemmas.{nothing_done, replied, unasked}
use Rattle.fallowtime_commands.proofs.ListLemmas.{no_list_asks}
use Rattle.fallowtime_commands.proofs.session.turns.answer_request.Goals as goal

pub returns-in-Ok : goal.returns-in-Ok
returns-in-Ok g c =
    let q = c.in-Ok.question in
    let command = value_view c.args.command.now in
    replied (store_state g.S.Store c.args.store.now) (store_state g.S.Store c.answer_question.new.store) c.args.maker.now c.question_in.new.maker (id_tree c.args.id) command q c.answer_question.result
    (subst (λ m. Asks m c.question_in.new.maker command q.collection.now q.request q.layout) c.copy-trial.ensures c.in-Ok.ensures) c.answer_question.ensures

pub returns-in-Err-Words : goal.returns-in-Err-Words
returns-in-Err-Words g c =
    let command = value_view c.args.command.now in
    let u = c.in-Err-Words.unread in
    unasked (store_state g.S.Store c.args.store.now) c.args.maker.now (id_tree c.args.id) command (at_text u) c.words_line.result
    (no_list_asks c.args.maker.now command u c.requires.single (subst (λ m. Stops m command (Words u)) c.copy-trial.ensures (subst (λ s. Stops c.copy-trial.result command s) c.in-Err-Words.field-0-is c.in-Err-Words.ensures)))
    (subst (λ x. MakesLine (id_tree c.args.id) (words (at_text x)) c.words_line.result) c.in-Err-Words.unread-is c.words_line.ensures)

pub returns-in-Err-Memory : goal.returns-in-Err-Memory
returns-in-Err-Memory g c = nothing_done (store_state g.S.Store c.args.store.now) c.args.maker.now (id_tree c.args.id) (value_view c.args.command.now) _
