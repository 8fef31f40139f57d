use Rattle.std.proofs.Common.{Ok, Err}
use Rattle.std.proofs.lemmas.Result.{err_from_is_err_and}
use Rattle.bson_store.specs.Calls.{store_state}
use Rattle.bson_store.proofs.MoveLemmas.{moved}
use Rattle.fallowtime_commands.specs.Listing.{PerformsDrafted}
use Rattle.fallowtime_commands.proofs.ListedLemmas.{answers_pushed, next_pushed, next_refused}
use Rattle.fallowtime_commands.proofs.session.listing.perform_next.Goals as goal

pub returns-in_err-answer-clause-moves : goal.returns-in_err-answer-clause-moves
returns-in_err-answer-clause-moves g c =
    let p = err_from_is_err_and c.from_residual.result c.from_residual.ensures.1 in
    rw (p.1, p.2) (moved (store_state g.S.Store c.args.store.now) (store_state g.S.Store c.perform_drafted.new.store) (PerformsDrafted c.args.question.now.collection.now c.args.question.now.request (Err c.in_err-answer.field-0.0) c.args.edits.now.draft c.perform_drafted.new.edits.draft) _ c.in_err-answer.ensures.moves
    (λ docs after h. next_refused c.args.question.now c.args.answers.now.items c.args.answers.now.items c.in_err-answer.field-0.0 c.args.edits.now.draft c.perform_drafted.new.edits.draft docs after h))

pub returns-clause-moves : goal.returns-clause-moves
returns-clause-moves g c =
    moved (store_state g.S.Store c.args.store.now) (store_state g.S.Store c.perform_drafted.new.store) (PerformsDrafted c.args.question.now.collection.now c.args.question.now.request (Ok c.in_ok-answer.answer) c.args.edits.now.draft c.perform_drafted.new.edits.draft) _ c.in_ok-answer.ensures.moves
    (λ docs after h. next_pushed c.args.question.now c.args.answers.now.items c.push.new.answers.items c.in_ok-answer.answer c.push.result c.args.edits.now.draft c.perform_drafted.new.edits.draft docs after c.push.ensures h)

pub returns-clause-shape : goal.returns-clause-shape
returns-clause-shape g c qs are = answers_pushed qs c.args.answers.now.items c.push.new.answers.items c.args.question.now c.in_ok-answer.answer c.push.result are c.push.ensures c.in_ok-answer.ensures.shape
