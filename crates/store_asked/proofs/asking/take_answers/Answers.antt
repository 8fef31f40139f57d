use Rattle.std.proofs.lemmas.Result.{err_from_is_err_and}
use Rattle.bson_store.proofs.MoveLemmas.{moved}
use Rattle.bson_store.specs.Calls.{store_state}
use Rattle.store_question.specs.Filters.{filter_of}
use Rattle.store_question.specs.Reads.{form_of}
use Rattle.store_asked.specs.declared.answering.Answering.{Answering}
use Rattle.store_asked.proofs.AskLemmas.{all_passed, none_passed}
use Rattle.store_asked.proofs.FrontLemmas.{passes_front}
use Rattle.store_asked.proofs.asking.take_answers.Goals as goal

pub returns-in_err-taken-clause-moves : goal.returns-in_err-taken-clause-moves
returns-in_err-taken-clause-moves g c =
    let p = err_from_is_err_and c.from_residual.result c.from_residual.ensures.1 in
    let first : Answering g.row.T.Denot = record { alloc = c.args.alloc; question = c.args.question; taker = c.args.taker } in
    let holds = passes_front (form_of c.args.question.now) (filter_of c.filter_in_front-filter.result) c.ranges_in_front-ranges.result.items c.as_slice.result.now c.as_slice.ensures.value c.filter_in_front-filter.ensures c.ranges_in_front-ranges.ensures in
    rw (p.1, p.2) (moved (store_state g.S.Store c.args.store.now) (store_state g.S.Store c.take_passing-outcome.new.self) _ _ c.in_err-taken.ensures.moves (λ docs after h. none_passed g.T.Take.took first _ holds c.args.name.now docs after c.in_err-taken.field-0.0 h))

pub returns-clause-moves : goal.returns-clause-moves
returns-clause-moves g c =
    let first : Answering g.row.T.Denot = record { alloc = c.args.alloc; question = c.args.question; taker = c.args.taker } in
    let holds = passes_front (form_of c.args.question.now) (filter_of c.filter_in_front-filter.result) c.ranges_in_front-ranges.result.items c.as_slice.result.now c.as_slice.ensures.value c.filter_in_front-filter.ensures c.ranges_in_front-ranges.ensures in
    moved (store_state g.S.Store c.args.store.now) (store_state g.S.Store c.take_passing-outcome.new.self) _ _ c.in_ok-taken.ensures.moves (λ docs after h. all_passed g.T.Take.took first _ holds c.args.name.now docs after c.in_ok-taken.taken h)
