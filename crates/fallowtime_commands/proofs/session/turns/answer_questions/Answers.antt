use Rattle.std.proofs.Common.{subst}
use Rattle.bson_store.specs.Calls.{store_state}
use Rattle.fallowtime_commands.specs.Objects.{id_tree}
use Rattle.fallowtime_commands.specs.Turns.{CarriesAll}
use Rattle.fallowtime_commands.proofs.AnswerLemmas.{carried_all}
use Rattle.fallowtime_commands.proofs.session.turns.answer_questions.Goals as goal

pub returns : goal.returns
returns g c =
    let s = store_state g.S.Store c.args.store.now in
    let t = store_state g.S.Store c.perform_all-outcome.new.store in
    subst (λ qs. CarriesAll (id_tree c.args.id) qs c.list_line-line.result s t) c.as_slice.ensures.value
    (carried_all s t (id_tree c.args.id) c.as_slice.result.now c.perform_all-outcome.result c.list_line-line.result c.perform_all-outcome.ensures.moves c.perform_all-outcome.ensures.open c.perform_all-outcome.ensures.crash
    c.perform_all-outcome.ensures.shape c.list_line-line.ensures)
