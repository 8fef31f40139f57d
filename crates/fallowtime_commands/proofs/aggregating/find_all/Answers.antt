use Rattle.bson_store.proofs.MoveLemmas.{moved}
use Rattle.bson_store.specs.Calls.{store_state}
use Rattle.store_question.specs.Reads.{form_of}
use Rattle.fallowtime_commands.proofs.AggregateLemmas.{all_asked}
use Rattle.fallowtime_commands.proofs.aggregating.find_all.Goals as goal

pub returns-clause-moves : goal.returns-clause-moves
returns-clause-moves g c =
    let all = c.all_as_they_come-arrangement in
    moved (store_state g.S.Store c.args.store.now) (store_state g.S.Store c.find_arranged.new.store) _ _ c.find_arranged.ensures.moves
    (λ docs after h. all_asked all.result all.ensures.keys all.ensures.skip all.ensures.limit c.args.name.now (form_of c.args.question.now) c.find_arranged.result docs after h)
