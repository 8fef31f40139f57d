use Rattle.bson_store.proofs.MoveLemmas.{moved}
use Rattle.bson_store.specs.Calls.{store_state}
use Rattle.store_question.specs.Reads.{form_of}
use Rattle.fallowtime_commands.proofs.FindingLemmas.{first_asked}
use Rattle.fallowtime_commands.proofs.finding.find_first.Goals as goal

pub returns-clause-moves : goal.returns-clause-moves
returns-clause-moves g c =
    moved (store_state g.S.Store c.args.store.now) (store_state g.S.Store c.find_arranged.new.store) _ _ c.find_arranged.ensures.moves
    (λ docs after h. first_asked c.args.name.now (form_of c.args.question.now) c.args.arrangement.now c.find_arranged.result docs after (rw c.first_of-first.ensures at h))
