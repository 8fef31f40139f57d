use Rattle.bson_store.proofs.MoveLemmas.{moved}
use Rattle.bson_store.specs.Calls.{store_state}
use Rattle.fallowtime_commands.proofs.AskingLemmas.{counts}
use Rattle.fallowtime_commands.proofs.session.asking.count.Goals as goal

pub returns-clause-moves : goal.returns-clause-moves
returns-clause-moves g c =
    moved (store_state g.S.Store c.args.store.now) (store_state g.S.Store c.count_part.new.store) _ _ c.count_part.ensures.moves
    (λ docs after h. counts c.args.name.now c.args.question.now c.args.edits.now.draft c.number.result docs after c.args.part.now c.count_part.result c.number.ensures.reply h)
