use Rattle.bson_store.proofs.MoveLemmas.{moved}
use Rattle.bson_store.specs.Calls.{store_state}
use Rattle.fallowtime_commands.proofs.AskingLemmas.{finds}
use Rattle.fallowtime_commands.proofs.session.asking.find.Goals as goal

pub returns-clause-moves : goal.returns-clause-moves
returns-clause-moves g c =
    moved (store_state g.S.Store c.args.store.now) (store_state g.S.Store c.find_wanted.new.store) _ _ c.find_wanted.ensures.moves
    (λ docs after h. finds c.args.name.now c.args.question.now c.args.edits.now.draft c.documents.result docs after c.args.wanted.now c.find_wanted.result c.documents.ensures.reply h)
