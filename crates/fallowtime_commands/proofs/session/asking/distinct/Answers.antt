use Rattle.bson_store.proofs.MoveLemmas.{moved}
use Rattle.bson_store.specs.Calls.{store_state}
use Rattle.fallowtime_commands.proofs.AskingLemmas.{differs}
use Rattle.fallowtime_commands.proofs.session.asking.distinct.Goals as goal

pub returns-clause-moves : goal.returns-clause-moves
returns-clause-moves g c =
    moved (store_state g.S.Store c.args.store.now) (store_state g.S.Store c.values_at-outcome.new.store) _ _ c.values_at-outcome.ensures.moves
    (λ docs after h. differs c.args.name.now c.args.question.now c.args.edits.now.draft c.values.result docs after c.args.path.now c.args.counts _ c.as_slice.ensures.value c.values_at-outcome.result c.values.ensures.reply h)
