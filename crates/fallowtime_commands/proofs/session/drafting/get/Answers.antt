use Rattle.bson_model.specs.View.{view}
use Rattle.bson_store.specs.Calls.{store_state}
use Rattle.bson_store.proofs.MoveLemmas.{moved}
use Rattle.bson_store.specs.Drafting.{GetsDrafted}
use Rattle.fallowtime_commands.proofs.RequestLemmas.{got_drafted}
use Rattle.fallowtime_commands.proofs.session.drafting.get.Goals as goal

pub returns-clause-moves : goal.returns-clause-moves
returns-clause-moves g c =
    moved (store_state g.S.Store c.args.store.now) (store_state g.S.Store c.get_drafted.new.store) (GetsDrafted c.args.name.now (view c.args.id.now) c.args.edits.now.draft c.get_drafted.result) _ c.get_drafted.ensures.moves
    (λ docs after h. got_drafted c.args.name.now c.args.id.now c.args.edits.now.draft c.get_drafted.result c.document.result docs after c.document.ensures.reply h)
