use Rattle.std.proofs.Common.{Ok, ◌∙◌}
use Rattle.bson_store.specs.Calls.{store_state}
use Rattle.bson_store.specs.Drafting.{HoldsRows}
use Rattle.bson_store.proofs.DraftedLemmas.{held_drafted}
use Rattle.bson_store.proofs.MoveLemmas.{moved}
use Rattle.bson_store.proofs.drafted.drafted_bodies.Goals as goal

pub returns-clause-moves : goal.returns-clause-moves
returns-clause-moves g c =
    let coll = c.as_str-collection.result.now in
    moved (store_state g.S.Store c.args.store.now) (store_state g.S.Store c.held_rows.new.store) (HoldsRows coll (Ok c.in-Ok.rows)) _ c.in-Ok.ensures.moves
    (λ docs after h. held_drafted c.args.edits.now.draft c.args.name.now coll c.in-Ok.rows c.in_ok-rows.rows c.in_ok-bodies.bodies docs after (c.as_str-collection.ensures.text ∙ c.in_ok-name.ensures.0) c.in_ok-name.ensures.1 c.in_ok-rows.ensures c.in_ok-bodies.ensures h)
