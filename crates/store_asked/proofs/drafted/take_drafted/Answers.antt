use Rattle.std.proofs.Common.{◌∙◌, Ok, Err, ap}
use Rattle.std.proofs.lemmas.Result.{err_from_is_err_and}
use Rattle.bson_store.proofs.MoveLemmas.{moved}
use Rattle.bson_store.specs.Calls.{store_state}
use Rattle.bson_store.specs.Drafting.{HoldsDrafted}
use Rattle.bson_store.specs.Export.{bytes_of_each}
use Rattle.store_asked.specs.declared.answering.Answering.{Answering}
use Rattle.store_asked.proofs.DraftedLemmas.{held_refused, held_taken, unheld}
use Rattle.store_asked.proofs.drafted.take_drafted.Goals as goal

pub returns-in_err-bodies-clause-moves : goal.returns-in_err-bodies-clause-moves
returns-in_err-bodies-clause-moves g c =
    let p = err_from_is_err_and c.from_residual.result c.from_residual.ensures.1 in
    let first : Answering g.row.T.Denot = record { alloc = c.args.alloc; question = c.args.question; taker = c.args.taker } in
    let e = c.in_err-bodies.field-0.0 in
    rw (p.1, p.2) (moved (store_state g.S.Store c.args.store.now) (store_state g.S.Store c.drafted_bodies.new.store) (HoldsDrafted c.args.edits.now.draft c.args.name.now (Err e)) _ c.in_err-bodies.ensures.moves
    (λ docs after h. unheld g.T.Take.took first c.args.edits.now.draft c.args.name.now docs after e h))

pub returns-in_err-taken-clause-moves : goal.returns-in_err-taken-clause-moves
returns-in_err-taken-clause-moves g c =
    let p = err_from_is_err_and c.from_residual-in_err-taken.result c.from_residual-in_err-taken.ensures.1 in
    let first : Answering g.row.T.Denot = record { alloc = c.args.alloc; question = c.args.question; taker = c.args.taker } in
    let bodies = c.in_ok-bodies.bodies in
    rw (p.1, p.2) (moved (store_state g.S.Store c.args.store.now) (store_state g.S.Store c.drafted_bodies.new.store) (HoldsDrafted c.args.edits.now.draft c.args.name.now (Ok bodies)) _ c.in_ok-bodies.ensures.moves
    (λ docs after h. held_refused g.T.Take.took first c.args.edits.now.draft c.args.name.now docs after bodies h c.in_err-taken.field-0.0 c.in_err-taken.ensures.denied))

pub returns-clause-moves : goal.returns-clause-moves
returns-clause-moves g c =
    let first : Answering g.row.T.Denot = record { alloc = c.args.alloc; question = c.args.question; taker = c.args.taker } in
    let bodies = c.in_ok-bodies.bodies in
    moved (store_state g.S.Store c.args.store.now) (store_state g.S.Store c.drafted_bodies.new.store) (HoldsDrafted c.args.edits.now.draft c.args.name.now (Ok bodies)) _ c.in_ok-bodies.ensures.moves
    (λ docs after h. held_taken g.T.Take.took first c.args.edits.now.draft c.args.name.now docs after bodies h c.in_ok-taken.taken (λ ds kept are. c.in_ok-taken.ensures.took ds kept (ap bytes_of_each c.as_slice.ensures.value ∙ are)))
