use Rattle.std.proofs.Common.{Ok, Err, refl}
use Rattle.std.proofs.lemmas.Result.{err_from_is_err_and}
use Rattle.bson_store.proofs.MoveLemmas.{moved}
use Rattle.bson_store.specs.Calls.{store_state}
use Rattle.fallowtime_commands.proofs.ChangeLemmas.{found_still}
use Rattle.fallowtime_commands.proofs.aggregating.aggregate.Goals as goal

pub returns-in_err-bodies-clause-moves : goal.returns-in_err-bodies-clause-moves
returns-in_err-bodies-clause-moves g c =
    let p = err_from_is_err_and c.from_residual.result c.from_residual.ensures.1 in
    rw (p.1, p.2) (moved (store_state g.S.Store c.args.store.now) (store_state g.S.Store c.find_all.new.store) _ _ c.in_err-bodies.ensures.moves (λ docs after h. (Err c.in_err-bodies.field-0.0, h, refl)))

pub returns-clause-moves : goal.returns-clause-moves
returns-clause-moves g c =
    moved (store_state g.S.Store c.args.store.now) (store_state g.S.Store c.find_all.new.store) _ _ c.in_ok-bodies.ensures.moves (λ docs after h. (Ok c.in_ok-bodies.bodies, h, c.make.ensures.follows))

pub returns-clause-open : goal.returns-clause-open
returns-clause-open g c = found_still (store_state g.S.Store c.args.store.now) (store_state g.S.Store c.find_all.new.store) c.in_ok-bodies.bodies c.make.result c.in_ok-bodies.ensures.open
