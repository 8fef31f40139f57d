use Rattle.std.proofs.Common.{Ok, Err}
use Rattle.bson_store.specs.Calls.{store_state}
use Rattle.bson_store.specs.Dump.{HandsTrees}
use Rattle.bson_store.proofs.MoveLemmas.{moved}
use Rattle.bson_store.proofs.store.Store.each_json.Goals as goal

pub returns-in-Ok-clause-moves : goal.returns-in-Ok-clause-moves
returns-in-Ok-clause-moves g c start =
    let took = g.T.TakeJson.took in
    let refused_by = g.T.TakeJson.refused in
    let n = c.args.name.now in
    moved (store_state g.S.Store c.args.self.now) (store_state g.S.Store c.walk.new.self) _ (HandsTrees (took c.args.taker) (refused_by c.args.taker) n (Ok c.in-Ok.step.taker))
    (c.in-Ok.ensures.moves start) (λ docs after h. record { same = h.same; handed = h.handed })

pub returns-in-Err-clause-moves : goal.returns-in-Err-clause-moves
returns-in-Err-clause-moves g c start =
    let took = g.T.TakeJson.took in
    let refused_by = g.T.TakeJson.refused in
    let n = c.args.name.now in
    moved (store_state g.S.Store c.args.self.now) (store_state g.S.Store c.walk.new.self) _ (HandsTrees (took c.args.taker) (refused_by c.args.taker) n (Err (c.in-Err.error, c.in-Err.step.taker)))
    (c.in-Err.ensures.moves start) (λ docs after h. record { same = h.same; handed = h.handed })
