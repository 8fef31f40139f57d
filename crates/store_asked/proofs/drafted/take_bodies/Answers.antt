use Rattle.std.proofs.Common.{◌≡◌, ◌∙◌, ℕ, Vec, Global, ap, get_or, subst, sym, take, rules}
use Rattle.store_asked.proofs.DraftedLemmas.{taken_on, took_settled, turn_at}
use Rattle.store_asked.proofs.drafted.take_bodies.Goals as goal

pub returns-then-is_done-clause-took : goal.returns-then-is_done-clause-took
returns-then-is_done-clause-took g c ds kept are =
    took_settled (g.T.Take.took c.args.taker c.loop-body.taker) c.args.bodies.now ds kept are c.loop-body.body-index (c.loop-body.invariant ds kept are) (c.is_done.ensures c.if-is_done.true c.args.taker)

pub loop-body-preserved : goal.loop-body-preserved
loop-body-preserved g c ds kept are =
    let bodies = c.args.bodies.now in
    let i = c.loop-body.body-index in
    let turn = turn_at bodies ds i c.body-item.result c.loop-body-test.true are kept in
    let one : get_or bodies i c.body-item.result ≡ c.body-item.result = search rules in
    let is = c.as_slice.ensures.value ∙ sym (ap (λ (v : Vec ℕ Global). v.items) one) ∙ turn.is in
    subst (g.T.Take.took c.args.taker c.take_body.new.taker) (sym (taken_on ds i _ turn)) (c.in_ok-take_body.ensures.took c.args.taker (take i ds) turn.document turn.kept is (c.loop-body.invariant ds kept are))
