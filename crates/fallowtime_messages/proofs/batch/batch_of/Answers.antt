use Rattle.std.proofs.Common.{ap, ◌-◌, ◌∙◌}
use Rattle.fallowtime_messages.specs.Waiting.{bodies_of, taken}
use Rattle.fallowtime_messages.proofs.WaitLemmas.{one_taken}
use Rattle.fallowtime_messages.proofs.batch.batch_of.Goals as goal

pub loop-wanted-preserved : goal.loop-wanted-preserved
loop-wanted-preserved c =
    let l = c.loop-wanted in
    let x = c.in-Some.body in
    one_taken c.args.rest.now.items l.batch.items c.push.new.self.items l.rest.items c.pop_front.new.self.items x (taken c.args.size 16777216 (bodies_of c.args.rest.now.items)) l.wanted l.room c.saturating_sub-room.result
    (c.saturating_sub-room.ensures ∙ ap (λ n. l.room - n) (c.len.ensures ∙ x.ok.0)) c.in-Some.ensures.items c.in_ok-push.ensures.items c.loop-wanted-test.true c.if-room-gt0.true l.invariant
