use Rattle.std.proofs.Common.{◌<◌, ◌∙◌, FitsSigned, arith, rules, subst, sym, w64}
use Rattle.std.proofs.lemmas.Int.{to_z-of_z}
use Rattle.fallowtime_messages.specs.Waiting.{IsNew, waiting}
use Rattle.fallowtime_messages.proofs.WaitLemmas.{begun, begun_below, is_not_0, next_is_new}
use Rattle.fallowtime_messages.proofs.cursors.Cursors.wait.Goals as goal

pub invariant_of-self-2 : goal.invariant_of-self-2
invariant_of-self-2 c =
    let now = c.args.self.now in
    let number = c.in_ok-id.ensures in
    let some : 0 < c.take_number.new.next = search (rules, arith) in
    let fits : FitsSigned w64 c.in_ok-id.id = search rules in
    record {
      from_one = some;
      below = begun_below now.next c.take_number.new.next _ now.waiting.items c.push.new.self.items c.let_go.new.cursors.items number.1 (to_z-of_z w64 c.in_ok-id.id fits ∙ number.0) c.in_ok-push.ensures.items c.let_go.ensures now.below;
    }

pub returns : goal.returns
returns c =
    let now = c.args.self.now in
    let fits : FitsSigned w64 c.in_ok-id.id = search rules in
    let is = to_z-of_z w64 c.in_ok-id.id fits in
    let number = is ∙ c.in_ok-id.ensures.0 in (
      is_not_0 now.next _ number now.from_one,
      subst (λ z. IsNew z (waiting now)) (sym number) (next_is_new now.next (waiting now) now.below),
      begun _ now.waiting.items c.push.new.self.items c.let_go.new.cursors.items c.args.space.now c.in_ok-push.ensures.items c.let_go.ensures c.in_ok-space.ensures.ok,
    )
