use Rattle.std.proofs.lemmas.Result.{err_from_is_err_and}
use Rattle.std.proofs.Common.{subst, sym}
use Rattle.json.specs.Value.{members_view}
use Rattle.fallowtime_requests.specs.Arranging.{PutsOptions, plan_of}
use Rattle.fallowtime_requests.proofs.ArrangeLemmas.{no_plan, plan_of_all, stops_then}
use Rattle.fallowtime_requests.proofs.arranging.wanted_among.Goals as goal

pub loop-name-init : goal.loop-name-init
loop-name-init c q =
    let is = plan_of_all c.all_of-wanted.result c.all_of-wanted.ensures in
    (λ h. subst (λ p. PutsOptions c.args.changes p (members_view c.args.members.now) q) (sym is) h, λ h. subst (λ p. PutsOptions c.args.changes p (members_view c.args.members.now) q) is h)

pub returns-in_err-put_option : goal.returns-in_err-put_option
returns-in_err-put_option c =
    let p = err_from_is_err_and c.from_residual.result c.from_residual.ensures.1 in
    rw (p.1, p.2) (stops_then _ _ c.in_err-put_option.field-0.0 (no_plan c.args.changes c.args.members.now c.loop-name.name-index c.loop-name-item.result (plan_of c.loop-name.wanted) c.loop-name-test.true c.loop-name-item.is c.loop-name.invariant) c.in_err-put_option.ensures.stop)
