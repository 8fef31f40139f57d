use Rattle.std.proofs.Common.{sym, subst}
use Rattle.std.specs.Prelude.{MatchResult}
use Rattle.fallowtime_requests.specs.Arranging.{IsPlan, Plan, StopsOptions, plan_of}
use Rattle.fallowtime_requests.proofs.OptionLemmas.{object_seen}
use Rattle.fallowtime_requests.proofs.arranging.wanted_of.Goals as goal

pub returns-in-Object : goal.returns-in-Object
returns-in-Object c =
    let seen = object_seen c.args.tree.now c.in-Object.members c.as_slice.result.now c.in-Object.is c.as_slice.ensures.value in
    subst (λ j. MatchResult c.wanted_among.result (λ a. IsPlan c.args.changes j (plan_of a)) (StopsOptions ((q : Plan) → IsPlan c.args.changes j q → ⊥))) (sym seen) c.wanted_among.ensures
