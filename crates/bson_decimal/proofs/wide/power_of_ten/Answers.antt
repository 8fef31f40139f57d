use Rattle.std.proofs.Common.{◌^◌, ◌<◌, ◌≤◌, sym, subst}
use Rattle.bson_decimal.proofs.WideLemmas.{power_room, power_at_most, power_under}
use Rattle.bson_decimal.proofs.RoundLemmas.{some_power}
use Rattle.bson_decimal.proofs.wide.power_of_ten.Goals as goal

pub pow-requires : goal.pow-requires
pow-requires c = power_room c.args.k c.requires

pub returns-clause-some : goal.returns-clause-some
returns-clause-some c = subst (λ n. 0 < n) (sym c.pow.ensures) (some_power c.args.k)

pub returns-clause-small : goal.returns-clause-small
returns-clause-small c = subst (λ n. n ≤ 10 ^ 34) (sym c.pow.ensures) (power_at_most c.args.k c.requires)

pub returns-clause-under : goal.returns-clause-under
returns-clause-under c = λ h. subst (λ n. n < 10 ^ 34) (sym c.pow.ensures) (power_under c.args.k h)
