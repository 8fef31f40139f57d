use Rattle.std.proofs.Common.{arith}
use Rattle.fallowtime_requests.proofs.ChooseLemmas.{no_one_or_two, one_chosen}
use Rattle.fallowtime_requests.proofs.choosing.choice_among.Goals as goal

pub returns-in-len1 : goal.returns-in-len1
returns-in-len1 c =
    one_chosen c.args.several c.no_choice.result c.no_choice.ensures c.args.members.now c.index-members-0.result c.index-members-0-then-members-lt2.result c.chosen.result c.in-len1.len_at_least c.in-len1.len_below c.chosen.ensures

pub returns-in_default-2 : goal.returns-in_default-2
returns-in_default-2 c =
    no_one_or_two c.args.several c.args.members.now (λ e. omega (arith, e, c.in_default.len_at_least)) (λ e. omega (arith, e, c.in_default.len_at_least))
