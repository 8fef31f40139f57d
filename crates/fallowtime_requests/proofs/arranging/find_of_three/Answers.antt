use Rattle.std.proofs.Common.{arith}
use Rattle.fallowtime_requests.proofs.ArrangeLemmas.{four_values, not_four_values, not_import}
use Rattle.fallowtime_requests.proofs.arranging.find_of_three.Goals as goal
use Rattle.fallowtime_requests.proofs.arranging.find_of_three.Goals.{in_default-via-then-items-lt4, in_default-via-else-items-lt4+else-items-lt5}

pub returns-in-len4-clause-asked : goal.returns-in-len4-clause-asked
returns-in-len4-clause-asked c =
    four_values c.args.maker.now c.find_by_options.new.maker c.args.command c.args.items.now c.options-item.result c.find_by_options.result (omega (arith, c.in-len4.len_at_least, c.in-len4.len_below)) c.options-item.is c.find_by_options.ensures.asked

pub returns-in_default-clause-asked : goal.returns-in_default-clause-asked
returns-in_default-clause-asked c =
    not_four_values c.args.maker.now c.question_of_items.new.maker c.args.command c.args.items.now c.question_of_items.result
    (λ e. elim c.in_default.branch [ in_default-via-then-items-lt4 w ↦ grind arith | in_default-via-else-items-lt4+else-items-lt5 w ↦ grind arith ]) c.question_of_items.ensures.asked

pub returns-in_default-clause-maker : goal.returns-in_default-clause-maker
returns-in_default-clause-maker c = c.question_of_items.ensures.maker (not_import c.args.command c.requires)
