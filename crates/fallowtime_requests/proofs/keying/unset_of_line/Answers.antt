use Rattle.std.proofs.Common.{arith}
use Rattle.fallowtime_requests.proofs.KeyLemmas.{four_values, not_four_values}
use Rattle.fallowtime_requests.proofs.LineLemmas.{by_unset}
use Rattle.fallowtime_requests.proofs.keying.unset_of_line.Goals as goal
use Rattle.fallowtime_requests.proofs.keying.unset_of_line.Goals.{in_default-via-then-items-lt4, in_default-via-else-items-lt4+else-items-lt5}

pub keyed-requires-clause-takes : goal.keyed-requires-clause-takes
keyed-requires-clause-takes c = by_unset

pub keyed-requires-in_default-clause-takes : goal.keyed-requires-in_default-clause-takes
keyed-requires-in_default-clause-takes c = by_unset

pub returns-in-len4-clause-asked : goal.returns-in-len4-clause-asked
returns-in-len4-clause-asked c =
    four_values c.args.maker.now c.keyed.new.maker c.args.items.now c.options-item.result c.keyed.result (omega (arith, c.in-len4.len_at_least, c.in-len4.len_below)) c.options-item.is c.keyed.ensures.asked

pub returns-in_default-clause-asked : goal.returns-in_default-clause-asked
returns-in_default-clause-asked c =
    not_four_values c.args.maker.now c.keyed-in_default.new.maker c.args.items.now c.keyed-in_default.result
    (λ e. elim c.in_default.branch [ in_default-via-then-items-lt4 w ↦ grind arith | in_default-via-else-items-lt4+else-items-lt5 w ↦ grind arith ]) c.keyed-in_default.ensures.asked
