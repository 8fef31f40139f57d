use Rattle.std.proofs.Common.{◌<◌, ◌^◌, ◌+◌, ◌-◌, ◌∙◌, arith}
use Rattle.bson_base.proofs.DecimalLemmas.{below_power, below_last_power, power_step, zeros_step}
use Rattle.bson_base.proofs.decimal128.parse.times_ten.Goals as goal

pub overflow_mul-n : goal.overflow_mul-n
overflow_mul-n c =
    let low : c.loop-done.n < 10 ^ 33 = below_power c.loop-done.n (c.args.before + c.loop-done.done) c.loop-done.invariant.small (omega arith) in
    omega arith

pub loop-done-preserved : goal.loop-done-preserved
loop-done-preserved c =
    let l = c.loop-done in
    record {
      kept = l.invariant.kept ∙ zeros_step l.n (c.args.zeros - l.done) (c.args.zeros - (l.done + 1)) (omega arith);
      small = let step = power_step l.n 48 (c.args.before + l.done) (c.args.before + (l.done + 1)) l.invariant.small (omega arith) (omega arith) in omega arith;
    }

pub returns-clause-bound : goal.returns-clause-bound
returns-clause-bound c = below_last_power c.loop-done.n (c.args.before + c.loop-done.done) c.loop-done.invariant.small (omega arith)
