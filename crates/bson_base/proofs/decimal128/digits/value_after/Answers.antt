use Rattle.std.proofs.Common.{◌<◌, ◌≤◌, ◌^◌, ◌+◌, ◌∙◌, get_or, arith}
use Rattle.bson_base.proofs.DecimalLemmas.{below_power, one_more, power_step}
use Rattle.bson_base.proofs.decimal128.digits.value_after.Goals as goal

pub overflow_mul-n : goal.overflow_mul-n
overflow_mul-n c =
    let low : c.loop-c.n < 10 ^ 33 = below_power c.loop-c.n (c.args.before + c.loop-c.c-index) c.loop-c.invariant.small (omega arith) in
    omega arith

pub overflow_add-n : goal.overflow_add-n
overflow_add-n c =
    let low : c.loop-c.n < 10 ^ 33 = below_power c.loop-c.n (c.args.before + c.loop-c.c-index) c.loop-c.invariant.small (omega arith) in
    let digit : get_or c.args.digits.now c.loop-c.c-index 0 ≤ 57 = (one_more c.loop-c.n c.loop-c.c-index c.args.digits.now (omega arith) c.loop-c.invariant.rest).3 in
    omega arith

pub loop-c-preserved : goal.loop-c-preserved
loop-c-preserved c =
    let ds = c.args.digits.now in
    let i = c.loop-c.c-index in
    let more = one_more c.loop-c.n i ds c.loop-c-test.true c.loop-c.invariant.rest in
    record {
      kept = c.loop-c.invariant.kept ∙ more.0;
      small = power_step c.loop-c.n (get_or ds i 0) (c.args.before + i) (c.args.before + (i + 1)) c.loop-c.invariant.small more.3 (omega arith);
      rest = more.1;
    }
