use Rattle.std.proofs.Common.{◌*◌, ◌/◌, ◌%◌, ◌^◌, ap, arith, div-le_self}
use Rattle.bson_decimal.proofs.QuotientLemmas.{digit_small, next_rest, next_whole, zeros_all, zeros_begin, zeros_end, zeros_few, zeros_next, by_one}
use Rattle.bson_decimal.proofs.quotients.long_division.Goals as goal

pub loop-zeros-init : goal.loop-zeros-init
loop-zeros-init c =
    let less = div-le_self c.args.c c.args.d in
    (ap (λ n. n / c.args.d) (by_one c.args.c), ap (λ n. n % c.args.d) (by_one c.args.c), omega (arith, less), zeros_begin c.args.c c.args.d)

pub loop-zeros-preserved : goal.loop-zeros-preserved
loop-zeros-preserved c =
    let i = c.loop-zeros.invariant in
    let digit = digit_small c.args.d c.loop-zeros.rest (c.args.c * 10 ^ c.loop-zeros.zeros) c.requires.some i.1 in (
      next_whole c.args.c c.args.d c.loop-zeros.whole c.loop-zeros.rest c.loop-zeros.zeros c.requires.some i.0 i.1,
      next_rest c.args.c c.args.d c.loop-zeros.rest c.loop-zeros.zeros c.requires.some i.1,
      omega (arith, digit),
      zeros_next c.args.c c.args.d c.loop-zeros.rest c.loop-zeros.zeros _ c.loop-zeros-test.true i.1 (omega arith) i.3,
    )

pub returns-then-rest-eq0-clause-few : goal.returns-then-rest-eq0-clause-few
returns-then-rest-eq0-clause-few c = zeros_few c.args.c c.args.d c.loop-zeros.zeros _ c.loop-zeros.invariant.3

pub returns-then-rest-eq0-clause-exact : goal.returns-then-rest-eq0-clause-exact
returns-then-rest-eq0-clause-exact c = λ none. zeros_end c.args.c c.args.d c.loop-zeros.rest c.loop-zeros.zeros _ c.loop-zeros-test.true c.loop-zeros.invariant.1 none c.loop-zeros.invariant.3

pub returns-clause-few : goal.returns-clause-few
returns-clause-few c = let all = zeros_all c.args.c c.args.d c.loop-zeros.zeros _ (omega arith) c.loop-zeros.invariant.3 in omega (arith, all)

pub returns-clause-exact : goal.returns-clause-exact
returns-clause-exact c = λ none. zeros_all c.args.c c.args.d c.loop-zeros.zeros _ (omega arith) c.loop-zeros.invariant.3
