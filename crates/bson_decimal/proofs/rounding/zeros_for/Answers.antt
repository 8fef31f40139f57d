use Rattle.std.proofs.Common.{arith}
use Rattle.bson_decimal.proofs.RoundLemmas.{digits_room, some_digits, zeros_full, zeros_room}
use Rattle.bson_decimal.proofs.rounding.zeros_for.Goals as goal

pub overflow_sub-result : goal.overflow_sub-result
overflow_sub-result c = let le = digits_room c.args.c c.digits.result c.requires.first c.digits.ensures.least in omega (arith, le)

pub returns-clause-few : goal.returns-clause-few
returns-clause-few c = let some = some_digits c.args.c c.digits.result c.requires.some c.digits.ensures.below in omega (arith, some)

pub returns-clause-room : goal.returns-clause-room
returns-clause-room c = let le = digits_room c.args.c c.digits.result c.requires.first c.digits.ensures.least in zeros_room c.args.c c.digits.result le c.digits.ensures.below

pub returns-clause-full : goal.returns-clause-full
returns-clause-full c =
    let le = digits_room c.args.c c.digits.result c.requires.first c.digits.ensures.least in
    let some = some_digits c.args.c c.digits.result c.requires.some c.digits.ensures.below in
    zeros_full c.args.c c.digits.result some le (c.digits.ensures.least some)
