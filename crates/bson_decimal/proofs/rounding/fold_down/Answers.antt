use Rattle.std.proofs.Common.{arith, lit<}
use Rattle.bson_decimal.proofs.RoundLemmas.{fold_beyond, fold_room, fold_there}
use Rattle.bson_decimal.proofs.rounding.fold_down.Goals as goal

pub overflow_mul-result : goal.overflow_mul-result
overflow_mul-result c =
    let room = fold_room c.args.negative c.args.coefficient c.args.k c.power_of_ten.result c.power_of_ten-then-coefficient-power_of_ten.result c.requires.few c.power_of_ten.ensures.equal c.power_of_ten-then-coefficient-power_of_ten.ensures.equal (omega arith) in
    omega (arith, room)

pub returns-then-coefficient-power_of_ten-clause-equal : goal.returns-then-coefficient-power_of_ten-clause-equal
returns-then-coefficient-power_of_ten-clause-equal c = fold_there c.args.negative c.args.coefficient c.args.k c.power_of_ten.result c.power_of_ten-then-coefficient-power_of_ten.result c.requires.few c.power_of_ten.ensures.equal c.power_of_ten-then-coefficient-power_of_ten.ensures.equal (omega arith)

pub returns-else-coefficient-power_of_ten-clause-equal : goal.returns-else-coefficient-power_of_ten-clause-equal
returns-else-coefficient-power_of_ten-clause-equal c = fold_beyond c.args.negative c.args.coefficient c.args.k c.power_of_ten.result c.requires.few c.power_of_ten.ensures.equal (omega arith)

pub returns-then-coefficient-power_of_ten-clause-decimal : goal.returns-then-coefficient-power_of_ten-clause-decimal
returns-then-coefficient-power_of_ten-clause-decimal c = (
  fold_room c.args.negative c.args.coefficient c.args.k c.power_of_ten.result c.power_of_ten-then-coefficient-power_of_ten.result c.requires.few c.power_of_ten.ensures.equal c.power_of_ten-then-coefficient-power_of_ten.ensures.equal (omega arith),
  lit< tt,
)
