use Rattle.std.proofs.lemmas.Int.{to_z-of_z}
use Rattle.bson_order.proofs.SizeLemmas.{whole_line}
use Rattle.bson_order.proofs.numbers.whole.Goals as goal

pub returns-clause-place : goal.returns-clause-place
returns-clause-place c =
    let fits = c.ranges.number in
    let sign = simp to_z-of_z at c.is_negative.ensures in
    let size = simp to_z-of_z at c.unsigned_abs.ensures.value in
    rw (sign, size) (whole_line c.args.number)
