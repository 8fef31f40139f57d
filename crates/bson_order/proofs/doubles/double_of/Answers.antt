use Rattle.std.proofs.lemmas.Int.{to_z-of_z}
use Rattle.bson_order.proofs.DoubleLemmas.{none_at}
use Rattle.bson_order.proofs.doubles.double_of.Goals as goal

pub returns-in-None : goal.returns-in-None
returns-in-None c =
    let fits = c.ranges.whole in
    let size = simp to_z-of_z at c.unsigned_abs.ensures.value in
    λ n e. none_at n c.unsigned_abs.result c.args.whole size c.unsigned_abs.type_inv c.in-None.ensures e
