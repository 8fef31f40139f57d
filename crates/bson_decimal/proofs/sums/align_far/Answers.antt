use Rattle.std.proofs.Common.{◌+◌, ◌-◌, ◌*◌, ◌∙◌, ap, arith}
use Rattle.bson_decimal.specs.Arithmetic.{signed_sum}
use Rattle.bson_decimal.proofs.SumLemmas.{full_room, power_moved_by, power_moved_far, signed_sum_of, wide_room}
use Rattle.bson_decimal.proofs.sums.align_far.Goals as goal

pub signed_sum-requires-clause-room : goal.signed_sum-requires-clause-room
signed_sum-requires-clause-room c =
    let less = full_room c.args.c c.zeros_for-zeros.result c.power_of_ten.result c.power_of_ten.ensures.equal c.zeros_for-zeros.ensures.room in
    wide_room (c.args.c * c.power_of_ten.result) c.args.d (c.args.k - c.zeros_for-zeros.result) _ _ less c.requires.second (omega arith) c.with_zeros.ensures.equal (omega arith)

pub returns-then-k-zeros-clause-equal : goal.returns-then-k-zeros-clause-equal
returns-then-k-zeros-clause-equal c =
    c.signed_sum.ensures.equal
    ∙ signed_sum_of c.args.s c.args.t _ _ _ _ (c.args.f + 12352) (c.with_zeros.ensures.equal ∙ power_moved_by c.args.c c.zeros_for-zeros.result c.args.k c.power_of_ten.result c.power_of_ten.ensures.equal (omega (arith, c.zeros_for-zeros.ensures.few, c.requires.many))) (omega arith)

pub returns-else-k-zeros-clause-equal : goal.returns-else-k-zeros-clause-equal
returns-else-k-zeros-clause-equal c =
    c.align_beyond.ensures.equal
    ∙ ap (λ n. signed_sum c.args.s n c.args.t c.args.d (c.args.f + 12352)) (power_moved_far c.args.c c.zeros_for-zeros.result c.args.k c.power_of_ten.result c.power_of_ten.ensures.equal (omega arith))
