use Rattle.std.proofs.Common.{◌+◌, ◌∙◌, arith}
use Rattle.bson_decimal.proofs.SumLemmas.{signed_sum_of, wide_room}
use Rattle.bson_decimal.proofs.sums.align.Goals as goal

pub signed_sum-requires-then-k-le34-clause-room : goal.signed_sum-requires-then-k-le34-clause-room
signed_sum-requires-then-k-le34-clause-room c = wide_room c.args.c c.args.d c.args.k _ _ c.requires.first c.requires.second (omega arith) c.with_zeros.ensures.equal (omega arith)

pub returns-then-k-le34-clause-equal : goal.returns-then-k-le34-clause-equal
returns-then-k-le34-clause-equal c = c.signed_sum-then-k-le34.ensures.equal ∙ signed_sum_of c.args.s c.args.t _ _ _ _ (c.args.f + 12352) c.with_zeros.ensures.equal (omega arith)
