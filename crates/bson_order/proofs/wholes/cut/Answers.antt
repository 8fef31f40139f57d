use Rattle.std.proofs.Common.{◌<◌, ◌≤◌, sym, subst, arith}
use Rattle.bson_order.proofs.SizeLemmas.{power_positive}
use Rattle.bson_order.proofs.WholeLemmas.{cut_away, power_room}
use Rattle.bson_order.proofs.wholes.cut.Goals as goal

pub pow-requires : goal.pow-requires
pow-requires c =
    let le : c.args.k ≤ c.args.most = omega arith in
    power_room c.args.base c.args.k c.args.most _ c.requires.some le c.requires.room

pub nonzero_div-a : goal.nonzero_div-a
nonzero_div-a c = subst (λ n. 0 < n) (sym c.pow.ensures) (power_positive c.args.base c.args.k c.requires.some)

pub returns-then-k-most : goal.returns-then-k-most
returns-then-k-most c = cut_away c.args.a c.args.base c.args.k c.args.most c.requires.some c.requires.first c.if-k-most.true
