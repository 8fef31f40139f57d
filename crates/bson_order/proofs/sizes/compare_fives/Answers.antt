use Rattle.std.proofs.Common.{◌≡◌, ◌+◌, ◌-◌, ◌*◌, ◌^◌, arith}
use Rattle.bson_order.proofs.SizeLemmas.{too_many, grown, shrunk}
use Rattle.bson_order.proofs.sizes.compare_fives.Goals as goal

pub returns-then-n-ge360 : goal.returns-then-n-ge360
returns-then-n-ge360 c = too_many c.args.a c.args.n c.args.x c.args.b c.args.y c.requires.some c.if-n-ge360.true c.requires.twos c.requires.second c.requires.few

pub returns-then-x-y : goal.returns-then-x-y
returns-then-x-y c =
    let whole : c.args.x + (c.args.y - c.args.x) ≡ c.args.y = omega arith in
    grown (c.args.a * 5 ^ c.args.n) c.args.y (c.args.y - c.args.x) c.args.x c.args.b c.compare_grown_or_twos.result whole c.compare_grown_or_twos.ensures

pub returns-else-x-y : goal.returns-else-x-y
returns-else-x-y c =
    let whole : c.args.y + (c.args.x - c.args.y) ≡ c.args.x = omega arith in
    shrunk (c.args.a * 5 ^ c.args.n) c.args.x (c.args.x - c.args.y) c.args.y c.args.b c.lift_fives.result whole c.lift_fives.ensures
