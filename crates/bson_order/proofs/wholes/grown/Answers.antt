use Rattle.std.proofs.Common.{◌<◌, ◌≤◌, ◌^◌, sym, subst, arith}
use Rattle.std.proofs.lemmas.Nat.{mul-lt}
use Rattle.bson_order.proofs.WholeLemmas.{grown_away, grown_large, power_room}
use Rattle.bson_order.proofs.wholes.grown.Goals as goal

pub returns-then-k-most : goal.returns-then-k-most
returns-then-k-most c =
    let some : 0 < c.args.a = omega arith in
    grown_away c.args.a c.args.base c.args.k c.args.most some c.requires.some c.requires.beyond c.if-k-most.true

pub pow-requires : goal.pow-requires
pow-requires c =
    let le : c.args.k ≤ c.args.most = omega arith in
    let low = power_room c.args.base c.args.k c.args.most (2 ^ 64) c.requires.some le c.requires.room in
    omega (arith, low)

pub overflow_mul-size : goal.overflow_mul-size
overflow_mul-size c =
    let parts = c.in-Ok.ensures in
    let le : c.args.k ≤ c.args.most = omega arith in
    let low : c.args.base ^ c.args.k < 2 ^ 64 = power_room c.args.base c.args.k c.args.most (2 ^ 64) c.requires.some le c.requires.room in
    let small : c.in-Ok.size < 2 ^ 64 = subst (λ n. n < 2 ^ 64) (sym parts.1) parts.0 in
    let power : c.pow.result < 2 ^ 64 = subst (λ n. n < 2 ^ 64) (sym c.pow.ensures) low in
    record { fits = mul-lt c.in-Ok.size c.pow.result (2 ^ 64) (2 ^ 64) small power }

pub returns-in-Err : goal.returns-in-Err
returns-in-Err c =
    let large : 2 ^ 64 ≤ c.args.a = omega (arith, c.in-Err.ensures) in
    grown_large c.args.a c.args.base c.args.k large c.requires.some
