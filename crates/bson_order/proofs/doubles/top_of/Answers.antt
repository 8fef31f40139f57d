use Rattle.std.proofs.Common.{◌≡◌, ◌<◌, ◌≤◌, ◌+◌, ◌-◌, ◌^◌, suc, subst, arith}
use Rattle.std.proofs.lemmas.Nat.{leading_top}
use lib.Count.{count_leading_zeros}
use Rattle.bson_order.proofs.doubles.top_of.Goals as goal

pub returns : goal.returns
returns c =
    let p = leading_top 64 c.args.size c.requires c.ranges.size.fits in
    let same : p.0 ≡ 63 - count_leading_zeros 64 c.args.size = omega (arith, p.1) in
    let one : suc p.0 ≡ 63 - count_leading_zeros 64 c.args.size + 1 = omega (arith, same) in
    record {
      within = omega (arith, same, p.1);
      first = subst (λ n. 2 ^ n ≤ c.args.size) same p.2;
      beyond = subst (λ n. c.args.size < 2 ^ n) one p.3;
    }
