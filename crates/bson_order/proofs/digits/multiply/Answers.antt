use Rattle.std.proofs.Common.{rules, ◌%◌, ◌∙◌, length-set, ◌≡◌, ◌<◌, ◌+◌, ◌*◌, ◌^◌, length, get_or, arith, refl}
use Rattle.bson_order.proofs.DigitLemmas.{product_turn, drops_on, carry_small, nothing_carried}
use Rattle.bson_order.proofs.digits.multiply.Goals as goal

pub returns : goal.returns
returns c =
    let over : c.loop-i.i ≡ 40 = omega arith in
    let lx = c.loop-i.invariant.3 in
    let lo : length c.args.digits.now ≡ 40 = omega arith in
    nothing_carried c.loop-i.digits c.args.digits.now c.loop-i.i c.args.factor c.loop-i.carry over lx lo c.requires c.loop-i.invariant.0

pub overflow_add-product : goal.overflow_add-product
overflow_add-product c = record { fits = carry_small (get_or c.loop-i.digits c.loop-i.i 0) c.args.factor c.loop-i.carry (search rules) c.ranges.factor.fits c.loop-i.invariant.2 }

pub loop-i-preserved : goal.loop-i-preserved
loop-i-preserved c =
    let digits = c.loop-i.digits in
    let olds = c.args.digits.now in
    let i = c.loop-i.i in
    let lo : length c.args.digits.now ≡ 40 = omega arith in
    let hx : c.loop-i.i < length c.loop-i.digits = omega (arith, c.loop-i.invariant.3) in
    let ho : c.loop-i.i < length c.args.digits.now = omega arith in
    let product : get_or c.loop-i.digits c.loop-i.i 0 * c.args.factor + c.loop-i.carry < 2 ^ 64 = carry_small (get_or c.loop-i.digits c.loop-i.i 0) c.args.factor c.loop-i.carry (search rules) c.ranges.factor.fits c.loop-i.invariant.2 in (
      product_turn digits olds i c.args.factor c.loop-i.carry (get_or digits i 0 * c.args.factor + c.loop-i.carry) hx ho c.loop-i.invariant.1 c.loop-i.invariant.0 refl,
      drops_on digits olds i ((get_or digits i 0 * c.args.factor + c.loop-i.carry) % 2 ^ 32) hx c.loop-i.invariant.1,
      omega (arith, product),
      length-set digits i ((get_or digits i 0 * c.args.factor + c.loop-i.carry) % 2 ^ 32) ∙ c.loop-i.invariant.3,
    )
