use Rattle.std.proofs.Common.{◌<◌, ◌*◌, ◌^◌, sym, subst}
use Rattle.bson_order.specs.Digits.{number_of_digits}
use Rattle.bson_order.proofs.DigitLemmas.{room_so_far, grown_turn}
use Rattle.bson_order.proofs.digits.grow.Goals as goal

pub multiply-requires : goal.multiply-requires
multiply-requires c = subst (λ n. n * c.args.factor < 2 ^ 1280) (sym c.loop-time.invariant) (room_so_far c.args.a c.args.factor c.loop-time._time c.args.times c.requires.some c.loop-time-test.true c.requires.room)

pub loop-time-preserved : goal.loop-time-preserved
loop-time-preserved c = grown_turn c.args.a c.args.factor c.loop-time._time (number_of_digits c.loop-time.digits) (number_of_digits c.multiply.new.digits) c.loop-time.invariant c.multiply.ensures
