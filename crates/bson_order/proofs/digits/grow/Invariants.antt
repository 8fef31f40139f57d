use Rattle.std.proofs.Common.{◌≡◌, ◌*◌, ◌^◌}
use Rattle.bson_order.specs.Digits.{number_of_digits}
use Rattle.bson_order.proofs.digits.grow.Given as goal

abbrev pub invariant-loop-time : goal.invariant-loop-time
invariant-loop-time l = number_of_digits l.digits ≡ l.a * l.factor ^ l._time
