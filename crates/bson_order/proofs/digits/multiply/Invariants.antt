use Rattle.std.proofs.Common.{◌≡◌, ◌+◌, ◌*◌, ◌^◌, ◌<◌, take, drop, length}
use Rattle.bson_order.specs.Digits.{number_of_digits}
use Rattle.bson_order.proofs.digits.multiply.Given as goal

abbrev pub invariant-loop-i : goal.invariant-loop-i
invariant-loop-i l =
    (number_of_digits (take l.i l.digits) + (2 ^ 32) ^ l.i * l.carry ≡ number_of_digits (take l.i l.initial.digits) * l.factor)
    × (drop l.i l.digits ≡ drop l.i l.initial.digits)
    × (l.carry < 2 ^ 32)
    × (length l.digits ≡ 40)
