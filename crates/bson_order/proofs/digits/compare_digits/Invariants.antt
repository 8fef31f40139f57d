use Rattle.std.proofs.Common.{◌≡◌, ◌<◌, ◌^◌, take}
use Rattle.std.specs.Ordering.{nat_cmp}
use Rattle.bson_order.specs.Digits.{number_of_digits}
use Rattle.bson_order.proofs.digits.compare_digits.Given as goal

abbrev pub invariant-loop-i : goal.invariant-loop-i
invariant-loop-i l =
    (l.order ≡ nat_cmp (number_of_digits (take l.i l.digits)) (number_of_digits (take l.i l.others)))
    × (number_of_digits (take l.i l.digits) < (2 ^ 32) ^ l.i)
    × (number_of_digits (take l.i l.others) < (2 ^ 32) ^ l.i)
