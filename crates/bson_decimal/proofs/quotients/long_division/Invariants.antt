use Rattle.std.proofs.Common.{◌≡◌, ◌*◌, ◌/◌, ◌%◌, ◌^◌, ◌<◌}
use Rattle.bson_decimal.specs.Arithmetic.{zeros_to_divide}
use Rattle.bson_decimal.proofs.QuotientLemmas.{zeros_left}
use Rattle.bson_decimal.proofs.quotients.long_division.Given as goal

abbrev pub invariant-loop-zeros : goal.invariant-loop-zeros
invariant-loop-zeros l = (l.whole ≡ l.c * 10 ^ l.zeros / l.d) × (l.rest ≡ l.c * 10 ^ l.zeros % l.d) × (l.whole < 10 ^ 35) × (zeros_left l.c l.d l.zeros ≡ zeros_to_divide l.c l.d)
