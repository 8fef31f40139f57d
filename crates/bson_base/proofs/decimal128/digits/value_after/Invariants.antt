use Rattle.std.proofs.Common.{◌≡◌, ◌+◌, ◌<◌, ◌^◌, true, drop}
use Rattle.bson_base.specs.Decimal.{value_after, all_digits}
use Rattle.bson_base.proofs.decimal128.digits.value_after.Given as goal

abbrev pub invariant-loop-c : goal.invariant-loop-c
invariant-loop-c l = record {
  kept : value_after l.start l.digits ≡ value_after l.n (drop l.c-index l.digits);
  small : l.n < 10 ^ (l.before + l.c-index);
  rest : all_digits (drop l.c-index l.digits) ≡ true;
}
