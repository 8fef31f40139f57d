use Rattle.std.proofs.Common.{◌≡◌, ◌≤◌, min, true, drop}
use Rattle.bson_base.specs.Decimal.{value, value_after, all_digits}
use Rattle.bson_base.proofs.decimal128.parse.small_value.Given as goal

abbrev pub invariant-loop-c : goal.invariant-loop-c
invariant-loop-c l = record {
  kept : min (value l.digits) 100000 ≡ min (value_after l.n (drop l.c-index l.digits)) 100000;
  small : l.n ≤ 100000;
  rest : all_digits (drop l.c-index l.digits) ≡ true;
}
