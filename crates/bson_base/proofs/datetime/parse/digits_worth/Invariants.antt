use Rattle.std.proofs.Common.{◌≡◌, ◌+◌, ◌*◌, ◌≤◌, true, drop}
use Rattle.bson_base.specs.DateText.{digits_worth}
use Rattle.bson_base.specs.Decimal.{all_digits}
use Rattle.bson_base.proofs.datetime.parse.digits_worth.Given as goal

abbrev pub invariant-loop-c : goal.invariant-loop-c
invariant-loop-c l = record {
  kept : digits_worth 100_000_000 l.digits ≡ l.sum + digits_worth l.worth (drop l.c-index l.digits);
  small : l.sum + 10 * l.worth ≤ 1_000_000_000;
  rest : all_digits (drop l.c-index l.digits) ≡ true;
}
