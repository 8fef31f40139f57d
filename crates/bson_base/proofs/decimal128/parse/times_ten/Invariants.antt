use Rattle.std.proofs.Common.{◌≡◌, ◌+◌, ◌-◌, ◌<◌, ◌^◌, replicate}
use Rattle.bson_base.specs.Decimal.{value_after}
use Rattle.bson_base.proofs.decimal128.parse.times_ten.Given as goal

abbrev pub invariant-loop-done : goal.invariant-loop-done
invariant-loop-done l = record {
  kept : value_after l.start (replicate l.zeros 48) ≡ value_after l.n (replicate (l.zeros - l.done) 48);
  small : l.n < 10 ^ (l.before + l.done);
}
