use Rattle.std.proofs.Common.{◌≡◌, drop}
use Rattle.bson_base.specs.Decimal.{strip}
use Rattle.bson_base.proofs.decimal128.digits.strip.Given as goal

abbrev pub invariant-loop-i : goal.invariant-loop-i
invariant-loop-i l = strip l.text ≡ strip (drop l.i l.text)
