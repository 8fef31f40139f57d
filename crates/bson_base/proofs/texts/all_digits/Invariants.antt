use Rattle.std.proofs.Common.{◌≡◌, drop}
use Rattle.bson_base.specs.Decimal.{all_digits}
use Rattle.bson_base.proofs.texts.all_digits.Given as goal

abbrev pub invariant-loop-c : goal.invariant-loop-c
invariant-loop-c l = all_digits l.text ≡ all_digits (drop l.c-index l.text)
