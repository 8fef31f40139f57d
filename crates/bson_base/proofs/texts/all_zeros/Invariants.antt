use Rattle.std.proofs.Common.{◌≡◌, drop}
use Rattle.bson_base.specs.Decimal.{all_zeros}
use Rattle.bson_base.proofs.texts.all_zeros.Given as goal

abbrev pub invariant-loop-c : goal.invariant-loop-c
invariant-loop-c l = all_zeros l.text ≡ all_zeros (drop l.c-index l.text)
