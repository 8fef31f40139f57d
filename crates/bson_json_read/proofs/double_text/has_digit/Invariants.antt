use Rattle.std.proofs.Common.{◌≡◌, drop}
use Rattle.bson_json_read.specs.DoubleText.{has_digit}
use Rattle.bson_json_read.proofs.double_text.has_digit.Given as goal

abbrev pub invariant-loop-c : goal.invariant-loop-c
invariant-loop-c l = has_digit l.text ≡ has_digit (drop l.c-index l.text)
