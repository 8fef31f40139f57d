use Rattle.std.proofs.Common.{◌≡◌, ◌++◌, take, drop}
use Rattle.bson_base.specs.DateText.{digit_run}
use Rattle.bson_base.proofs.datetime.parse.split_digits.Given as goal

abbrev pub invariant-loop-i : goal.invariant-loop-i
invariant-loop-i l = digit_run l.text ≡ (take l.i l.text ++ (digit_run (drop l.i l.text)).0, (digit_run (drop l.i l.text)).1)
