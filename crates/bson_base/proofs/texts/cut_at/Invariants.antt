use Rattle.std.proofs.Common.{◌≡◌, ◌++◌, take, drop}
use Rattle.bson_base.specs.Decimal.{cut, marks}
use Rattle.bson_base.proofs.texts.cut_at.Given as goal

abbrev pub invariant-loop-i : goal.invariant-loop-i
invariant-loop-i l =
    cut (marks l.mark l.other) l.text ≡ (take l.i l.text ++ (cut (marks l.mark l.other) (drop l.i l.text)).0, (cut (marks l.mark l.other) (drop l.i l.text)).1)
