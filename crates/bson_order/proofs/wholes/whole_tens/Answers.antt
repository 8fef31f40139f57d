use Rattle.std.proofs.Common.{◌≡◌, ◌+◌, ◌-◌, ◌∙◌, ap, arith}
use Rattle.bson_order.specs.Wholes.{small}
use Rattle.bson_order.proofs.WholeLemmas.{tens_cut, tens_grown}
use Rattle.bson_order.proofs.wholes.whole_tens.Goals as goal

pub returns-then-e-lt-WHOLE_TENS : goal.returns-then-e-lt-WHOLE_TENS
returns-then-e-lt-WHOLE_TENS c =
    let whole : c.args.e + (6176 - c.args.e) ≡ 6176 = omega arith in
    c.cut.ensures ∙ ap small (tens_cut c.args.c c.args.e (6176 - c.args.e) whole)

pub returns-else-e-lt-WHOLE_TENS : goal.returns-else-e-lt-WHOLE_TENS
returns-else-e-lt-WHOLE_TENS c =
    let whole : c.args.e - 6176 + 6176 ≡ c.args.e = omega arith in
    c.grown.ensures ∙ ap small (tens_grown c.args.c c.args.e (c.args.e - 6176) whole)
