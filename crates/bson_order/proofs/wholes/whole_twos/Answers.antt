use Rattle.std.proofs.Common.{◌≡◌, ◌+◌, ◌-◌, ◌∙◌, ap, arith}
use Rattle.bson_order.specs.Wholes.{small}
use Rattle.bson_order.proofs.WholeLemmas.{twos_cut, twos_grown}
use Rattle.bson_order.proofs.wholes.whole_twos.Goals as goal

pub returns-then-x-lt-WHOLE_TWOS : goal.returns-then-x-lt-WHOLE_TWOS
returns-then-x-lt-WHOLE_TWOS c =
    let whole : c.args.x + (1074 - c.args.x) ≡ 1074 = omega arith in
    c.cut.ensures ∙ ap small (twos_cut c.args.s c.args.x (1074 - c.args.x) whole)

pub returns-else-x-lt-WHOLE_TWOS : goal.returns-else-x-lt-WHOLE_TWOS
returns-else-x-lt-WHOLE_TWOS c =
    let whole : c.args.x - 1074 + 1074 ≡ c.args.x = omega arith in
    c.grown.ensures ∙ ap small (twos_grown c.args.s c.args.x (c.args.x - 1074) whole)
