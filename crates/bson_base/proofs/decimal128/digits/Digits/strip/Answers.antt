use Rattle.std.proofs.Common.{arith, sym, ◌∙◌, ap, ◌++◌}
use Rattle.std.proofs.lemmas.Grind.{common_steps}
use Rattle.bson_base.proofs.DecimalLemmas.{strip-front_zeros, strip-front_kept}
use Rattle.bson_base.proofs.decimal128.digits.Digits.strip.Goals as goal

pub returns-then-all_zeros : goal.returns-then-all_zeros
returns-then-all_zeros c =
    let e = strip-front_zeros c.args.self.whole.now c.args.self.part.now (sym c.all_zeros.ensures ∙ c.if-all_zeros.true) (grind arith) in
    grind (arith, common_steps)

pub returns-else-all_zeros : goal.returns-else-all_zeros
returns-else-all_zeros c =
    let e = strip-front_kept c.args.self.whole.now c.args.self.part.now (sym c.all_zeros.ensures ∙ c.if-all_zeros.false) in
    ap (λ w. w ++ c.args.self.part.now) c.strip-else-all_zeros.ensures ∙ sym e
