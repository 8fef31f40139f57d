use Rattle.std.proofs.Common.{arith}
use Rattle.std.proofs.lemmas.Grind.{common_steps}
use Rattle.bson_base.proofs.DecimalLemmas.{all_zeros-drop_front, all_zeros-drop_back}
use Rattle.bson_base.proofs.decimal128.digits.Digits.are_zeros_from.Goals as goal

pub returns-then-all_zeros : goal.returns-then-all_zeros
returns-then-all_zeros c =
    let whole = c.args.self.whole.now in
    let e = all_zeros-drop_front c.args.place whole c.args.self.part.now c.if-place-self.true in
    grind (arith, common_steps)

pub returns-else-all_zeros : goal.returns-else-all_zeros
returns-else-all_zeros c =
    let whole = c.args.self.whole.now in
    let e = all_zeros-drop_front c.args.place whole c.args.self.part.now c.if-place-self.true in
    grind (arith, common_steps)

pub returns-else-place-self : goal.returns-else-place-self
returns-else-place-self c =
    let whole = c.args.self.whole.now in
    let e = all_zeros-drop_back c.args.place whole c.args.self.part.now c.if-place-self.false in
    grind (arith, common_steps)
