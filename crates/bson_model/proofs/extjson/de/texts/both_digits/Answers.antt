use Rattle.std.proofs.Common.{◌∙◌, sym}
use Rattle.bson_base.proofs.DecimalLemmas.{all_digits-both}
use Rattle.bson_model.proofs.extjson.de.texts.both_digits.Goals as goal

pub returns-then-all_digits : goal.returns-then-all_digits
returns-then-all_digits c =
    let e = all_digits-both c.args.whole.now c.args.part.now in
    let first = sym c.all_digits.ensures ∙ c.if-all_digits.true in
    c.all_digits-then-all_digits.ensures ∙ sym (rw first at e)

pub returns-else-all_digits : goal.returns-else-all_digits
returns-else-all_digits c =
    let e = all_digits-both c.args.whole.now c.args.part.now in
    let first = sym c.all_digits.ensures ∙ c.if-all_digits.false in
    c.if-all_digits.false ∙ sym (rw first at e)
