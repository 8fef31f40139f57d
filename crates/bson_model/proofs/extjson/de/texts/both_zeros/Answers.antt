use Rattle.std.proofs.Common.{◌∙◌, sym}
use Rattle.bson_base.proofs.DecimalLemmas.{all_zeros-both}
use Rattle.bson_model.proofs.extjson.de.texts.both_zeros.Goals as goal

pub returns-then-all_zeros : goal.returns-then-all_zeros
returns-then-all_zeros c =
    let e = all_zeros-both c.args.whole.now c.args.part.now in
    let first = sym c.all_zeros.ensures ∙ c.if-all_zeros.true in
    c.all_zeros-then-all_zeros.ensures ∙ sym (rw first at e)

pub returns-else-all_zeros : goal.returns-else-all_zeros
returns-else-all_zeros c =
    let e = all_zeros-both c.args.whole.now c.args.part.now in
    let first = sym c.all_zeros.ensures ∙ c.if-all_zeros.false in
    c.if-all_zeros.false ∙ sym (rw first at e)
