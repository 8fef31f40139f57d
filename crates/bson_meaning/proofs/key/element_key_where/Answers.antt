use Rattle.bson_model.specs.View.{view}
use Rattle.bson_meaning.specs.Keys.{alone}
use Rattle.bson_meaning.proofs.KeyResultLemmas.{with_zero, too_long, written}
use Rattle.bson_raw.proofs.ProgressLemmas.{untrue}
use Rattle.bson_meaning.proofs.key.element_key_where.Goals as goal

pub returns-then-not-is_plain_element-clause-key : goal.returns-then-not-is_plain_element-clause-key
returns-then-not-is_plain_element-clause-key c =
    with_zero c.args.zeros (alone c.args.name.now (view c.args.value.now)) (λ p. untrue c.is_plain_element.result c.if-not-is_plain_element.true (c.is_plain_element.ensures.1 p))

pub returns-then-too_long-clause-key : goal.returns-then-too_long-clause-key
returns-then-too_long-clause-key c =
    let d = alone c.args.name.now (view c.args.value.now) in
    let plain = c.is_plain_element.ensures.0 c.if-not-is_plain_element.false in
    let counted = c.is_element_too_long-too_long.ensures in
    too_long c.args.zeros d plain counted.sound ((counted.long c.args.zeros).0 c.if-too_long.true)

pub returns-clause-key : goal.returns-clause-key
returns-clause-key c =
    let d = alone c.args.name.now (view c.args.value.now) in
    let plain = c.is_plain_element.ensures.0 c.if-not-is_plain_element.false in
    let counted = c.is_element_too_long-too_long.ensures in
    let w = c.written_alone.ensures in
    written c.args.zeros d c.written_alone.result plain counted.sound (λ h. untrue c.is_element_too_long-too_long.result c.if-too_long.false ((counted.long c.args.zeros).1 h)) w.bytes w.fits w.never_not_plain w.too_long
