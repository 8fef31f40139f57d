use Rattle.std.proofs.Common.{sym, ap, ap₂, ◌∙◌, Some, ◌&&◌}
use Rattle.bson_json_read.specs.DoubleText.{has_digit, no_number}
use Rattle.bson_json_read.proofs.DoubleLemmas.{no_text, nan_text, large_text, number_text}
use Rattle.bson_json_read.proofs.double_text.read.Goals as goal

pub returns-in_default : goal.returns-in_default
returns-in_default c = sym (no_text c.args.text.now c.in_default.ensures.exact)

pub returns-then-is_nan : goal.returns-then-is_nan
returns-then-is_nan c =
    ap Some (c.from_bits.ensures ∙ c.no_number_of.ensures ∙ ap no_number c.begins_negative.ensures)
    ∙ sym (nan_text c.args.text.now c.in-Ok.x c.in-Ok.ensures.exact (sym c.is_nan.ensures.value ∙ c.if-is_nan.true))

pub returns-then-is_too_large : goal.returns-then-is_too_large
returns-then-is_too_large c =
    let same = ap₂ (λ b t. b && has_digit t) c.is_infinite.ensures.value c.as_bytes.ensures.value in
    sym (large_text c.args.text.now c.in-Ok.x c.in-Ok.ensures.exact (sym c.is_nan.ensures.value ∙ c.if-is_nan.false) (sym same ∙ sym c.is_too_large.ensures ∙ c.if-is_too_large.true))

pub returns-else-is_too_large : goal.returns-else-is_too_large
returns-else-is_too_large c =
    let same = ap₂ (λ b t. b && has_digit t) c.is_infinite.ensures.value c.as_bytes.ensures.value in
    ap Some c.from_bits-else-is_too_large.ensures
    ∙ sym (number_text c.args.text.now c.in-Ok.x c.in-Ok.ensures.exact (sym c.is_nan.ensures.value ∙ c.if-is_nan.false) (sym same ∙ sym c.is_too_large.ensures ∙ c.if-is_too_large.false))
