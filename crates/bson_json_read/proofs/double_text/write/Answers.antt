use Rattle.std.proofs.Common.{sym, subst, not, T, ◌∙◌, ◌≡◌, true, false, Some, from_bits}
use Rattle.std.specs.Float.{binary64}
use lib.Ieee.{nan_bits}
use Rattle.fast_float.specs.Parse.{parse_float}
use Rattle.bson_json_read.proofs.DoubleLemmas.{finite, no_number_is, nan_written, infinity_written, numeral_written}
use Rattle.bson_json_read.proofs.double_text.write.Goals as goal

pub float_from_bits-to_bits : goal.float_from_bits-to_bits
float_from_bits-to_bits c =
    let number = no_number_is c.args.double.0 ∙ sym c.is_nan.ensures ∙ c.if-is_nan.false in
    subst (λ n. T (not (nan_bits binary64 n))) (sym c.to_bits.ensures) (subst (λ b. T (not b)) (sym number) tt)

pub format_finite-requires : goal.format_finite-requires
format_finite-requires c =
    rw c.to_bits.ensures (finite c.args.double.0 (sym c.is_infinite.ensures ∙ c.if-is_infinite.false) (sym c.is_nan.ensures ∙ c.if-is_nan.false))

pub returns-then-negative : goal.returns-then-negative
returns-then-negative c = nan_written true c.args.double.0 (sym c.is_nan.ensures ∙ c.if-is_nan.true) (sym c.is_negative-negative.ensures ∙ c.if-negative.true)

pub returns-else-negative : goal.returns-else-negative
returns-else-negative c = nan_written false c.args.double.0 (sym c.is_nan.ensures ∙ c.if-is_nan.true) (sym c.is_negative-negative.ensures ∙ c.if-negative.false)

pub returns-then-negative-2 : goal.returns-then-negative-2
returns-then-negative-2 c = infinity_written true c.args.double.0 (sym c.is_infinite.ensures ∙ c.if-is_infinite.true) (sym c.is_negative-negative.ensures ∙ c.if-negative-2.true)

pub returns-else-negative-2 : goal.returns-else-negative-2
returns-else-negative-2 c = infinity_written false c.args.double.0 (sym c.is_infinite.ensures ∙ c.if-is_infinite.true) (sym c.is_negative-negative.ensures ∙ c.if-negative-2.false)

pub returns-else-is_infinite : goal.returns-else-is_infinite
returns-else-is_infinite c =
    let text = c.format_finite.result.now in
    numeral_written c.args.double.0 text (sym c.is_infinite.ensures ∙ c.if-is_infinite.false) (sym c.is_nan.ensures ∙ c.if-is_nan.false)
    (c.format_finite.ensures.layout, subst (λ n. parse_float binary64 text ≡ Some (from_bits binary64 n)) c.to_bits.ensures c.format_finite.ensures.parses)
