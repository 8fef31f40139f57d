use Rattle.std.proofs.Common.{◌≡◌, ap, ◌∙◌, arith}
use Rattle.bson_base.specs.Scalars.{decimal_bytes}
use Rattle.bson_base.specs.Value.{scalar, decimal}
use Rattle.bson_bytes.specs.Encode.{value_size}
use Rattle.bson_model.specs.View.{view}
use Rattle.bson_model.proofs.ViewLemmas.{view-Decimal128}
use Rattle.bson_meaning.specs.Meaning.{norm}
use Rattle.bson_meaning.proofs.DecimalLemmas.{normal_decimal_length}
use Rattle.bson_meaning.proofs.lengths.length_of_scalar.Goals as goal

pub returns-in-Decimal128 : goal.returns-in-Decimal128
returns-in-Decimal128 c =
    let x = c.in-Decimal128.field-0 in
    let seen : view c.args.value.now ≡ scalar (decimal (decimal_bytes x)) = ap view c.in-Decimal128.is ∙ view-Decimal128 x in
    let long : value_size (norm (view c.args.value.now)) ≡ 16 = ap (λ v. value_size (norm v)) seen ∙ normal_decimal_length (decimal_bytes x) in
    omega (arith, long)
