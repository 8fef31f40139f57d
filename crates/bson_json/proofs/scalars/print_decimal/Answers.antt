use Rattle.std.proofs.Common.{◌≡◌, ◌∙◌, [], ◌∷◌, OnOk, codes, subst}
use Rattle.json.specs.Token.{begin_object, end_object, key, string}
use Rattle.bson_base.specs.Decimal.{decimal_text}
use Rattle.bson_base.specs.Scalars.{decimal_bytes}
use Rattle.bson_json.specs.Prints.{Adds}
use Rattle.bson_json.proofs.scalars.print_decimal.Goals as goal

pub returns : goal.returns
returns c =
    let same : c.as_str.result.now ≡ decimal_text (decimal_bytes c.args.decimal.now) = c.as_str.ensures.value ∙ c.in_ok-text.ensures in
    subst (λ t. OnOk c.wrap_text.result (Adds (begin_object ∷ key (codes "$numberDecimal") ∷ string t ∷ end_object ∷ []) c.args.out.now c.wrap_text.new.out)) same c.wrap_text.ensures
