use Rattle.std.proofs.Common.{◌+◌, ◌*◌, ◌/◌, ◌%◌, ◌^◌, ◌∙◌, ap}
use Rattle.bson_decimal.proofs.WideLemmas.{gathered_product}
use Rattle.bson_decimal.proofs.wide.product.Goals as goal

pub returns-clause-equal : goal.returns-clause-equal
returns-clause-equal c =
    gathered_product c.args.c c.args.d c.small_product-4.result (c.small_product.result + c.small_product-2.result) c.small_product-3.result c.small_product-4.ensures.equal
    (ap (λ n. n + c.small_product-2.result) c.small_product.ensures.equal ∙ ap (λ n. c.args.c / 10 ^ 17 * (c.args.d % 10 ^ 17) + n) c.small_product-2.ensures.equal)
    c.small_product-3.ensures.equal
