use Rattle.std.proofs.Common.{◌∙◌, ◌<◌, ◌^◌, rules, ap}
use Rattle.bson_base.specs.Value.{double, scalar}
use Rattle.bson_model.proofs.ViewLemmas.{view-Double}
use Rattle.store_pipeline.proofs.AccumulatedLemmas.{scalar_faithful}
use Rattle.store_pipeline.proofs.operand.double_of.Goals as goal

pub returns : goal.returns
returns c =
    let range : c.args.pattern < 2 ^ 64 = search rules in
    (view-Double c.from_bits.result ∙ ap (λ n. scalar (double n)) c.from_bits.ensures, scalar_faithful (double c.args.pattern) range tt)
