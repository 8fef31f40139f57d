use Rattle.std.proofs.Common.{◌∙◌, sym, ap}
use Rattle.std.specs.Ordering.{ordering_reverse}
use Rattle.bson_order.specs.Order.{order}
use Rattle.store_question.proofs.ValueLemmas.{found_spells}
use Rattle.store_pipeline.proofs.sorted.values.compare_turned.Goals as goal
use Rattle.store_pipeline.specs.Order.{turned}

pub returns-then-descending : goal.returns-then-descending
returns-then-descending c = λ v w f g.
    let told = c.compare-order.ensures v w (found_spells c.args.value v f) (found_spells c.args.other w g) f.low in
    c.reverse.ensures ∙ ap ordering_reverse told ∙ sym (ap (λ b. turned b (order v w)) c.if-descending.true)

pub returns-else-descending : goal.returns-else-descending
returns-else-descending c = λ v w f g.
    let told = c.compare-order.ensures v w (found_spells c.args.value v f) (found_spells c.args.other w g) f.low in
    told ∙ sym (ap (λ b. turned b (order v w)) c.if-descending.false)
