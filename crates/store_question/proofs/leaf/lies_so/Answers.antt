use Rattle.bson_order.specs.Order.{is_no_number}
use Rattle.store_question.proofs.ValueLemmas.{level_told, apart_told, truths_told}
use Rattle.store_question.proofs.leaf.lies_so.Goals as goal

pub returns-then-is_not_a_number : goal.returns-then-is_not_a_number
returns-then-is_not_a_number c = λ v w h k low.
    level_told c.args.here c.args.other c.args.comparison v w c.rank_of.result c.rank_of-2.result c.holds.result c.compare.result h k c.rank_of.ensures c.rank_of-2.ensures c.if-rank_of.true
    (truths_told c.is_not_a_number.result c.is_not_a_number-then-rank_of.result (is_no_number v) (is_no_number w) c.if-is_not_a_number.true (c.is_not_a_number.ensures v h) (c.is_not_a_number-then-rank_of.ensures w k))
    (c.compare.ensures v w h k low) c.holds.ensures

pub returns-else-rank_of : goal.returns-else-rank_of
returns-else-rank_of c = λ v w h k low.
    apart_told c.args.here c.args.other c.args.comparison v w c.rank_of.result c.rank_of-2.result c.apart.result h k c.rank_of.ensures c.rank_of-2.ensures c.if-rank_of.false (c.apart.ensures w k)
