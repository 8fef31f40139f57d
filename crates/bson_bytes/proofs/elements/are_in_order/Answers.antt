use Rattle.bson_bytes.proofs.PayloadLemmas.{tested_in_order}
use Rattle.bson_bytes.proofs.elements.are_in_order.Goals as goal

pub returns-then-is_ascii : goal.returns-then-is_ascii
returns-then-is_ascii c u =
    tested_in_order c.args.options.now c.as_bytes.result.now c.is_ascii.result c.is_sorted.result c.is_ascii.ensures.cases c.if-is_ascii.true c.as_bytes.ensures.value c.is_sorted.ensures.cases u
