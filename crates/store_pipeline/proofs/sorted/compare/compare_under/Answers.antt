use Rattle.store_question.specs.Filters.{path_of}
use Rattle.store_pipeline.proofs.BodyLemmas.{found_under}
use Rattle.store_pipeline.proofs.sorted.compare.compare_under.Goals as goal
use Rattle.store_pipeline.specs.Order.{sorted_by}

pub returns : goal.returns
returns c = λ d is e is2.
    let key = c.args.key.now in
    c.compare_turned.ensures (sorted_by (path_of key.path.items) key.descending d) (sorted_by (path_of key.path.items) key.descending e)
    (found_under c.sort_value-value.result c.as_slice.result.now key.path.items key.descending d c.as_slice.ensures.value (c.sort_value-value.ensures d is))
    (found_under c.sort_value-second.result c.as_slice-2.result.now key.path.items key.descending e c.as_slice-2.ensures.value (c.sort_value-second.ensures e is2))
