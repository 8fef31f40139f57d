use Rattle.std.proofs.Common.{map, drop}
use Rattle.bson_base.specs.Value.{document}
use Rattle.store_question.specs.Filters.{filter_of, tests_of}
use Rattle.store_question.proofs.SelectLemmas.{none_from, all_end, any_end}
use Rattle.store_question.proofs.select.+filters.Goals as goal

pub selects_all-returns : goal.selects_all-returns
selects_all-returns t c = λ d clean sound is.
    let fs = c.args.filters.now in
    all_end _ (document d) (tests_of (map filter_of (drop c.loop-filter.filter-index fs))) (none_from fs c.loop-filter.filter-index c.loop-filter-test.false) (c.loop-filter.invariant d clean sound is)

pub selects_any-returns : goal.selects_any-returns
selects_any-returns t c = λ d clean sound is.
    let fs = c.args.filters.now in
    any_end _ (document d) (tests_of (map filter_of (drop c.loop-filter.filter-index fs))) (none_from fs c.loop-filter.filter-index c.loop-filter-test.false) (c.loop-filter.invariant d clean sound is)
