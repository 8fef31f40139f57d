use Rattle.std.proofs.Common.{◌↔◌, map, drop}
use Rattle.bson_base.specs.Value.{document}
use Rattle.bson_raw.specs.View.{bytes_of}
use Rattle.store_question.specs.Filters.{filter_of, tests_of}
use Rattle.store_question.specs.Views.{OfWritten}
use Rattle.store_question.proofs.select.+filters.Given as goal
use Rattle.store_model.specs.Filter.{SelectsAll, SelectsAny}

abbrev pub invariant-selects_all-loop-filter : goal.invariant-selects_all-loop-filter
invariant-selects_all-loop-filter l =
    OfWritten (bytes_of l.document) (λ d. SelectsAll (tests_of (map filter_of l.filters)) (document d) ↔ SelectsAll (tests_of (map filter_of (drop l.filter-index l.filters))) (document d))

abbrev pub invariant-selects_any-loop-filter : goal.invariant-selects_any-loop-filter
invariant-selects_any-loop-filter l =
    OfWritten (bytes_of l.document) (λ d. SelectsAny (tests_of (map filter_of l.filters)) (document d) ↔ SelectsAny (tests_of (map filter_of (drop l.filter-index l.filters))) (document d))
