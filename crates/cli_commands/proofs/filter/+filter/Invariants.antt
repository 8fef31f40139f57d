use Rattle.std.proofs.Common.{◌≡◌, ◌++◌, map}
use Rattle.serde_json.specs.Data.{array}
use Rattle.serde_json.specs.View.{view as data_of, items_view}
use Rattle.store_question.specs.Filters.{filter_of, tests_of}
use Rattle.cli_commands.specs.Filters.{AreFilters}
use Rattle.cli_commands.proofs.filter.+filter.Given as goal

abbrev pub invariant-filters_of-loop-item : goal.invariant-filters_of-loop-item
invariant-filters_of-loop-item l = record {
  so_far : AreFilters (items_view l.yielded) (tests_of (map filter_of l.filters.items));
  whole : data_of l.fn.tree ≡ array (items_view (l.yielded ++ l.item-iterator.rest.items));
}
