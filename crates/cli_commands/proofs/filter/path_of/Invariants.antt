use Rattle.std.proofs.Common.{◌≡◌, ◌++◌, map}
use Rattle.serde_json.specs.Data.{array, string}
use Rattle.serde_json.specs.View.{view as data_of, items_of, items_view}
use Rattle.store_question.specs.Filters.{path_of}
use Rattle.cli_commands.proofs.filter.path_of.Given as goal

abbrev pub invariant-loop-item : goal.invariant-loop-item
invariant-loop-item l = record {
  so_far : items_view l.yielded ≡ items_of (map string (path_of l.path.items));
  whole : data_of l.fn.tree ≡ array (items_view (l.yielded ++ l.item-iterator.rest.items));
}
