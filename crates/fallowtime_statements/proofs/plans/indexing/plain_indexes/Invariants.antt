use Rattle.std.proofs.Common.{map, take}
use Rattle.std.specs.List.{AllByRecursion}
use Rattle.bson_model.specs.View.{view}
use Rattle.fallowtime_statements.specs.Indexing.{IsPlainIndex}
use Rattle.fallowtime_statements.proofs.plans.indexing.plain_indexes.Given as goal

abbrev pub invariant-loop-item : goal.invariant-loop-item
invariant-loop-item l = AllByRecursion IsPlainIndex (map view (take l.item-index l.items))
