use Rattle.std.proofs.Common.{drop}
use Rattle.store_question.specs.Filters.{path_of}
use Rattle.bson_store.specs.Find.{Has, HasOn}
use Rattle.bson_store.proofs.indexed.indexes.Indexes.has.Given as goal

abbrev pub invariant-loop-index : goal.invariant-loop-index
invariant-loop-index l = record {
  all : (HasOn (drop l.index-index l.self.list.items) l.coll (path_of l.path) → Has l.self l.coll (path_of l.path)) × (Has l.self l.coll (path_of l.path) → HasOn (drop l.index-index l.self.list.items) l.coll (path_of l.path));
}
