use Rattle.std.proofs.Common.{◌≡◌, ◌++◌, List, map}
use Rattle.std.specs.Vec.Iter.{into_iter_items}
use Rattle.serde_json.specs.Data.{Data}
use Rattle.serde_json.specs.View.{view as data_of}
use Rattle.store_documents.specs.Loading.{HasTaken}
use Rattle.store_documents.proofs.loading.judge_trees.Given as goal

abbrev pub invariant-loop-json : goal.invariant-loop-json
invariant-loop-json l = (js : List Data) × HasTaken l.loader js × (js ++ map data_of (into_iter_items l.json-iterator) ≡ map data_of l.fn.trees.items)
