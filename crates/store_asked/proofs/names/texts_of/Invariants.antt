use Rattle.std.specs.Vec.Iter.{into_iter_items}
use Rattle.bson_store.proofs.NameLemmas.{SoFar}
use Rattle.store_asked.proofs.names.texts_of.Given as goal

abbrev pub invariant-loop-name : goal.invariant-loop-name
invariant-loop-name l = SoFar l.fn.names.items (into_iter_items l.name-iterator) l.texts.items
