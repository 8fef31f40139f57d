use Rattle.bson_store.proofs.NameLemmas.{SoFar}
use Rattle.bson_store.proofs.names.names_of.Given as goal

abbrev pub invariant-loop-name : goal.invariant-loop-name
invariant-loop-name l =
    SoFar l.fn.set.keys l.name-iterator l.names.items
    × (goal.iterator-loop-name).can_next l.name-iterator
    × (goal.iterator-loop-name).is_finite l.name-iterator
