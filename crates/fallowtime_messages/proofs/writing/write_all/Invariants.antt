use Rattle.std.proofs.Common.{◌≡◌, length}
use Rattle.std.specs.Vec.Iter.{into_iter_items, into_iter_len}
use Rattle.bson_store.specs.Calls.{store_state}
use Rattle.fallowtime_messages.proofs.RunLemmas.{SoFar}
use Rattle.fallowtime_messages.proofs.writing.write_all.Given as goal

abbrev pub invariant-loop-statement : goal.invariant-loop-statement
invariant-loop-statement g l =
    SoFar l.stops l.fn.statements.items (into_iter_items l.statement-iterator) l.written (store_state g.S.Store l.initial.store) (store_state g.S.Store l.store)
    × (length (into_iter_items l.statement-iterator) ≡ into_iter_len l.statement-iterator)
    × (goal.iterator-loop-statement g).can_next l.statement-iterator
    × (goal.iterator-loop-statement g).is_finite l.statement-iterator
