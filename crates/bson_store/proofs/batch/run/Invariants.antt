use Rattle.std.proofs.Common.{◌≡◌, ◌≤◌, length, ◌+◌}
use Rattle.std.specs.Vec.{vec_capacity}
use Rattle.std.specs.Vec.Iter.{into_iter_items, into_iter_len}
use Rattle.bson_store.specs.Calls.{store_state}
use Rattle.bson_store.proofs.RunLemmas.{SoFar}
use Rattle.bson_store.proofs.batch.run.Given as goal

abbrev pub invariant-loop-command : goal.invariant-loop-command
invariant-loop-command g l =
    SoFar (store_state g.S.Store l.initial.store) l.fn.commands.items (into_iter_items l.command-iterator) l.replies.items (store_state g.S.Store l.store)
    × (length (into_iter_items l.command-iterator) ≡ into_iter_len l.command-iterator)
    × (length l.replies.items + length (into_iter_items l.command-iterator) ≤ vec_capacity l.replies)
    × (goal.iterator-loop-command g).can_next l.command-iterator
    × (goal.iterator-loop-command g).is_finite l.command-iterator
