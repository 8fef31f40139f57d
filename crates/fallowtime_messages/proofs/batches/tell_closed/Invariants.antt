use Rattle.std.proofs.Common.{drop, map}
use Rattle.bson_model.specs.View.{view}
use Rattle.fallowtime_messages.specs.Waiting.{waiting}
use Rattle.fallowtime_messages.proofs.BatchLemmas.{GoesOn}
use Rattle.fallowtime_messages.proofs.batches.tell_closed.Given as goal

abbrev pub invariant-loop-id : goal.invariant-loop-id
invariant-loop-id l = GoesOn l.fn.space l.fn.ids (waiting l.fn.cursors) (drop l.id-index l.ids) (map view l.killed.items) (map view l.missing.items) (waiting l.cursors)
