use Rattle.std.proofs.Common.{w64}
use Rattle.std.proofs.lemmas.Int.{to_z-of_z}
use Rattle.fallowtime_messages.specs.Waiting.{waiting}
use Rattle.fallowtime_messages.proofs.BatchLemmas.{more_told}
use Rattle.fallowtime_messages.proofs.batches.tell_more.Goals as goal

pub returns-in-Some : goal.returns-in-Some
returns-in-Some c =
    more_told c.args.space.now c.args.id _ c.args.size (waiting c.args.cursors.now) (waiting c.more.new.self) c.in_ok-further.field-0 c.in-Some.further c.tell_batch.result (to_z-of_z w64 c.args.id c.ranges.id) c.in-Some.is c.in_ok-further.ensures
    c.tell_batch.ensures
