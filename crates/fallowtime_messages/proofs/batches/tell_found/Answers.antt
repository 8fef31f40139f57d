use Rattle.std.proofs.Common.{rules}
use Rattle.fallowtime_messages.specs.Waiting.{waiting}
use Rattle.fallowtime_messages.proofs.BatchLemmas.{found_told}
use Rattle.fallowtime_messages.proofs.batches.tell_found.Goals as goal

pub returns-in-Ok-Documents : goal.returns-in-Ok-Documents
returns-in-Ok-Documents c =
    found_told c.args.space.now c.args.size c.args.single c.args.outcome.now c.in-Ok-Documents.bodies c.replace-bodies.result (waiting c.args.cursors.now) (waiting c.tell_documents.new.cursors) c.tell_documents.result (search rules) c.replace-bodies.ensures.value
    c.tell_documents.ensures
