use Rattle.bson_store.specs.Export.{bytes_of_each}
use Rattle.fallowtime_messages.specs.Waiting.{waiting}
use Rattle.fallowtime_messages.proofs.BatchLemmas.{documents_told}
use Rattle.fallowtime_messages.proofs.batches.tell_documents.Goals as goal

pub returns : goal.returns
returns c =
    documents_told c.args.space.now c.args.size c.args.single (bytes_of_each c.args.bodies.items) (waiting c.args.cursors.now) (waiting c.begin.new.self) c.in_ok-first.first c.tell_batch.result c.in_ok-first.ensures c.tell_batch.ensures
