use Rattle.store_asked.proofs.ReadLemmas.{named, unnamed}
use Rattle.store_asked.proofs.store.ReadOnlyStore.collections.Goals as goal

pub returns-in-Err-clause-reads : goal.returns-in-Err-clause-reads
returns-in-Err-clause-reads g c clean docs are = rw c.refusal_of.ensures (unnamed docs c.in-Err.fault c.in-Err.ensures.faults)

pub returns-in-Ok-clause-reads : goal.returns-in-Ok-clause-reads
returns-in-Ok-clause-reads g c clean docs are = named docs c.in-Ok.names.items c.texts_of.result c.texts_of.ensures.same c.texts_of.ensures.refused (c.in-Ok.ensures.names clean docs are) (c.in-Ok.ensures.order clean docs are)
