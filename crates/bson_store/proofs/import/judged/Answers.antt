use Rattle.bson_store.proofs.import.judged.Goals as goal
use Rattle.bson_bytes.proofs.MeaningLemmas.{are_bytes}

pub returns-clause-range : goal.returns-clause-range
returns-clause-range c = are_bytes c.args.stream.now c.type_inv.stream
