use Rattle.bson_store.proofs.RestoreLemmas.{dump_back}
use Rattle.bson_store.proofs.meanings.dumps_are_restored.Goals as goal

pub returns : goal.returns
returns c = dump_back
