use Rattle.bson_store.proofs.RestoreLemmas.{runs_mean}
use Rattle.bson_store.proofs.meanings.runs_go_by_meaning.Goals as goal

pub returns : goal.returns
returns c = runs_mean
