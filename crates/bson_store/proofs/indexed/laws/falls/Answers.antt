use Rattle.bson_store.proofs.PartLemmas.{parts_falls}
use Rattle.bson_store.proofs.indexed.laws.falls.Goals as goal

pub returns : goal.returns
returns c = parts_falls
