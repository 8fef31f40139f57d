use Rattle.bson_store.proofs.PartLemmas.{parts_rises}
use Rattle.bson_store.proofs.indexed.laws.rises.Goals as goal

pub returns : goal.returns
returns c = parts_rises
