use Rattle.bson_bytes.proofs.ApartLemmas.{values_tell}
use Rattle.bson_bytes.proofs.laws.values_tell.Goals as goal

pub returns : goal.returns
returns c = values_tell
