use Rattle.bson_decimal.proofs.NearestLemmas.{nearest_multiple}
use Rattle.bson_decimal.proofs.laws.fractions.Goals as goal

pub returns : goal.returns
returns c = nearest_multiple
