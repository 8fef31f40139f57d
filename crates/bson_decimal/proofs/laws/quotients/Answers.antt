use Rattle.bson_decimal.proofs.NearestLemmas.{nearest_quotient}
use Rattle.bson_decimal.proofs.laws.quotients.Goals as goal

pub returns : goal.returns
returns c = nearest_quotient
