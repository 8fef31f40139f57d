use Rattle.bson_decimal.proofs.NearestLemmas.{nearest_whole}
use Rattle.bson_decimal.proofs.laws.whole_numbers.Goals as goal

pub returns : goal.returns
returns c = nearest_whole
