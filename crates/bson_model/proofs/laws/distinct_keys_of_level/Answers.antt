use Rattle.bson_model.proofs.DistinctLemmas.{level_distinct}
use Rattle.bson_model.proofs.laws.distinct_keys_of_level.Goals as goal

pub returns : goal.returns
returns c = level_distinct c.args.document.now c.keys-keys.ensures.distinct
