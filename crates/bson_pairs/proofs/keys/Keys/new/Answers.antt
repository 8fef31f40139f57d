use Rattle.bson_pairs.proofs.IndexLemmas.{nothing}
use Rattle.bson_pairs.proofs.keys.Keys.new.Goals as goal

pub invariant_of-result : goal.invariant_of-result
invariant_of-result c = nothing c.new.result.items c.new-2.result.items c.new.ensures.items c.new-2.ensures.items
