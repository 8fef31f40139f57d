use Rattle.bson_pairs.proofs.IndexLemmas.{nothing}
use Rattle.bson_pairs.proofs.keys.Keys.clear.Goals as goal

pub invariant_of-self : goal.invariant_of-self
invariant_of-self c = nothing c.clear.new.self.items c.clear-2.new.self.items c.clear.ensures.items c.clear-2.ensures.items
