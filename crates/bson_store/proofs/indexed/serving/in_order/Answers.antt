use Rattle.bson_store.proofs.ServingLemmas.{sorted_among}
use Rattle.bson_store.proofs.indexed.serving.in_order.Goals as goal

pub returns-clause-all : goal.returns-clause-all
returns-clause-all c p h = (rw c.as_slice.ensures.value at c.once_each.ensures.all) p (sorted_among p c.args.places.items c.sort.new.self.items c.in_ok-sort.ensures.permutation h)
