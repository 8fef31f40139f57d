use Rattle.std.proofs.Common.{◌+◌, ◌*◌, drop}
use Rattle.bson_model.specs.View.{pairs_of}
use Rattle.store_documents.proofs.MemberLemmas.{ItemsSoFar, PairsSoFar}
use Rattle.store_documents.proofs.reading.+read.Given as goal

abbrev pub decreases-read : goal.decreases-read
decreases-read l = 3 * l.inner + 2

abbrev pub decreases-read_items : goal.decreases-read_items
decreases-read_items l = 3 * l.inner

abbrev pub decreases-read_object : goal.decreases-read_object
decreases-read_object l = 3 * l.inner + 1

abbrev pub decreases-read_pairs : goal.decreases-read_pairs
decreases-read_pairs l = 3 * l.inner

abbrev pub invariant-read_items-loop-item : goal.invariant-read_items-loop-item
invariant-read_items-loop-item l = ItemsSoFar l.items (drop l.item-index l.items) l.values.items

abbrev pub invariant-read_pairs-loop-pair : goal.invariant-read_pairs-loop-pair
invariant-read_pairs-loop-pair l = PairsSoFar l.pairs (drop l.pair-index l.pairs) (pairs_of l.document)
