use Rattle.std.proofs.Common.{◌≡◌, ◌<◌, ◌+◌, length, []}
use Rattle.bson_model.specs.Extend.{put_all}
use Rattle.bson_model.specs.View.{members_of, pairs_of}
use Rattle.bson_raw.proofs.ConversionLemmas.{inner_length}
use Rattle.bson_raw.proofs.ProgressLemmas.{MembersTo, ItemsTo}
use Rattle.bson_raw.specs.View.{bytes_of}
use Rattle.bson_raw.proofs.convert.+convert.Given as goal

abbrev pub decreases-document_of : goal.decreases-document_of
decreases-document_of l = length l.elements.now

abbrev pub decreases-array_of : goal.decreases-array_of
decreases-array_of l = length l.elements.now

abbrev pub decreases-element_tree : goal.decreases-element_tree
decreases-element_tree l = length l.frame.now.payload.now + 1

abbrev pub decreases-tree_of : goal.decreases-tree_of
decreases-tree_of l = inner_length l.value

abbrev pub decreases-scoped_of : goal.decreases-scoped_of
decreases-scoped_of l = length (bytes_of l.value.scope)

abbrev pub invariant-document_of-loop-rest : goal.invariant-document_of-loop-rest
invariant-document_of-loop-rest l = record {
  read : MembersTo l.elements l.rest (members_of (put_all l.more.items (pairs_of l.document)));
  kept : length (pairs_of l.document) < 64 → l.more.items ≡ [];
}

abbrev pub decreases-document_of-loop-rest : goal.decreases-document_of-loop-rest
decreases-document_of-loop-rest l = length l.rest

abbrev pub invariant-array_of-loop-rest : goal.invariant-array_of-loop-rest
invariant-array_of-loop-rest l = ItemsTo l.elements l.rest l.items.items

abbrev pub decreases-array_of-loop-rest : goal.decreases-array_of-loop-rest
decreases-array_of-loop-rest l = length l.rest
