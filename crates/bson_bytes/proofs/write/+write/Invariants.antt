use Rattle.std.proofs.Common.{◌+◌, drop, map}
use Rattle.bson_bytes.specs.Encode.{members_size, items_size, value_size}
use Rattle.bson_bytes.proofs.WritingLemmas.{MembersTo, ItemsTo}
use Rattle.bson_model.specs.Rest.{iter_rest}
use Rattle.bson_model.specs.View.{view, pairs_of, items_of, members_of}
use Rattle.bson_bytes.proofs.write.+write.Given as goal

abbrev pub decreases-put_value : goal.decreases-put_value
decreases-put_value l = value_size (view l.value.now)

abbrev pub decreases-write_document : goal.decreases-write_document
decreases-write_document l = members_size (members_of (pairs_of l.document.now)) + 1

abbrev pub decreases-write_scoped : goal.decreases-write_scoped
decreases-write_scoped l = members_size (members_of (pairs_of l.code.now.scope)) + 2

abbrev pub decreases-write_items : goal.decreases-write_items
decreases-write_items l = items_size 0 (items_of (map view l.items.now)) + 1

abbrev pub invariant-write_document-loop-key : goal.invariant-write_document-loop-key
invariant-write_document-loop-key l =
    MembersTo (members_of (pairs_of l.document)) (members_of (iter_rest l.key-iterator)) l.initial.out.items l.out.items
    × (goal.iterator-write_document-loop-key).can_next l.key-iterator × (goal.iterator-write_document-loop-key).is_finite l.key-iterator

abbrev pub invariant-write_items-loop-i : goal.invariant-write_items-loop-i
invariant-write_items-loop-i l = ItemsTo (items_of (map view l.items)) l.i (items_of (map view (drop l.i l.items))) l.initial.out.items l.out.items
