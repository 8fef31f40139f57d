use Rattle.std.proofs.Common.{◌+◌, drop, map}
use Rattle.bson_bytes.specs.Encode.{members_size, items_size, value_size}
use Rattle.bson_bytes.proofs.WritingLemmas.{MembersTo, ItemsTo}
use Rattle.bson_model.specs.Rest.{ascending_rest}
use Rattle.bson_model.specs.View.{view, pairs_of, items_of, members_of}
use Rattle.bson_meaning.specs.Forms.{norm_members_in_order, norm_items_in_order, norm_in_order}
use Rattle.bson_meaning.proofs.PairwiseLemmas.{each}
use Rattle.bson_meaning.proofs.writing.+in_order.Given as goal

abbrev pub decreases-write_normal : goal.decreases-write_normal
decreases-write_normal l = value_size (norm_in_order l.zeros (view l.value.now))

abbrev pub decreases-write_members : goal.decreases-write_members
decreases-write_members l = members_size (norm_members_in_order l.zeros (members_of (pairs_of l.document.now))) + 1

abbrev pub decreases-write_in_order : goal.decreases-write_in_order
decreases-write_in_order l = members_size (norm_members_in_order l.zeros (members_of (pairs_of l.document.now))) + 2

abbrev pub decreases-write_scoped : goal.decreases-write_scoped
decreases-write_scoped l = members_size (norm_members_in_order l.zeros (members_of (pairs_of l.code.now.scope))) + 3

abbrev pub decreases-write_items : goal.decreases-write_items
decreases-write_items l = items_size 0 (norm_items_in_order l.zeros (items_of (map view l.items.now))) + 1

abbrev pub invariant-write_members-loop-key : goal.invariant-write_members-loop-key
invariant-write_members-loop-key l =
    MembersTo (norm_members_in_order l.zeros (members_of (pairs_of l.document))) (each (norm_in_order l.zeros) (members_of (ascending_rest l.key-iterator))) l.initial.out.items l.out.items
    × (goal.iterator-write_members-loop-key).can_next l.key-iterator × (goal.iterator-write_members-loop-key).is_finite l.key-iterator

abbrev pub invariant-write_items-loop-i : goal.invariant-write_items-loop-i
invariant-write_items-loop-i l = ItemsTo (norm_items_in_order l.zeros (items_of (map view l.items))) l.i (norm_items_in_order l.zeros (items_of (map view (drop l.i l.items)))) l.initial.out.items l.out.items
