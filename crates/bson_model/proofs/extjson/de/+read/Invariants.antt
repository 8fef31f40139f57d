use Rattle.std.proofs.Common.{◌≡◌, ◌+◌, ◌*◌}
use Rattle.std.specs.Vec.Iter.{into_iter_items}
use Rattle.serde_json.specs.View.{items_view}
use Rattle.bson_model.specs.JsonRead.{read_items}
use Rattle.bson_model.specs.View.{pairs_of}
use Rattle.bson_model.proofs.JsonReadLemmas.{values_view, after_items, SoFar}
use Rattle.bson_model.proofs.extjson.de.+read.Given as goal

-- by the levels that are left
abbrev pub decreases-read : goal.decreases-read
decreases-read l = 4 * l.levels + 3

abbrev pub decreases-read_items : goal.decreases-read_items
decreases-read_items l = 4 * l.levels + 4

abbrev pub decreases-read_members : goal.decreases-read_members
decreases-read_members l = 4 * l.levels + 4

abbrev pub decreases-read_typed : goal.decreases-read_typed
decreases-read_typed l = 4 * l.levels + 2

abbrev pub decreases-read_scope : goal.decreases-read_scope
decreases-read_scope l = 4 * l.levels + 1

abbrev pub invariant-read_items-loop-item : goal.invariant-read_items-loop-item
invariant-read_items-loop-item l =
    read_items (items_view l.fn.items.items) ≡ after_items (values_view l.values.items) (read_items (items_view (into_iter_items l.item-iterator)))

abbrev pub invariant-read_members-loop-key : goal.invariant-read_members-loop-key
invariant-read_members-loop-key l = SoFar l.fn.members.entries l.key-iterator (pairs_of l.document)
