use Rattle.std.proofs.Common.{◌≡◌, map}
use Rattle.std.specs.Vec.Iter.{into_iter_items}
use Rattle.serde_json.specs.Data.{no_members}
use Rattle.serde_json.specs.View.{items_view, members_view}
use Rattle.bson_model.specs.JsonWrite.{write_items, write_members}
use Rattle.bson_model.specs.View.{pair_view, pairs_of, members_of}
use Rattle.bson_model.proofs.JsonWriteLemmas.{trees, after_items}
use Rattle.bson_model.proofs.SizeLemmas.{AreLast}
use Rattle.bson_model.proofs.extjson.ser.+write.Given as goal

abbrev pub invariant-write_items-loop-item : goal.invariant-write_items-loop-item
invariant-write_items-loop-item l =
    write_items l.mode (trees l.fn.items.items) ≡ after_items (items_view l.values.items) (write_items l.mode (trees (into_iter_items l.item-iterator)))

abbrev pub invariant-write_members-loop-key : goal.invariant-write_members-loop-key
invariant-write_members-loop-key l = record {
  written : write_members l.mode (members_of (pairs_of l.fn.document)) no_members ≡ write_members l.mode (members_of (map pair_view l.key-iterator)) (members_view l.members.entries);
  rest : AreLast l.fn.document l.key-iterator;
}
