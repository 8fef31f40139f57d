use Rattle.std.proofs.Common.{◌≡◌, map, drop}
use Rattle.bson_model.specs.View.{view}
use Rattle.json.specs.Value.{items_view}
use Rattle.store_question_read.specs.Read.{each_value}
use Rattle.store_question_read.proofs.ReadLemmas.{after}
use Rattle.store_question_read.proofs.update_values.each_value.Given as goal

abbrev pub invariant-loop-item : goal.invariant-loop-item
invariant-loop-item l = each_value l.name l.path (items_view l.items) ≡ after (map view l.values.items) (each_value l.name l.path (items_view (drop l.item-index l.items)))
