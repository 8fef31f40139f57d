use Rattle.std.proofs.Common.{map, ap, sym, ◌∙◌}
use Rattle.std.proofs.lemmas.List.{take-map}
use Rattle.bson_model.specs.View.{view}
use Rattle.store_update.proofs.arrays.part.Goals as goal

pub returns-in-FromFirst : goal.returns-in-FromFirst
returns-in-FromFirst c = rw c.in-FromFirst.is (ap (map view) c.truncate.ensures.items ∙ sym (take-map view c.in-FromFirst.count c.args.items.items))
