use Rattle.store_model.proofs.PlainLemmas.{any_tree, object_tree}
use Rattle.store_model.proofs.laws.trees_have_readings.Goals as goal

pub returns : goal.returns
returns c = record { any = any_tree; object = object_tree }
