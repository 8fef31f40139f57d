use Rattle.store_model.proofs.ManyLemmas.{streams_alike, trees_alike}
use Rattle.store_model.proofs.laws.many_have_one_reading.Goals as goal

pub returns : goal.returns
returns c = record { stream = streams_alike; trees = trees_alike }
