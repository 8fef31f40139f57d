use Rattle.bson_raw.specs.View.{left_of}
use Rattle.bson_raw.specs.Walk.{IsItem, raw_steps}
use Rattle.bson_raw.proofs.RunLemmas.{run_ends, raw_reads}
use Rattle.bson_raw.proofs.laws.raw_iter_ends.Goals as goal

pub returns : goal.returns
returns c = λ s t items y. run_ends raw_steps left_of IsItem raw_reads items s t y
