use Rattle.bson_raw.specs.View.{values_left}
use Rattle.bson_raw.specs.Read.{IsItemRead, value_steps}
use Rattle.bson_raw.proofs.RunLemmas.{run_ends}
use Rattle.bson_raw.proofs.laws.array_iter_ends.Goals as goal

pub returns : goal.returns
returns c = λ s t items y. run_ends value_steps values_left IsItemRead (λ _ _ _ h. h) items s t y
