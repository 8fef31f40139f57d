use Rattle.bson_raw.specs.View.{pairs_left}
use Rattle.bson_raw.specs.Read.{IsPairRead, pair_steps}
use Rattle.bson_raw.proofs.RunLemmas.{run_ends}
use Rattle.bson_raw.proofs.laws.iter_ends.Goals as goal

pub returns : goal.returns
returns c = λ s t items y. run_ends pair_steps pairs_left IsPairRead (λ _ _ _ h. h) items s t y
