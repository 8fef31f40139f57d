use Rattle.store_model.proofs.KeptLemmas.{step_good}
use Rattle.store_model.proofs.StateLemmas.{stored_again}
use Rattle.store_model.proofs.laws.steps_keep_states.Goals as goal

pub returns : goal.returns
returns c = record { whole = step_good; refused = λ s n h. stored_again s n h.nonempty }
