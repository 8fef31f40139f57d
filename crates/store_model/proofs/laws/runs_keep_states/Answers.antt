use Rattle.store_model.proofs.RunLemmas.{run_good}
use Rattle.store_model.proofs.laws.runs_keep_states.Goals as goal

pub returns : goal.returns
returns c w cs rs s t k h p = run_good w 0 cs rs s t k h p
