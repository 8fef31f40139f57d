use Rattle.store_model.proofs.RunLemmas.{run_same}
use Rattle.store_model.proofs.laws.congruence.Goals as goal

pub returns : goal.returns
returns c w cs ds s t rs qs s2 t2 i k l h a b p z = run_same w 0 cs ds rs qs s t s2 t2 i k l h a b p z
