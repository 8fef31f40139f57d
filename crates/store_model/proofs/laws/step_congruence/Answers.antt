use Rattle.store_model.proofs.RunLemmas.{step_same}
use Rattle.store_model.proofs.laws.step_congruence.Goals as goal

pub returns : goal.returns
returns c x y s t r q s2 t2 i k l h a b p w = let z = step_same x y s t s2 t2 i k l h a b p w in (z.replies, z.states)
