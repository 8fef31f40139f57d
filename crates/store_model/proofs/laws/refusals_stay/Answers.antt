use Rattle.store_model.proofs.RefusalLemmas.{refused_stays}
use Rattle.store_model.proofs.laws.refusals_stay.Goals as goal

pub returns : goal.returns
returns c s t d k i good step = refused_stays k i s d t good.nonempty step
