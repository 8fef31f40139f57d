use Rattle.store_model.proofs.RestoreLemmas.{dump_restored}
use Rattle.store_model.proofs.laws.dumps_come_back.Goals as goal

pub returns : goal.returns
returns c = record { restored = dump_restored }
