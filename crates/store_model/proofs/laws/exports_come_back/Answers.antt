use Rattle.store_model.proofs.RestoreLemmas.{stream_back, export_restored}
use Rattle.store_model.proofs.laws.exports_come_back.Goals as goal

pub returns : goal.returns
returns c = record { read = stream_back; restored = export_restored }
