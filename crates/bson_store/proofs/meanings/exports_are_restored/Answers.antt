use Rattle.bson_store.proofs.RestoreLemmas.{export_back, calls_back}
use Rattle.bson_store.proofs.meanings.exports_are_restored.Goals as goal

pub returns : goal.returns
returns c = record { commands = export_back; calls = calls_back }
