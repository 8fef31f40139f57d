use Rattle.store_documents.proofs.StreamLemmas.{any_bytes, any_stream, any_trees}
use Rattle.store_documents.proofs.laws.inputs_have_readings.Goals as goal

pub returns : goal.returns
returns c = record { bytes = any_bytes; stream = any_stream; trees = any_trees }
