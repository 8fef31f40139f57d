use Rattle.bson_model.proofs.FiniteLemmas.{is_written}
use Rattle.bson_model.proofs.laws.written.written_values.Goals as goal

pub returns : goal.returns
returns c = is_written
