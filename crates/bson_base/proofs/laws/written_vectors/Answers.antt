use Rattle.bson_base.proofs.VectorLemmas.{bytes_apart, written_is_vector}
use Rattle.bson_base.proofs.laws.written_vectors.Goals as goal

pub returns-clause-apart : goal.returns-clause-apart
returns-clause-apart c = bytes_apart

pub returns-clause-read : goal.returns-clause-read
returns-clause-read c = written_is_vector
