use Rattle.bson_meaning.proofs.JsonSameLemmas.{write_norm, write_asc}
use Rattle.bson_meaning.proofs.json_laws.normal_forms_are_written_alike.Goals as goal

pub returns : goal.returns
returns c = record { normal = λ m v s. write_norm m _ v s.ranged; ordered = λ m v s. write_asc m v s.distinct }
