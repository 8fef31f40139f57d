use Rattle.bson_base.specs.Value.{document}
use Rattle.bson_meaning.proofs.JsonReadLemmas.{trees_exactly}
use Rattle.bson_meaning.proofs.JsonSameLemmas.{write_same, reserved_same}
use Rattle.bson_meaning.proofs.json_laws.trees_go_by_meaning.Goals as goal

pub returns : goal.returns
returns c = record { tree = λ m d e. write_same m (document d) (document e); reserved = reserved_same; exactly = trees_exactly }
