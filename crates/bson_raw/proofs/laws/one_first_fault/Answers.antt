use Rattle.bson_raw.proofs.FirstFaultLemmas.{first_fault_is_one}
use Rattle.bson_raw.proofs.laws.one_first_fault.Goals as goal

pub returns : goal.returns
returns c = λ bytes j k m n g h. first_fault_is_one c.one_first_frame.ensures c.one_structural_fault.ensures g.0 h.0 bytes j k m n g.1 h.1
