use Rattle.bson_bytes.specs.Encode.{encode}
use Rattle.bson_raw.proofs.NoFaultLemmas.{meant_walk, meant_inside}
use Rattle.bson_raw.proofs.laws.documents_have_no_fault.Goals as goal

pub returns-clause-walk : goal.returns-clause-walk
returns-clause-walk c = meant_walk c.one_first_frame.ensures

pub returns-clause-inside : goal.returns-clause-inside
returns-clause-inside c = meant_inside c.one_first_frame.ensures

pub returns-clause-written : goal.returns-clause-written
returns-clause-written c = λ d key kind clean sound short fault.
    meant_inside c.one_first_frame.ensures (encode d) d key kind (c.trees_come_back.ensures d clean sound short) fault
