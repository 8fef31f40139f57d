use Rattle.bson_frame.proofs.DecisionLemmas.{frame_or_fault}
use Rattle.bson_frame.proofs.laws.frame_or_fault.Goals as goal

pub returns : goal.returns
returns c = frame_or_fault
