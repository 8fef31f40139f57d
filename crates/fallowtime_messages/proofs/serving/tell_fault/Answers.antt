use Rattle.fallowtime_messages.proofs.OutcomeLemmas.{tells_memory, tells_refusal}
use Rattle.fallowtime_messages.proofs.serving.tell_fault.Goals as goal

pub returns-in-Refused : goal.returns-in-Refused
returns-in-Refused c = rw c.in-Refused.is (tells_refusal c.in-Refused.code c.in-Refused.why c.refused.result c.refused.ensures)

pub returns-in-Memory : goal.returns-in-Memory
returns-in-Memory c = rw c.in-Memory.is (tells_memory c.no_room.result c.no_room.ensures)
