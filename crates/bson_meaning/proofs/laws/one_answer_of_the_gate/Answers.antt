use Rattle.bson_meaning.proofs.PayloadLemmas.{one_answer}
use Rattle.bson_meaning.proofs.RefusalLemmas.{one_refusal}
use Rattle.bson_meaning.proofs.laws.one_answer_of_the_gate.Goals as goal

pub returns : goal.returns
returns c = record { passes = one_answer; refused = one_refusal }
