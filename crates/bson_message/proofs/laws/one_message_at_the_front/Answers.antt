use Rattle.bson_message.proofs.PartLemmas.{one_message}
use Rattle.bson_message.proofs.laws.one_message_at_the_front.Goals as goal

pub returns : goal.returns
returns c = one_message
