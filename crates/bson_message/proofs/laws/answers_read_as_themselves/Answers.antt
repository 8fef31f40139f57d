use Rattle.bson_message.specs.Replies.{msg_bytes}
use Rattle.bson_message.proofs.AnswerLemmas.{msg_taken, said}
use Rattle.bson_message.proofs.laws.answers_read_as_themselves.Goals as goal

pub returns : goal.returns
returns c = λ number answers d a b e fits. (msg_taken number answers d a b fits, said (msg_bytes number answers d) d e)
