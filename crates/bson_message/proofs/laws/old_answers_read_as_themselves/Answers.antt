use Rattle.bson_message.proofs.AnswerLemmas.{reply_taken, reply_read}
use Rattle.bson_message.proofs.laws.old_answers_read_as_themselves.Goals as goal

pub returns : goal.returns
returns c = λ number answers d a b e fits. (reply_taken number answers d a b fits, reply_read number answers d e)
