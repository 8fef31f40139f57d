use Rattle.fallowtime_commands.proofs.AnswerLemmas.{byte_line}
use Rattle.fallowtime_commands.proofs.session.turns.no_json_line.Goals as goal

pub returns : goal.returns
returns c = byte_line c.in_ok-index.index c.words_line.result c.words_line.ensures
