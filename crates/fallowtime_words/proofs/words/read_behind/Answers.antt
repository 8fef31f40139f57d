use Rattle.fallowtime_words.proofs.OptionLemmas.{none_is}
use Rattle.fallowtime_words.proofs.NoTaskLemmas.{no_line, no_session_either}
use Rattle.fallowtime_words.proofs.words.read_behind.Goals as goal

pub returns-in_err-read_line-in-Some-clause-task : goal.returns-in_err-read_line-in-Some-clause-task
returns-in_err-read_line-in-Some-clause-task c =
    none_is _ _ _ c.from_residual.ensures (no_line c.args.file.now _ c.in-Some.command _ c.in-Some.ensures c.in_err-read_line-in-Some.ensures)

pub returns-in_err-messages-in-None-clause-task : goal.returns-in_err-messages-in-None-clause-task
returns-in_err-messages-in-None-clause-task c =
    none_is _ _ _ c.from_residual-in_err-messages-in-None.ensures (no_session_either c.args.file.now _ c.in-None.ensures c.in_err-messages-in-None.ensures)
