use Rattle.cli_convert.proofs.WritingLemmas.{more_kept}
use Rattle.cli_convert.proofs.writer.TerminalWriterWrite.flush.Goals as goal

pub returns-in_err-write_to-clause-same : goal.returns-in_err-write_to-clause-same
returns-in_err-write_to-clause-same g c = λ rest. more_kept _ _ _ _ _ c.write_to.ensures.bytes
