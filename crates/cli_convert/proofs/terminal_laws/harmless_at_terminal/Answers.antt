use Rattle.cli_convert.proofs.HarmlessLemmas.{always_harmless}
use Rattle.cli_convert.proofs.terminal_laws.harmless_at_terminal.Goals as goal

pub returns : goal.returns
returns c = always_harmless
