use Rattle.cli_convert.proofs.HarmlessLemmas.{as_it_is}
use Rattle.cli_convert.proofs.terminal_laws.harmless_as_it_is.Goals as goal

pub returns : goal.returns
returns c = as_it_is
