use Rattle.cli_convert.proofs.IdLemmas.{numbers_same}
use Rattle.cli_convert.proofs.text_laws.made_ids_differ.Goals as goal

pub returns : goal.returns
returns c = numbers_same
