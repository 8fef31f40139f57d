use Rattle.cli_convert.proofs.SpoiledLemmas.{spoiled}
use Rattle.cli_convert.proofs.laws.spoiled_streams_are_none.Goals as goal

pub returns : goal.returns
returns c = spoiled
