use Rattle.store_asked.proofs.KeepLemmas.{filter_in_front}
use Rattle.store_asked.proofs.laws.filter_in_front.Goals as goal

pub returns : goal.returns
returns c = filter_in_front
