use Rattle.store_update.proofs.IdLemmas.{stays}
use Rattle.store_update.proofs.laws.ids_stay.Goals as goal

pub returns : goal.returns
returns c inserts steps ms d h = stays inserts steps ms d h
