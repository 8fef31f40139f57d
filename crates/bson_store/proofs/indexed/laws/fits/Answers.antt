use Rattle.bson_store.proofs.PartLemmas.{part_fits}
use Rattle.bson_store.proofs.indexed.laws.fits.Goals as goal

pub returns : goal.returns
returns c = part_fits
