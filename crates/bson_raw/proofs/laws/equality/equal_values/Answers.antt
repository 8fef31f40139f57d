use Rattle.bson_raw.proofs.BorrowedEqualLemmas.{borrowed_Decides}
use Rattle.bson_raw.proofs.OwnedEqualLemmas.{owned_Decides}
use Rattle.bson_raw.proofs.laws.equality.equal_values.Goals as goal

pub returns-clause-borrowed : goal.returns-clause-borrowed
returns-clause-borrowed c = borrowed_Decides c.equal_scalars.ensures.subtypes

pub returns-clause-owned : goal.returns-clause-owned
returns-clause-owned c = owned_Decides c.equal_scalars.ensures.subtypes
