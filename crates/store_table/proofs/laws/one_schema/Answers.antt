use Rattle.sqlite_catalog.proofs.ReadLemmas.{lists_once}
use Rattle.store_table.proofs.UniqueLemmas.{one_stand}
use Rattle.store_table.proofs.laws.one_schema.Goals as goal

pub returns-clause-listed : goal.returns-clause-listed
returns-clause-listed c objects a b h k = lists_once objects b a k h

pub returns-clause-stands : goal.returns-clause-stands
returns-clause-stands c = one_stand
