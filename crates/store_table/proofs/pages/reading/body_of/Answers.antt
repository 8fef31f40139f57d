use Rattle.std.proofs.Common.{map, ◌∙◌}
use Rattle.store_table.specs.Bridge.{as_doc}
use Rattle.store_table.proofs.BridgeLemmas.{finds_alike}
use Rattle.store_table.proofs.pages.reading.body_of.Goals as goal

pub returns-in-Ok-clause-found : goal.returns-in-Ok-clause-found
returns-in-Ok-clause-found g c clean docs are = c.in-Ok.ensures.found clean (map as_doc docs) are ∙ finds_alike c.args.coll.now c.args.idkey.now docs
