use Rattle.std.proofs.Common.{map, ◌∙◌}
use Rattle.store_table.specs.PageNames.{names_in}
use Rattle.store_table.specs.Bridge.{as_doc}
use Rattle.store_table.proofs.BridgeLemmas.{names_alike}
use Rattle.store_table.proofs.CallLemmas.{name_in}
use Rattle.store_table.proofs.pages.reading.collections.Goals as goal

pub returns-in-Ok-clause-names : goal.returns-in-Ok-clause-names
returns-in-Ok-clause-names g c clean docs are name =
    name_in name c.in-Ok.names.items ∙ names_alike (names_in c.in-Ok.names.items) docs (c.in-Ok.ensures.names clean (map as_doc docs) are) name

pub returns-in-Ok-clause-order : goal.returns-in-Ok-clause-order
returns-in-Ok-clause-order g c clean docs are = (c.in-Ok.ensures.names clean (map as_doc docs) are).rising
