use Rattle.store_table.proofs.BridgeLemmas.{bridge, all_shown, finds_alike, visits_alike, names_alike}
use Rattle.store_table.proofs.pages.reader_laws.holds_documents.Goals as goal

pub returns-clause-sized : goal.returns-clause-sized
returns-clause-sized c = bridge

pub returns-clause-named : goal.returns-clause-named
returns-clause-named c = all_shown

pub returns-clause-alike : goal.returns-clause-alike
returns-clause-alike c = finds_alike

pub returns-clause-visits : goal.returns-clause-visits
returns-clause-visits c = visits_alike

pub returns-clause-names : goal.returns-clause-names
returns-clause-names c = names_alike
