use Rattle.std.proofs.Common.{IsTrue, subst}
use Rattle.store_table.specs.Snapshot.{is_clean_of}
use Rattle.store_table.proofs.RootLemmas.{some_then}
use Rattle.store_asked.specs.Reads.{pages_under}
use Rattle.fallowtime_commands.proofs.LookLemmas.{no_doubt, was_clean}
use Rattle.fallowtime_commands.proofs.looking.look_up.Goals as goal

pub returns-clause-performs : goal.returns-clause-performs
returns-clause-performs g c clean trees first docs held has =
    let after : IsTrue (is_clean_of (pages_under c.ask.new.store)) = subst (λ p. IsTrue (is_clean_of p)) c.close.ensures clean in
    let opened = some_then _ _ _ c.in-Ok-Some.field-0-is c.in-Ok-Some.ensures in
    c.in_ok-outcome.ensures.reads (no_doubt _ after) docs (opened (was_clean _ _ c.ask.ensures.stays.0.clean after) trees first docs held has)
