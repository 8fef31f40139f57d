use Rattle.std.proofs.Common.{[], ◌∷◌, ◌++◌}
use Rattle.store_asked.proofs.GatherLemmas.{one_first, one_whole}
use Rattle.store_asked.proofs.gathering.GatheringTakeRow.take_row.Goals as goal

pub returns-in-First-clause-took : goal.returns-in-First-clause-took
returns-in-First-clause-took c first out d kept is h =
    one_first first c.args.self.now c.in-First.first c.take_row.new.self c.take_row.result out (out ++ d ∷ []) c.in-First.is (c.take_row.ensures.took c.in-First.first out d kept is) h

pub returns-in-All-clause-took : goal.returns-in-All-clause-took
returns-in-All-clause-took c first out d kept is h =
    one_whole first c.args.self.now c.in-All.whole c.take_row-in-All.new.self c.take_row-in-All.result out (out ++ d ∷ []) c.in-All.is (c.take_row-in-All.ensures.took c.in-All.whole out d kept is) h
