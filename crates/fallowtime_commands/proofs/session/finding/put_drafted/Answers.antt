use Rattle.fallowtime_commands.proofs.session.finding.put_drafted.Goals as goal

pub returns-clause-moves : goal.returns-clause-moves
returns-clause-moves g c = rw c.as_slice.ensures.value at c.put_all-outcome.ensures.moves
