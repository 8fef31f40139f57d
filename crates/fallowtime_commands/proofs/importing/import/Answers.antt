use Rattle.fallowtime_commands.proofs.importing.import.Goals as goal

pub returns-in-Refuse-clause-moves : goal.returns-in-Refuse-clause-moves
returns-in-Refuse-clause-moves g c = rw (c.in-Refuse.is, c.number.ensures.reply) c.import_bytes.ensures.moves

pub returns-in-Refuse-clause-crash : goal.returns-in-Refuse-clause-crash
returns-in-Refuse-clause-crash g c = rw (c.in-Refuse.is, c.number.ensures.reply) c.import_bytes.ensures.crash

pub returns-in-Replace-clause-moves : goal.returns-in-Replace-clause-moves
returns-in-Replace-clause-moves g c = rw c.in-Replace.is c.import_over.ensures.moves

pub returns-in-Replace-clause-crash : goal.returns-in-Replace-clause-crash
returns-in-Replace-clause-crash g c = rw c.in-Replace.is c.import_over.ensures.crash

pub returns-in-Skip-clause-moves : goal.returns-in-Skip-clause-moves
returns-in-Skip-clause-moves g c = rw c.in-Skip.is c.import_over-in-Skip.ensures.moves

pub returns-in-Skip-clause-crash : goal.returns-in-Skip-clause-crash
returns-in-Skip-clause-crash g c = rw c.in-Skip.is c.import_over-in-Skip.ensures.crash
