use Rattle.fallowtime_commands.proofs.aggregating.make.Goals as goal

pub returns-clause-follows : goal.returns-clause-follows
returns-clause-follows c = (c.run.result, c.aggregate_of.ensures.answer, c.run.ensures)
