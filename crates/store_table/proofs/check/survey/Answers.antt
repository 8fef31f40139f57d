use Rattle.sqlite.specs.Held.{state}
use Rattle.store_table.proofs.ToldLemmas.{only_passed}
use Rattle.store_table.proofs.check.survey.Goals as goal

pub returns-clause-read : goal.returns-clause-read
returns-clause-read g c clean = only_passed (λ _. Unit {0}) (g.J.TestsRows.accepts c.args.check.now) (state g.S.Store c.args.conn.now) (state g.S.Store c.survey_into.new.conn) c.survey_into.result (c.survey_into.ensures.read clean tt)
