use Rattle.sqlite.specs.Held.{state}
use Rattle.bson_store.proofs.ReopenLemmas.{state_found, run_found}
use Rattle.bson_store.proofs.meanings.crashes_are_found.Goals as goal

pub returns-clause-calls : goal.returns-clause-calls
returns-clause-calls g c first x = state_found first (state g.S.Store c.args._connection.now) x

pub returns-clause-runs : goal.returns-clause-runs
returns-clause-runs g c first asked end = run_found first asked end (state g.S.Store c.args._connection.now)
