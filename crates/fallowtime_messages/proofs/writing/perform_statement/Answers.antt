use Rattle.bson_store.specs.Calls.{store_state}
use Rattle.fallowtime_messages.proofs.RunLemmas.{did_by}
use Rattle.fallowtime_messages.proofs.writing.perform_statement.Goals as goal

pub returns-clause-did : goal.returns-clause-did
returns-clause-did g c =
    did_by c.args.statement.now c.as_str.result.now c.perform.result (store_state g.S.Store c.args.store.now) (store_state g.S.Store c.perform.new.store) c.as_str.ensures.value c.perform.ensures.moves c.perform.ensures.open c.perform.ensures.crash
