use Rattle.sqlite.specs.Held.{state}
use Rattle.sqlite.specs.Steps.{over_memory}
use Rattle.sqlite.proofs.Callers.{memory_is_clean}
use Rattle.bson_store.specs.Calls.{store_connection, store_state}
use Rattle.cli_commands.proofs.OpenLemmas.{opened_empty, not_opened}
use Rattle.cli_commands.proofs.piping.new_store.Goals as goal

pub returns-in-Ok-open-clause-empty : goal.returns-in-Ok-open-clause-empty
returns-in-Ok-open-clause-empty c =
    opened_empty (state over_memory c.in-Ok.connection) (store_state over_memory c.in-Ok-open.store) c.in-Ok.ensures.empty (c.in-Ok-open.ensures.opened (memory_is_clean (store_connection c.in-Ok-open.store)))

pub returns-in-Err-clause-denied : goal.returns-in-Err-clause-denied
returns-in-Err-clause-denied c =
    not_opened (state over_memory c.in-Ok.connection) (state over_memory c.in-Err.connection) c.in-Err.error c.in-Ok.ensures.empty (c.in-Err.ensures.refused (memory_is_clean c.in-Err.connection))
