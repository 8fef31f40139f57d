use Rattle.std.proofs.Common.{ap, ◌∙◌}
use Rattle.sqlite.specs.Held.{state}
use Rattle.bson_store.specs.Table.{connection_of as table_connection, indexed_state as table_state}
use Rattle.store_table.specs.declared.opening.OpenError.{OpenError}
use Rattle.bson_store.specs.Refusals.{kind_of_opening}
use Rattle.store_model.specs.Refusal.{refusal}
use Rattle.bson_store.proofs.ReopenLemmas.{keeps_found, keeps_refused, keeps_refused_old}
use Rattle.bson_store.proofs.OpenLemmas.{opened}
use Rattle.bson_store.proofs.store.Store.open.Goals as goal

pub returns-in-Ok-clause-opened : goal.returns-in-Ok-clause-opened
returns-in-Ok-clause-opened g c clean = opened (state g.S.Store c.args.connection) (table_state g.S.Store c.in-Ok.table) (c.in-Ok.ensures.opened clean)

pub returns-in-Ok-clause-finds : goal.returns-in-Ok-clause-finds
returns-in-Ok-clause-finds g c x finds clean =
    let old = state g.S.Store c.args.connection in
    let new = table_state g.S.Store c.in-Ok.table in
    keeps_found old new x (λ db up may. g.met.S.Store.settled (table_connection c.in-Ok.table).store db up may) finds (opened old new (c.in-Ok.ensures.opened clean))

pub returns-in-Err-clause-taken : goal.returns-in-Err-clause-taken
returns-in-Err-clause-taken g c auto none taken =
    let it = c.in-Err.ensures.taken auto none taken in
    (c.opening_refusal.ensures ∙ ap (λ (x : OpenError). refusal (kind_of_opening x)) it.0, it.1)

pub returns-in-Err-clause-leaves : goal.returns-in-Err-clause-leaves
returns-in-Err-clause-leaves g c x finds clean =
    keeps_refused (state g.S.Store c.args.connection) (state g.S.Store c.in-Err.connection) x (λ db up may. g.met.S.Store.settled c.args.connection.store db up may) c.in-Err.ensures.crash_refused clean finds

pub returns-in-Err-clause-leaves_old : goal.returns-in-Err-clause-leaves_old
returns-in-Err-clause-leaves_old g c x finds clean =
    keeps_refused_old (state g.S.Store c.args.connection) (state g.S.Store c.in-Err.connection) x (λ db up may. g.met.S.Store.settled c.args.connection.store db up may) c.in-Err.ensures.crash_refused clean finds
