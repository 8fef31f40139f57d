use Rattle.std.proofs.Common.{None, Ok, Err}
use Rattle.store_table.specs.Moves.{Lists}
use Rattle.bson_store.specs.Table.{indexed_state as table_state}
use Rattle.store_model.specs.State as model
use Rattle.bson_store.specs.Calls.{Does, store_state}
use Rattle.bson_store.specs.Questions.{as_names}
use Rattle.bson_store.specs.Refusals.{kind_of_fault, reply_by}
use Rattle.bson_store.proofs.MoveLemmas.{moved}
use Rattle.bson_store.proofs.NameLemmas.{told, unlisted}
use Rattle.bson_store.proofs.store.Store.collections.Goals as goal

pub returns-in-Err-clause-moves : goal.returns-in-Err-clause-moves
returns-in-Err-clause-moves g c =
    let x = c.in-Err.fault in
    rw c.fault_refusal.ensures
    (moved (store_state g.S.Store c.args.self.now) (table_state g.S.Store c.collections.new.self) (Lists (Err x)) (Does model.collections (model.refused (kind_of_fault x) None)) c.in-Err.ensures.moves (λ docs after h. unlisted docs after x h))

pub returns-in-Ok-clause-moves : goal.returns-in-Ok-clause-moves
returns-in-Ok-clause-moves g c =
    moved (store_state g.S.Store c.args.self.now) (table_state g.S.Store c.collections.new.self) (Lists (Ok c.in-Ok.names)) (Does model.collections (reply_by as_names c.names_of.result)) c.in-Ok.ensures.moves
    (λ docs after h. told docs after c.in-Ok.names c.names_of.result c.names_of.ensures.same c.names_of.ensures.ascending c.names_of.ensures.refused h)
