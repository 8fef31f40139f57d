use Rattle.store_documents.specs.Answers.{IsOfStore}
use Rattle.bson_store.specs.Calls.{store_state}
use Rattle.bson_store.proofs.CheckLemmas.{passed, stopped}
use Rattle.bson_store.proofs.StandLemmas.{own_kind}
use Rattle.bson_store.proofs.store.Store.check_json.Goals as goal

pub returns-in-Ok-clause-moves : goal.returns-in-Ok-clause-moves
returns-in-Ok-clause-moves g c = passed (store_state g.S.Store c.args.self.now) (store_state g.S.Store c.walk.new.self) c.args.name.now c.in-Ok.field-0 (c.in-Ok.ensures.moves tt)

pub returns-in-Err-clause-moves : goal.returns-in-Err-clause-moves
returns-in-Err-clause-moves g c = stopped (store_state g.S.Store c.args.self.now) (store_state g.S.Store c.walk.new.self) c.args.name.now c.in-Err.error _ (c.in-Err.ensures.moves tt)

pub returns-in-Err-clause-kind : goal.returns-in-Err-clause-kind
returns-in-Err-clause-kind g c = own_kind (IsOfStore c.in-Err.error.kind) (c.in-Err.ensures.stands tt)
