use Rattle.bson_model.specs.View.{view}
use Rattle.bson_store.specs.Calls.{store_state}
use Rattle.usage_callers.proofs.PutLemmas.{put_and_got}
use Rattle.usage_callers.proofs.stores.put_and_get.Goals as goal

pub returns : goal.returns
returns g c =
    put_and_got (store_state g.S.Store c.args.store.now) (store_state g.S.Store c.insert_raw.new.self) (store_state g.S.Store c.get_raw.new.self) c.args.name.now c.args.bytes.now (view c.args.id.now) c.get_raw.result c.in_ok-insert_raw.ensures.moves c.get_raw.ensures.moves
