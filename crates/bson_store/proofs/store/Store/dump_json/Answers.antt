use Rattle.std.proofs.Common.{rules}
use Rattle.bson_store.specs.Calls.{store_state}
use Rattle.bson_store.proofs.DumpLemmas.{dumped_moves, undumped_moves}
use Rattle.bson_store.proofs.store.Store.dump_json.Goals as goal

pub returns-clause-moves : goal.returns-clause-moves
returns-clause-moves g c = undumped_moves (store_state g.S.Store c.args.self.now) (store_state g.S.Store c.each_json.new.self) c.args.name.now c.in-Err.error _ (c.in-Err.ensures.moves (search rules))

pub returns-in-Ok-clause-moves : goal.returns-in-Ok-clause-moves
returns-in-Ok-clause-moves g c = dumped_moves (store_state g.S.Store c.args.self.now) (store_state g.S.Store c.each_json.new.self) c.args.name.now c.in-Ok.all (c.in-Ok.ensures.moves (search rules))
