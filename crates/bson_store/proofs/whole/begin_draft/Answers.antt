use Rattle.std.proofs.Common.{◌≡◌, Ok, Err, w64, to_z, of_z, arith}
use Rattle.std.proofs.lemmas.Int.{ints}
use Rattle.store_table.specs.Change.{FindsLast}
use Rattle.bson_store.specs.Table.{indexed_state as table_state}
use Rattle.bson_store.specs.Calls.{store_state}
use Rattle.bson_store.proofs.MoveLemmas.{moved}
use Rattle.bson_store.proofs.WholeLemmas.{begun, not_begun}
use Rattle.bson_store.proofs.whole.begin_draft.Goals as goal

pub returns-in-Ok-clause-moves : goal.returns-in-Ok-clause-moves
returns-in-Ok-clause-moves g c =
    let same : to_z w64 (of_z w64 c.in-Ok.last) ≡ c.in-Ok.last = omega (arith, ints) in
    moved (store_state g.S.Store c.args.store.now) (table_state g.S.Store c.last_place.new.self) (FindsLast (Ok c.in-Ok.last)) _ c.in-Ok.ensures.moves
    (λ docs after h. begun c.new.result c.in-Ok.last docs after c.new.ensures.none (rw same at c.new.ensures.over) h)

pub returns-in-Err-clause-moves : goal.returns-in-Err-clause-moves
returns-in-Err-clause-moves g c =
    rw c.fault_refusal.ensures (moved (store_state g.S.Store c.args.store.now) (table_state g.S.Store c.last_place.new.self) (FindsLast (Err c.in-Err.fault)) _ c.in-Err.ensures.moves
    (λ docs after h. not_begun c.in-Err.fault docs after h))
