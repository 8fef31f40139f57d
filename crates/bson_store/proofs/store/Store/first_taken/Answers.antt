use Rattle.std.proofs.Common.{Ok, Err, arith}
use Rattle.std.proofs.lemmas.Result.{err_from_is_err_and}
use Rattle.std.proofs.lemmas.Result.{IfOk-weaker}
use Rattle.sqlite.specs.State.{HasCleanDisk}
use Rattle.store_table.specs.Moves.{FindsNone}
use Rattle.bson_store.specs.Table.{indexed_state as table_state}
use Rattle.store_model.specs.declared.error.ErrorKind.TheVariants as kind
use Rattle.bson_store.specs.Calls.{store_state}
use Rattle.bson_store.specs.Many.{FindsTaken}
use Rattle.bson_store.specs.Refusals.{kind_of_fault}
use Rattle.store_model.specs.Refusal.{refusal}
use Rattle.bson_store.proofs.KeyLemmas.{taken_unknown, repeats_unknown, taken_of_none, taken_later}
use Rattle.bson_store.proofs.MoveLemmas.{moved, moved_twice}
use Rattle.bson_store.proofs.store.Store.first_taken.Goals as goal

pub returns-in-Err-clause-moves : goal.returns-in-Err-clause-moves
returns-in-Err-clause-moves g c =
    let n = c.args.collection.now in
    let rows = c.args.rows.now in
    let x = c.in-Err.fault in
    rw c.fault_refusal.ensures
    (moved (store_state g.S.Store c.args.self.now) (table_state g.S.Store c.is_empty.new.self) (FindsNone (Err x)) (FindsTaken n rows (Err (refusal (kind_of_fault x)))) c.in-Err.ensures.moves
    (λ docs after h. taken_unknown n rows x docs after h))

pub returns-in_err-place-clause-moves : goal.returns-in_err-place-clause-moves
returns-in_err-place-clause-moves g c =
    let n = c.args.collection.now in
    let rows = c.args.rows.now in
    let b = c.in-Ok.is_empty in
    let p = err_from_is_err_and c.from_residual.result c.from_residual.ensures.1 in
    rw (p.1, p.2)
    (moved (store_state g.S.Store c.args.self.now) (table_state g.S.Store c.is_empty.new.self) (FindsNone (Ok b)) (FindsTaken n rows (Err (refusal kind.Memory))) c.in-Ok.ensures.moves
    (λ docs after h. repeats_unknown n rows b docs after h))

pub returns-then-is_empty-clause-moves : goal.returns-then-is_empty-clause-moves
returns-then-is_empty-clause-moves g c =
    let n = c.args.collection.now in
    let rows = c.args.rows.now in
    let b = c.in-Ok.is_empty in
    let o = c.in_ok-place.place in
    moved (store_state g.S.Store c.args.self.now) (table_state g.S.Store c.is_empty.new.self) (FindsNone (Ok b)) (FindsTaken n rows (Ok o)) c.in-Ok.ensures.moves
    (λ docs after h. taken_of_none n rows b o docs after c.if-is_empty.true c.in_ok-place.ensures h)

pub returns-clause-moves : goal.returns-clause-moves
returns-clause-moves g c =
    let n = c.args.collection.now in
    let rows = c.args.rows.now in
    let b = c.in-Ok.is_empty in
    let r = c.first_looked_up.result in
    moved_twice (store_state g.S.Store c.args.self.now) (table_state g.S.Store c.is_empty.new.self) (store_state g.S.Store c.first_looked_up.new.self) (FindsNone (Ok b)) (FindsTaken n rows r) (FindsTaken n rows r) c.in-Ok.ensures.moves c.first_looked_up.ensures.moves
    (λ docs mid after h m. taken_later n rows b r docs mid after h m)

pub returns-clause-open : goal.returns-clause-open
returns-clause-open g c clean docs stands =
    let early : HasCleanDisk (table_state g.S.Store c.is_empty.new.self) = omega (arith, clean, c.first_looked_up.ensures.crash.clean) in
    let y = (c.in-Ok.ensures.moves early).1 docs stands in
    IfOk-weaker c.first_looked_up.result _ _ (λ o h up. (c.in-Ok.ensures.open early docs stands).0) (c.first_looked_up.ensures.open clean y.0 y.1)
