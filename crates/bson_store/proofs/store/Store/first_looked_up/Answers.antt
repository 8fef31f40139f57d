use Rattle.std.proofs.Common.{◌<◌, ◌+◌, length, Some, None, Ok, Err, arith}
use Rattle.std.proofs.lemmas.Result.{err_from_is_err_and}
use Rattle.bson_store.specs.Calls.{store_state}
use Rattle.bson_store.specs.Many.{FindsTaken, Meets}
use Rattle.bson_store.proofs.KeyLemmas.{ComesTo, comes_first, comes_more, taken_here, taken_denied, none_taken}
use Rattle.sqlite.proofs.StateLemmas.{survives_then}
use Rattle.bson_store.proofs.CrashLemmas.{survives_itself}
use Rattle.bson_store.proofs.MoveLemmas.{rests, moved, moved_twice}
use Rattle.bson_store.proofs.store.Store.first_looked_up.Goals as goal
use Rattle.sqlite.specs.State.{HasCleanDisk}

pub loop-at-init : goal.loop-at-init
loop-at-init g c = record { opened = λ clean docs stands up. up; crash = survives_itself (store_state g.S.Store c.args.self.now); moves = rests (store_state g.S.Store c.args.self.now) (ComesTo c.args.collection.now c.args.rows.now c.new-met.result 0) (λ docs. comes_first c.args.collection.now c.args.rows.now c.new-met.result docs c.new-met.ensures) }

pub loop-at-preserved : goal.loop-at-preserved
loop-at-preserved g c =
    let n = c.args.collection.now in
    let rows = c.args.rows.now in
    let at = c.loop-at.at in
    let row = c.index-rows-at.result in
    let low : at < length rows = omega (arith, c.loop-at-test.true, c.loop-at.auto.at-end) in
    let taken = c.in_ok-is_taken.field-0 in
    record {
      opened = λ clean docs stands up.
          let early : HasCleanDisk (store_state g.S.Store c.loop-at.self) = omega (arith, clean, c.is_taken.ensures.crash.clean) in
          let y = (c.loop-at.invariant.moves early).1 docs stands in
          c.loop-at.invariant.opened early docs stands (c.in_ok-is_taken.ensures.open clean y.0 y.1).0;
      crash = survives_then (store_state g.S.Store c.args.self.now) (store_state g.S.Store c.loop-at.self) (store_state g.S.Store c.is_taken.new.self) (λ _. ⊥) (λ _. ⊥) (λ _. ⊥) (λ _ db none. none) (λ _ db none. none) c.loop-at.invariant.crash c.is_taken.ensures.crash;
      moves = moved_twice (store_state g.S.Store c.args.self.now) (store_state g.S.Store c.loop-at.self) (store_state g.S.Store c.is_taken.new.self) (ComesTo n rows c.loop-at.met at) (Meets n row.key.items c.loop-at.met (Ok taken)) (ComesTo n rows c.is_taken.new.met (at + 1))
          c.loop-at.invariant.moves (rw c.as_slice-key.ensures.value at c.in_ok-is_taken.ensures.moves)
          (λ docs mid after h m. comes_more n rows c.loop-at.met c.is_taken.new.met at row taken docs mid after low c.index-rows-at.is c.if-branch.false (rw c.as_slice-key.ensures.value at (c.in_ok-is_taken.ensures.met c.if-branch.false)) h m);
    }

pub returns-in_err-is_taken-clause-moves : goal.returns-in_err-is_taken-clause-moves
returns-in_err-is_taken-clause-moves g c =
    let n = c.args.collection.now in
    let rows = c.args.rows.now in
    let row = c.index-rows-at.result in
    let e = c.in_err-is_taken.field-0.0 in
    let p = err_from_is_err_and c.from_residual.result c.from_residual.ensures.1 in
    rw (p.1, p.2)
    (moved_twice (store_state g.S.Store c.args.self.now) (store_state g.S.Store c.loop-at.self) (store_state g.S.Store c.is_taken.new.self) (ComesTo n rows c.loop-at.met c.loop-at.at) (Meets n row.key.items c.loop-at.met (Err e)) (FindsTaken n rows (Err e))
    c.loop-at.invariant.moves (rw c.as_slice-key.ensures.value at c.in_err-is_taken.ensures.moves)
    (λ docs mid after h m. taken_denied n rows c.loop-at.met c.loop-at.at row.key.items e docs mid after h m))

pub returns-then-branch-clause-moves : goal.returns-then-branch-clause-moves
returns-then-branch-clause-moves g c =
    let n = c.args.collection.now in
    let rows = c.args.rows.now in
    let at = c.loop-at.at in
    let row = c.index-rows-at.result in
    let low : at < length rows = omega (arith, c.loop-at-test.true, c.loop-at.auto.at-end) in
    let taken = c.in_ok-is_taken.field-0 in
    moved_twice (store_state g.S.Store c.args.self.now) (store_state g.S.Store c.loop-at.self) (store_state g.S.Store c.is_taken.new.self) (ComesTo n rows c.loop-at.met at) (Meets n row.key.items c.loop-at.met (Ok taken)) (FindsTaken n rows (Ok (Some at)))
    c.loop-at.invariant.moves (rw c.as_slice-key.ensures.value at c.in_ok-is_taken.ensures.moves)
    (λ docs mid after h m. taken_here n rows c.loop-at.met at row taken docs mid after low c.index-rows-at.is c.if-branch.true h m)

pub returns-clause-moves : goal.returns-clause-moves
returns-clause-moves g c =
    let n = c.args.collection.now in
    let rows = c.args.rows.now in
    moved (store_state g.S.Store c.args.self.now) (store_state g.S.Store c.loop-at.self) (ComesTo n rows c.loop-at.met c.loop-at.at) (FindsTaken n rows (Ok None)) c.loop-at.invariant.moves
    (λ docs after h. none_taken n rows c.loop-at.met c.loop-at.at docs after (omega (arith, c.loop-at-test.false)) h)

pub returns-then-branch-clause-open : goal.returns-then-branch-clause-open
returns-then-branch-clause-open g c clean docs stands up =
    let early : HasCleanDisk (store_state g.S.Store c.loop-at.self) = omega (arith, clean, c.is_taken.ensures.crash.clean) in
    let y = (c.loop-at.invariant.moves early).1 docs stands in
    c.loop-at.invariant.opened early docs stands (c.in_ok-is_taken.ensures.open clean y.0 y.1).0

pub returns-clause-open : goal.returns-clause-open
returns-clause-open g c clean docs stands up = c.loop-at.invariant.opened clean docs stands up
