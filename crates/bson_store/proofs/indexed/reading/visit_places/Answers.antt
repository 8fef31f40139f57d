use Rattle.std.proofs.Common.{◌<◌, ◌+◌, length, take, Ok, true, false, arith}
use Rattle.sqlite.specs.State.{HasCleanDisk}
use Rattle.sqlite.proofs.StateLemmas.{survives_then}
use Rattle.store_table.specs.Table.{table_state}
use Rattle.bson_store.specs.Asking.{VisitsPlaces}
use Rattle.bson_store.proofs.MoveLemmas.{moved, moved_twice}
use Rattle.bson_store.proofs.PlaceVisitLemmas.{Comes, comes_on, comes_to, comes_last}
use Rattle.bson_store.proofs.indexed.reading.visit_places.Goals as goal

pub loop-i-preserved : goal.loop-i-preserved
loop-i-preserved g c =
    let old = table_state g.S.Store c.args.table.now in
    let mid = table_state g.S.Store c.loop-i.table in
    let new = table_state g.S.Store c.visit_place.new.table in
    let took = g.V.Visit.took in
    let first = c.args.visitor.now in
    let coll = c.args.coll.now in
    let ps = c.args.places.now in
    let i = c.loop-i.i in
    let low : i < length ps = omega (arith, c.loop-i-test.true, c.loop-i.auto.i-end) in
    record {
      moves = moved_twice old mid new (Comes took first coll ps c.loop-i.visitor (take i ps)) _ (Comes took first coll ps c.visit_place.new.visitor (take (i + 1) ps))
          c.loop-i.invariant.moves c.in_ok-visit_place.ensures.moves
          (λ docs mid after h m. comes_on took first coll ps c.loop-i.visitor c.visit_place.new.visitor i _ c.in_ok-visit_place.field-0 docs mid after low h m);
      crash = survives_then old mid new (λ _. ⊥) (λ _. ⊥) (λ _. ⊥) (λ _ db none. none) (λ _ db none. none) c.loop-i.invariant.crash c.visit_place.ensures.crash;
      opened = λ clean docs stands.
          let early : HasCleanDisk mid = omega (arith, clean, c.visit_place.ensures.crash.clean) in
          let y = (c.loop-i.invariant.moves early).1 docs stands in
          ((c.loop-i.invariant.opened early docs stands).0, (c.in_ok-visit_place.ensures.open clean y.0 y.1).1);
    }

pub returns-clause-moves : goal.returns-clause-moves
returns-clause-moves g c =
    let took = g.V.Visit.took in
    let first = c.args.visitor.now in
    let coll = c.args.coll.now in
    let ps = c.args.places.now in
    moved (table_state g.S.Store c.args.table.now) (table_state g.S.Store c.loop-i.table) (Comes took first coll ps c.loop-i.visitor (take c.loop-i.i ps)) (VisitsPlaces (took first) first c.loop-i.visitor coll ps (Ok true)) c.loop-i.invariant.moves
    (λ docs after h. comes_last took first coll ps c.loop-i.visitor c.loop-i.i docs after (omega (arith, c.loop-i-test.false)) h)

pub returns-then-not-branch-clause-moves : goal.returns-then-not-branch-clause-moves
returns-then-not-branch-clause-moves g c =
    let old = table_state g.S.Store c.args.table.now in
    let mid = table_state g.S.Store c.loop-i.table in
    let new = table_state g.S.Store c.visit_place.new.table in
    let took = g.V.Visit.took in
    let first = c.args.visitor.now in
    let coll = c.args.coll.now in
    let ps = c.args.places.now in
    let i = c.loop-i.i in
    let low : i < length ps = omega (arith, c.loop-i-test.true, c.loop-i.auto.i-end) in
    moved_twice old mid new (Comes took first coll ps c.loop-i.visitor (take i ps)) _ (VisitsPlaces (took first) first c.visit_place.new.visitor coll ps (Ok false)) c.loop-i.invariant.moves c.in_ok-visit_place.ensures.moves
    (λ docs mid after h m. comes_to took first coll ps c.visit_place.new.visitor (i + 1) docs after (comes_on took first coll ps c.loop-i.visitor c.visit_place.new.visitor i _ c.in_ok-visit_place.field-0 docs mid after low h m))
