use Rattle.std.proofs.Common.{◌≡◌, rules, w64, to_z, of_z}
use Rattle.std.proofs.lemmas.Result.{err_from_is_err_and}
use Rattle.store_table.specs.Rows.{with_body_at}
use Rattle.store_table.specs.Table.{table_state}
use Rattle.bson_store.proofs.ChangeLemmas.{read_then_leaves, read_then_settles, read_then_open, rewrites, rewrites_not, found_not}
use Rattle.bson_store.proofs.indexed.changing.rewrite_placed.Goals as goal

pub returns-clause-moves : goal.returns-clause-moves
returns-clause-moves g c =
    let place = c.args.found.now.place in
    let same : to_z w64 (of_z w64 place) ≡ place = search rules in
    let one = rw same at c.in_ok-coll.ensures.moves in
    rewrites (table_state g.S.Store c.args.table.now) (table_state g.S.Store c.collection_at.new.self) (table_state g.S.Store c.rewrite_at.new.self) place c.args.body.now c.in_ok-coll.coll one c.in_ok-rewrite_at.ensures.moves

pub returns-clause-open : goal.returns-clause-open
returns-clause-open g c =
    read_then_open (table_state g.S.Store c.args.table.now) (table_state g.S.Store c.collection_at.new.self) (table_state g.S.Store c.rewrite_at.new.self) _ c.in_ok-coll.ensures.moves (λ docs after h. h.same) c.in_ok-coll.coll _ c.rewrite_at.ensures.crash c.in_ok-coll.ensures.open c.in_ok-rewrite_at.ensures.open

pub returns-clause-crash : goal.returns-clause-crash
returns-clause-crash g c =
    read_then_leaves (table_state g.S.Store c.args.table.now) (table_state g.S.Store c.collection_at.new.self) (table_state g.S.Store c.rewrite_at.new.self) _ c.in_ok-coll.ensures.moves (λ docs after h. h.same) (with_body_at c.args.found.now.place c.args.body.now) c.collection_at.ensures.crash c.rewrite_at.ensures.crash

pub returns-clause-settled : goal.returns-clause-settled
returns-clause-settled g c =
    read_then_settles (table_state g.S.Store c.args.table.now) (table_state g.S.Store c.collection_at.new.self) (table_state g.S.Store c.rewrite_at.new.self) _ c.in_ok-coll.ensures.moves (λ docs after h. h.same) (with_body_at c.args.found.now.place c.args.body.now) c.in_ok-coll.coll _ c.rewrite_at.ensures.crash c.in_ok-rewrite_at.ensures.settled

pub returns-in_err-coll-clause-moves : goal.returns-in_err-coll-clause-moves
returns-in_err-coll-clause-moves g c =
    let p = err_from_is_err_and c.from_residual.result c.from_residual.ensures.1 in
    let place = c.args.found.now.place in
    let same : to_z w64 (of_z w64 place) ≡ place = search rules in
    let one = rw same at c.in_err-coll.ensures.moves in
    rw (p.1, p.2) (found_not (table_state g.S.Store c.args.table.now) (table_state g.S.Store c.collection_at.new.self) place c.args.body.now c.in_err-coll.field-0.0 one)

pub returns-in_err-rewrite_at-clause-moves : goal.returns-in_err-rewrite_at-clause-moves
returns-in_err-rewrite_at-clause-moves g c =
    let p = err_from_is_err_and c.from_residual-in_err-rewrite_at.result c.from_residual-in_err-rewrite_at.ensures.1 in
    let place = c.args.found.now.place in
    let same : to_z w64 (of_z w64 place) ≡ place = search rules in
    let one = rw same at c.in_ok-coll.ensures.moves in
    rw (p.1, p.2) (rewrites_not (table_state g.S.Store c.args.table.now) (table_state g.S.Store c.collection_at.new.self) (table_state g.S.Store c.rewrite_at.new.self) place c.args.body.now c.in_ok-coll.coll one c.in_err-rewrite_at.field-0.0 c.in_err-rewrite_at.ensures.moves)

pub returns-in_err-rewrite_at-clause-crash : goal.returns-in_err-rewrite_at-clause-crash
returns-in_err-rewrite_at-clause-crash g c =
    read_then_leaves (table_state g.S.Store c.args.table.now) (table_state g.S.Store c.collection_at.new.self) (table_state g.S.Store c.rewrite_at.new.self) _ c.in_ok-coll.ensures.moves (λ docs after h. h.same) (with_body_at c.args.found.now.place c.args.body.now) c.collection_at.ensures.crash c.rewrite_at.ensures.crash
