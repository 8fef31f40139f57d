use Rattle.std.specs.Cow.{cow_slice_items}
use Rattle.std.proofs.Common.{Ok, Err, ap, subst, arith}
use Rattle.store_table.specs.Moves.{FindsPlace, with_row}
use Rattle.store_model.specs.Reading.{readable}
use Rattle.store_model.specs.State.{insert, on, done}
use Rattle.bson_store.specs.Calls.{store_state, store_connection, Does, DoesRead}
use Rattle.bson_store.proofs.MoveLemmas.{moved}
use Rattle.bson_store.proofs.ServeLemmas.{row_makes, written_fits}
use Rattle.bson_store.proofs.CrashLemmas.{denied_leaves, accepted_leaves}
use Rattle.bson_store.specs.Table.{indexed_state as table_state}
use Rattle.store_documents.specs.Names.{name_bytes}
use Rattle.bson_store.proofs.ExitLemmas.{unfound_insert, duplicate_insert, put_moves, not_put_moves}
use Rattle.bson_store.proofs.store.Store.insert_row.Goals as goal
use Rattle.sqlite.specs.State.{HasCleanDisk}

pub returns-in-Err-clause-moves : goal.returns-in-Err-clause-moves
returns-in-Err-clause-moves g c d read told =
    rw c.fault_refusal.ensures (unfound_insert (store_state g.S.Store c.args.self.now) (table_state g.S.Store c.place_of.new.self) (name_bytes c.args.name) c.args.row.now.key.items d c.in-Err.fault (rw c.as_str-collection.ensures.text at c.as_str-collection.ensures.named) (rw (c.as_str-collection.ensures.text, c.as_slice-key.ensures.value) at c.in-Err.ensures.moves))

pub returns-in-Some-clause-moves : goal.returns-in-Some-clause-moves
returns-in-Some-clause-moves g c d read told =
    rw c.from.ensures (duplicate_insert (store_state g.S.Store c.args.self.now) (table_state g.S.Store c.place_of.new.self) (name_bytes c.args.name) d c.args.row.now c.in-Ok.found c.in-Some.field-0 (rw c.as_str-collection.ensures.text at c.as_str-collection.ensures.named) read told c.in-Some.is (rw (c.as_str-collection.ensures.text, c.as_slice-key.ensures.value) at c.in-Ok.ensures.moves))

pub returns-in-Err-put_last-clause-moves : goal.returns-in-Err-put_last-clause-moves
returns-in-Err-put_last-clause-moves g c d read told =
    rw c.fault_refusal-in-Err-put_last.ensures (not_put_moves (store_state g.S.Store c.args.self.now) (table_state g.S.Store c.place_of.new.self) (store_state g.S.Store c.put_last.new.self) (name_bytes c.args.name) d c.args.row.now c.in-Ok.found c.in-Err-put_last.fault (rw c.as_str-collection.ensures.text at c.as_str-collection.ensures.named) read told c.in_default.is (rw (c.as_str-collection.ensures.text, c.as_slice-key.ensures.value) at c.in-Ok.ensures.moves) (rw (c.as_str-collection.ensures.text, c.as_slice-key.ensures.value, c.as_slice-body.ensures.value) at c.in-Err-put_last.ensures.moves))

pub returns-in-Ok-put_last-clause-moves : goal.returns-in-Ok-put_last-clause-moves
returns-in-Ok-put_last-clause-moves g c d read told =
    put_moves (store_state g.S.Store c.args.self.now) (table_state g.S.Store c.place_of.new.self) (store_state g.S.Store c.put_last.new.self) (name_bytes c.args.name) d c.args.row.now c.in-Ok.found (rw c.as_str-collection.ensures.text at c.as_str-collection.ensures.named) (rw c.as_str-collection.ensures.text at c.as_str-collection.utf8) read told c.in_default.is (rw (c.as_str-collection.ensures.text, c.as_slice-key.ensures.value) at c.in-Ok.ensures.moves) (rw (c.as_str-collection.ensures.text, c.as_slice-key.ensures.value, c.as_slice-body.ensures.value) at c.in-Ok-put_last.ensures.moves)

pub returns-in-Err-put_last-clause-crash : goal.returns-in-Err-put_last-clause-crash
returns-in-Err-put_last-clause-crash g c d read told f =
    let s = store_state g.S.Store c.args.self.now in
    let m = table_state g.S.Store c.place_of.new.self in
    let t = store_state g.S.Store c.put_last.new.self in
    let n = name_bytes c.args.name in
    let w = c.args.row.now in
    rw c.fault_refusal-in-Err-put_last.ensures
    (denied_leaves s m t (on n (insert f (readable d))) (with_row n w.key.items (cow_slice_items w.body)) (FindsPlace n w.key.items (Ok c.in-Ok.found)) (rw (c.as_str-collection.ensures.text, c.as_slice-key.ensures.value) at c.in-Ok.ensures.moves)
    (λ docs after h. h.same) c.in-Ok.ensures.crash
    (λ docs after h. row_makes f docs after n w.key.items (cow_slice_items w.body) d (rw c.as_str-collection.ensures.text at c.as_str-collection.ensures.named) (rw c.as_str-collection.ensures.text at c.as_str-collection.utf8) (written_fits d w read told) (subst (λ o. FindsPlace n w.key.items (Ok o) docs after) c.in_default.is h))
    c.in-Err-put_last.fault (rw (c.as_str-collection.ensures.text, c.as_slice-key.ensures.value, c.as_slice-body.ensures.value) at c.in-Err-put_last.ensures.crash) (λ e. c.in-Err-put_last.ensures.full (ap Err e)))

pub returns-in-Ok-put_last-clause-crash : goal.returns-in-Ok-put_last-clause-crash
returns-in-Ok-put_last-clause-crash g c d read told f =
    let s = store_state g.S.Store c.args.self.now in
    let m = table_state g.S.Store c.place_of.new.self in
    let t = store_state g.S.Store c.put_last.new.self in
    let n = name_bytes c.args.name in
    let found = rw (c.as_str-collection.ensures.text, c.as_slice-key.ensures.value) at c.in-Ok.ensures.moves in
    accepted_leaves s t (on n (insert f (readable d))) done (λ e. e)
    (λ clean docs stands. let y = (found (omega (arith, clean, c.put_last.ensures.crash.clean))).1 docs stands in (c.in-Ok-put_last.ensures.open clean y.0 y.1).1)
    (λ db up may. g.met.S.Store.settled (store_connection c.put_last.new.self).store db up may)
    (moved s t (DoesRead n insert d done) (Does (on n (insert f (readable d))) done) (returns-in-Ok-put_last-clause-moves g c d read told) (λ docs after h. h f))

pub returns-in-Ok-put_last-clause-open : goal.returns-in-Ok-put_last-clause-open
returns-in-Ok-put_last-clause-open g c clean docs stands =
    let early : HasCleanDisk (table_state g.S.Store c.place_of.new.self) = omega (arith, clean, c.put_last.ensures.crash.clean) in
    let y = (c.in-Ok.ensures.moves early).1 docs stands in
    ((c.in-Ok.ensures.open early docs stands).0, (c.in-Ok-put_last.ensures.open clean y.0 y.1).1)
