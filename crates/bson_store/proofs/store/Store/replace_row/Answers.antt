use Rattle.std.specs.Cow.{cow_slice_items}
use Rattle.std.proofs.Common.{Ok, arith}
use Rattle.store_table.specs.Rows.{with_body_at}
use Rattle.store_table.specs.Moves.{FindsRow}
use Rattle.store_model.specs.Reading.{readable}
use Rattle.store_model.specs.State.{replace, on, done}
use Rattle.bson_store.specs.Calls.{store_state, store_connection, Does, DoesRead}
use Rattle.bson_store.proofs.MoveLemmas.{moved}
use Rattle.bson_store.proofs.ServeLemmas.{written_fits}
use Rattle.bson_store.proofs.CrashLemmas.{accepted_leaves, changed_leaves, row_replaces}
use Rattle.bson_store.specs.Table.{indexed_state as table_state}
use Rattle.store_documents.specs.Names.{name_bytes}
use Rattle.bson_store.proofs.ExitLemmas.{unfound_replace, none_replace, place_moves, not_place_moves}
use Rattle.bson_store.proofs.store.Store.replace_row.Goals as goal
use Rattle.sqlite.specs.State.{HasCleanDisk}

pub returns-in-Err-clause-moves : goal.returns-in-Err-clause-moves
returns-in-Err-clause-moves g c d read told =
    rw c.fault_refusal.ensures (unfound_replace (store_state g.S.Store c.args.self.now) (table_state g.S.Store c.named.new.self) (name_bytes c.args.name) d c.args.row.now c.in-Err.fault (rw c.as_str-collection.ensures.text at c.as_str-collection.ensures.named) read told (rw (c.as_str-collection.ensures.text, c.as_slice-key.ensures.value) at c.in-Err.ensures.moves))

pub returns-in_default-clause-moves : goal.returns-in_default-clause-moves
returns-in_default-clause-moves g c d read told =
    rw c.from.ensures (none_replace (store_state g.S.Store c.args.self.now) (table_state g.S.Store c.named.new.self) (name_bytes c.args.name) d c.args.row.now c.in-Ok.found (rw c.as_str-collection.ensures.text at c.as_str-collection.ensures.named) read told c.in_default.is (rw (c.as_str-collection.ensures.text, c.as_slice-key.ensures.value) at c.in-Ok.ensures.moves))

pub returns-clause-moves : goal.returns-clause-moves
returns-clause-moves g c d read told =
    rw c.fault_refusal-in-Err-put_back.ensures (not_place_moves (store_state g.S.Store c.args.self.now) (table_state g.S.Store c.named.new.self) (store_state g.S.Store c.put_back.new.self) (name_bytes c.args.name) d c.args.row.now c.in-Ok.found c.in-Some.found c.in-Err-put_back.fault (rw c.as_str-collection.ensures.text at c.as_str-collection.ensures.named) read told c.in-Some.is (rw (c.as_str-collection.ensures.text, c.as_slice-key.ensures.value) at c.in-Ok.ensures.moves) (rw c.as_slice-body.ensures.value at c.in-Err-put_back.ensures.moves))

pub returns-in-Ok-put_back-clause-moves : goal.returns-in-Ok-put_back-clause-moves
returns-in-Ok-put_back-clause-moves g c d read told =
    place_moves (store_state g.S.Store c.args.self.now) (table_state g.S.Store c.named.new.self) (store_state g.S.Store c.put_back.new.self) (name_bytes c.args.name) d c.args.row.now c.in-Ok.found c.in-Some.found (rw c.as_str-collection.ensures.text at c.as_str-collection.ensures.named) read told c.in-Some.is (rw (c.as_str-collection.ensures.text, c.as_slice-key.ensures.value) at c.in-Ok.ensures.moves) (rw c.as_slice-body.ensures.value at c.in-Ok-put_back.ensures.moves)

pub returns-clause-crash : goal.returns-clause-crash
returns-clause-crash g c d read told f =
    let s = store_state g.S.Store c.args.self.now in
    let m = table_state g.S.Store c.named.new.self in
    let t = store_state g.S.Store c.put_back.new.self in
    let n = name_bytes c.args.name in
    let w = c.args.row.now in
    let x = c.in-Some.found in
    rw c.fault_refusal-in-Err-put_back.ensures
    (changed_leaves s m t (on n (replace f (readable d))) (with_body_at x.place (cow_slice_items w.body)) (FindsRow n w.key.items (Ok c.in-Ok.found)) (rw (c.as_str-collection.ensures.text, c.as_slice-key.ensures.value) at c.in-Ok.ensures.moves)
    (λ docs after h. h.same) c.in-Ok.ensures.crash
    (λ docs after h. row_replaces f docs after n w.key.items (cow_slice_items w.body) d c.in-Ok.found x (rw c.as_str-collection.ensures.text at c.as_str-collection.ensures.named) (written_fits d w read told) c.in-Some.is h)
    c.in-Err-put_back.fault (rw c.as_slice-body.ensures.value at c.in-Err-put_back.ensures.crash) (rw c.as_slice-body.ensures.value at c.in-Err-put_back.ensures.moves))

pub returns-in-Ok-put_back-clause-crash : goal.returns-in-Ok-put_back-clause-crash
returns-in-Ok-put_back-clause-crash g c d read told f =
    let s = store_state g.S.Store c.args.self.now in
    let t = store_state g.S.Store c.put_back.new.self in
    let n = name_bytes c.args.name in
    accepted_leaves s t (on n (replace f (readable d))) done (λ e. e)
    (λ clean docs stands. let y = (c.in-Ok.ensures.moves (omega (arith, clean, c.put_back.ensures.crash.clean))).1 docs stands in (c.in-Ok-put_back.ensures.open clean y.0 y.1).1)
    (λ db up may. g.met.S.Store.settled (store_connection c.put_back.new.self).store db up may)
    (moved s t (DoesRead n replace d done) (Does (on n (replace f (readable d))) done) (returns-in-Ok-put_back-clause-moves g c d read told) (λ docs after h. h f))

pub returns-in-Ok-put_back-clause-open : goal.returns-in-Ok-put_back-clause-open
returns-in-Ok-put_back-clause-open g c clean docs stands =
    let early : HasCleanDisk (table_state g.S.Store c.named.new.self) = omega (arith, clean, c.put_back.ensures.crash.clean) in
    let y = (c.in-Ok.ensures.moves early).1 docs stands in
    ((c.in-Ok.ensures.open early docs stands).0, (c.in-Ok-put_back.ensures.open clean y.0 y.1).1)
