use Rattle.std.proofs.Common.{length, None, Ok, Err, ap, refl, sym, ◌∙◌, arith}
use Rattle.std.proofs.lemmas.Result.{err_from_is_err_and}
use Rattle.store_table.specs.Moves.{AddsRows, with_rows}
use Rattle.store_table.specs.declared.fault.Fault.TheVariants as faults
use Rattle.store_documents.specs.Names.{name_bytes}
use Rattle.store_model.specs.State.{import, number, on}
use Rattle.bson_store.specs.Calls.{store_state, store_connection, Does}
use Rattle.bson_store.specs.Many.{AddsAll, FindsTaken}
use Rattle.bson_store.specs.Refusals.{kind_of_fault}
use Rattle.store_model.specs.Refusal.{refusal}
use Rattle.bson_store.proofs.ManyLemmas.{rows_make, unadded, add_refused, add_wants, not_added, added}
use Rattle.bson_store.proofs.CrashLemmas.{accepted_leaves, denied_leaves}
use Rattle.bson_store.proofs.MoveLemmas.{moved, moved_twice}
use Rattle.bson_store.proofs.store.Store.add_all.Goals as goal
use Rattle.sqlite.specs.State.{HasCleanDisk}

pub returns-in_err-taken-clause-moves : goal.returns-in_err-taken-clause-moves
returns-in_err-taken-clause-moves g c =
    let n = name_bytes c.args.name in
    let rows = c.args.rows.now in
    let e = c.in_err-taken.field-0.0 in
    let p = err_from_is_err_and c.from_residual.result c.from_residual.ensures.1 in
    rw (p.1, p.2)
    (moved (store_state g.S.Store c.args.self.now) (store_state g.S.Store c.first_taken.new.self) (FindsTaken n rows (Err e)) (AddsAll n rows (Err e)) (rw c.as_str-collection.ensures.text at c.in_err-taken.ensures.moves)
    (λ docs after h. unadded docs after n rows e (rw c.as_str-collection.ensures.text at c.as_str-collection.ensures.named) h))

pub returns-in-Some-clause-moves : goal.returns-in-Some-clause-moves
returns-in-Some-clause-moves g c =
    let n = name_bytes c.args.name in
    let rows = c.args.rows.now in
    let o = c.in_ok-taken.taken in
    moved (store_state g.S.Store c.args.self.now) (store_state g.S.Store c.first_taken.new.self) (FindsTaken n rows (Ok o)) (AddsAll n rows (Err c.at.result)) (rw c.as_str-collection.ensures.text at c.in_ok-taken.ensures.moves)
    (λ docs after h. add_refused docs after n rows o c.in-Some.document c.at.result (rw c.as_str-collection.ensures.text at c.as_str-collection.ensures.named) c.in-Some.is c.at.ensures h)

pub returns-in_err-new-clause-moves : goal.returns-in_err-new-clause-moves
returns-in_err-new-clause-moves g c =
    let n = name_bytes c.args.name in
    let rows = c.args.rows.now in
    let o = c.in_ok-taken.taken in
    let e = refusal (kind_of_fault faults.Memory) in
    let p = err_from_is_err_and c.from_residual-in_err-new.result c.from_residual-in_err-new.ensures.1 in
    rw (p.1, p.2)
    (moved (store_state g.S.Store c.args.self.now) (store_state g.S.Store c.first_taken.new.self) (FindsTaken n rows (Ok o)) (AddsAll n rows (Err e)) (rw c.as_str-collection.ensures.text at c.in_ok-taken.ensures.moves)
    (λ docs after h. add_wants docs after n rows o e (rw c.as_str-collection.ensures.text at c.as_str-collection.ensures.named) refl h))

pub returns-clause-moves : goal.returns-clause-moves
returns-clause-moves g c =
    let n = name_bytes c.args.name in
    let rows = c.args.rows.now in
    let o = c.in_ok-taken.taken in
    let x = c.in-Err.fault in
    let e = refusal (kind_of_fault x) in
    rw c.fault_refusal.ensures
    (moved_twice (store_state g.S.Store c.args.self.now) (store_state g.S.Store c.first_taken.new.self) (store_state g.S.Store c.write_all.new.self) (FindsTaken n rows (Ok o)) (AddsRows (length c.in_ok-new.new.items) (with_rows n c.in_ok-new.new.items) (Err x)) (AddsAll n rows (Err e))
    (rw c.as_str-collection.ensures.text at c.in_ok-taken.ensures.moves) (rw (c.as_str-collection.ensures.text, c.as_slice.ensures.value) at c.in-Err.ensures.moves)
    (λ docs mid after h l. not_added docs mid after n c.in_ok-new.new.items rows o x e c.in_ok-new.ensures (rw c.as_str-collection.ensures.text at c.as_str-collection.ensures.named) c.in_default.is refl h l))

pub returns-in-Ok-clause-moves : goal.returns-in-Ok-clause-moves
returns-in-Ok-clause-moves g c =
    let n = name_bytes c.args.name in
    let rows = c.args.rows.now in
    let o = c.in_ok-taken.taken in
    moved_twice (store_state g.S.Store c.args.self.now) (store_state g.S.Store c.first_taken.new.self) (store_state g.S.Store c.write_all.new.self) (FindsTaken n rows (Ok o)) (AddsRows (length c.in_ok-new.new.items) (with_rows n c.in_ok-new.new.items) (Ok tt)) (AddsAll n rows (Ok c.len.result))
    (rw c.as_str-collection.ensures.text at c.in_ok-taken.ensures.moves) (rw (c.as_str-collection.ensures.text, c.as_slice.ensures.value) at c.in-Ok.ensures.moves)
    (λ docs mid after h l. added docs mid after n c.in_ok-new.new.items rows o c.len.result c.in_ok-new.ensures (rw c.as_str-collection.ensures.text at c.as_str-collection.ensures.named) (rw c.as_str-collection.ensures.text at c.as_str-collection.utf8) c.in_default.is
    (c.len.ensures ∙ c.in_ok-new.new.ok.0) h l)

pub returns-clause-crash : goal.returns-clause-crash
returns-clause-crash g c ds read fit written =
    let s = store_state g.S.Store c.args.self.now in
    let m = store_state g.S.Store c.first_taken.new.self in
    let t = store_state g.S.Store c.write_all.new.self in
    let n = name_bytes c.args.name in
    let rows = c.args.rows.now in
    let o = c.in_ok-taken.taken in
    rw c.fault_refusal.ensures
    (denied_leaves s m t (on n (import ds None)) (with_rows n c.in_ok-new.new.items) (FindsTaken n rows (Ok o)) (rw c.as_str-collection.ensures.text at c.in_ok-taken.ensures.moves)
    (λ docs after h. h.same) c.in_ok-taken.ensures.crash
    (λ docs after h. rows_make docs n ds c.in_ok-new.new.items rows c.in_ok-new.ensures (rw c.as_str-collection.ensures.text at c.as_str-collection.ensures.named) (rw c.as_str-collection.ensures.text at c.as_str-collection.utf8) (record { read = read; fit = fit; rows = written }) (sym c.in_default.is ∙ h.place))
    c.in-Err.fault (rw (c.as_str-collection.ensures.text, c.as_slice.ensures.value) at c.in-Err.ensures.crash) (λ e. c.in-Err.ensures.full (ap Err e)))

pub returns-in-Ok-clause-crash : goal.returns-in-Ok-clause-crash
returns-in-Ok-clause-crash g c ds read fit written =
    let s = store_state g.S.Store c.args.self.now in
    let m = store_state g.S.Store c.first_taken.new.self in
    let t = store_state g.S.Store c.write_all.new.self in
    let n = name_bytes c.args.name in
    let rows = c.args.rows.now in
    accepted_leaves s t (on n (import ds None)) (number c.len.result) (λ e. e)
    (λ clean docs stands. let y = (c.in_ok-taken.ensures.moves (omega (arith, clean, c.write_all.ensures.crash.clean))).1 docs stands in (c.in-Ok.ensures.open clean y.0 y.1).1)
    (λ db up may. g.met.S.Store.settled (store_connection c.write_all.new.self).store db up may)
    (moved s t (AddsAll n rows (Ok c.len.result)) (Does (on n (import ds None)) (number c.len.result)) (returns-in-Ok-clause-moves g c) (λ docs after h. h.does ds read fit written))

pub returns-in-Ok-clause-open : goal.returns-in-Ok-clause-open
returns-in-Ok-clause-open g c clean docs stands =
    let early : HasCleanDisk (store_state g.S.Store c.first_taken.new.self) = omega (arith, clean, c.write_all.ensures.crash.clean) in
    let y = (c.in_ok-taken.ensures.moves early).1 docs stands in
    let up = c.in-Ok.ensures.open clean y.0 y.1 in
    (c.in_ok-taken.ensures.open early docs stands up.0, up.1)
