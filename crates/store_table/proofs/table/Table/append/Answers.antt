use Rattle.std.proofs.Common.{◌≡◌, ◌+ℤ◌, ◌<ℤ◌, ◌^◌, ◌++◌, ◌∷◌, [], ℤ, pos, w64, to_z, of_z, subst, sym, ap, ◌∙◌, arith, refl}
use Rattle.std.proofs.lemmas.Int.{ints}
use Rattle.sqlite.specs.Held.{state}
use Rattle.sqlite.specs.State.{HasCleanDisk}
use Rattle.store_table.specs.Rows.{AreBelow}
use Rattle.store_table.specs.Moves.{with_row}
use Rattle.store_table.proofs.OthersLemmas.{others_after, shows_then}
use Rattle.store_table.proofs.TableLemmas.{stands_still, below_greatest, crash_written, appends_err, added_shows, left_rows}
use Rattle.store_table.proofs.table.Table.append.Goals as goal

pub add_committed-requires : goal.add_committed-requires
add_committed-requires g c =
    let Q : ℤ = to_z w64 (of_z w64 c.in-Some.place) in
    let sum = rw c.in-Some.is at c.checked_add.ensures in
    let same : Q ≡ (c.in_ok-last.last +ℤ pos 1) = omega (arith, ints, sum.0, sum.1) in
    record { last = λ clean docs shows. subst (λ (p : ℤ). AreBelow p docs) (sym same) (below_greatest (state g.S.Store c.args.self.now.conn) (state g.S.Store c.greatest.new.conn) c.in_ok-last.last (c.in_ok-last.ensures.read clean).unchanged (λ ds h. c.in_ok-last.ensures.place clean ds h) docs shows) }

pub returns-in_err-add_committed-clause-moves : goal.returns-in_err-add_committed-clause-moves
returns-in_err-add_committed-clause-moves g c clean =
    let old = state g.S.Store c.args.self.now.conn in
    let mid = state g.S.Store c.greatest.new.conn in
    let early : HasCleanDisk mid = omega (arith, clean, c.add_committed.ensures.crash.clean) in
    let u = (c.in_ok-last.ensures.read early).unchanged in
    let w = c.in_err-add_committed.ensures.written clean u.0.is_open in (
      omega (arith, clean, c.add_committed.ensures.crash.clean, c.greatest.ensures.crash.clean),
      λ docs stands. (
        docs,
        (λ still. let it = w.refused still in it.1 docs (stands_still old mid docs u stands it.0)),
        appends_err 1 (with_row c.args.coll.now c.args.idkey.now c.args.body.now) docs c.from_residual-in_err-add_committed.result c.in_err-add_committed.field-0.0 c.from_residual-in_err-add_committed.ensures.1,
        others_after old mid (state g.S.Store c.add_committed.new.conn) u (w.others docs (stands_still old mid docs u stands)),
      ),
    )

pub returns-in_err-add_committed-clause-crash : goal.returns-in_err-add_committed-clause-crash
returns-in_err-add_committed-clause-crash g c =
    let Q : ℤ = to_z w64 (of_z w64 c.in-Some.place) in
    let sum = rw c.in-Some.is at c.checked_add.ensures in
    let same : Q ≡ (c.in_ok-last.last +ℤ pos 1) = omega (arith, ints, sum.0, sum.1) in
    crash_written (state g.S.Store c.args.self.now.conn) (state g.S.Store c.greatest.new.conn) (state g.S.Store c.add_committed.new.conn) (with_row c.args.coll.now c.args.idkey.now c.args.body.now)
    (λ docs. docs ++ record { place = Q; coll = c.args.coll.now; idkey = c.args.idkey.now; body = c.args.body.now } ∷ [])
    (λ clean. (c.in_ok-last.ensures.read clean).unchanged) c.greatest.ensures.crash c.add_committed.ensures.crash
    (λ clean docs h. ap (λ (p : ℤ). docs ++ record { place = p; coll = c.args.coll.now; idkey = c.args.idkey.now; body = c.args.body.now } ∷ []) (same ∙ ap (λ (p : ℤ). p +ℤ pos 1) (c.in_ok-last.ensures.place clean docs h)))

pub returns-clause-moves : goal.returns-clause-moves
returns-clause-moves g c clean =
    let old = state g.S.Store c.args.self.now.conn in
    let mid = state g.S.Store c.greatest.new.conn in
    let new = state g.S.Store c.add_committed.new.conn in
    let Q : ℤ = to_z w64 (of_z w64 c.in-Some.place) in
    let sum = rw c.in-Some.is at c.checked_add.ensures in
    let same : Q ≡ (c.in_ok-last.last +ℤ pos 1) = omega (arith, ints, sum.0, sum.1) in
    let fits : (c.in_ok-last.last +ℤ pos 1) <ℤ pos (2 ^ 63) = omega (arith, ints, sum.0, sum.1) in
    let early : HasCleanDisk mid = omega (arith, clean, c.add_committed.ensures.crash.clean) in
    let u = (c.in_ok-last.ensures.read early).unchanged in
    let w = c.in_ok-add_committed.ensures.written clean u.0.is_open in (
      omega (arith, clean, c.add_committed.ensures.crash.clean, c.greatest.ensures.crash.clean),
      λ docs stands.
          let h = stands u.0.was_open in
          let greatest = c.in_ok-last.ensures.place early docs h in (
            with_row c.args.coll.now c.args.idkey.now c.args.body.now docs,
            (λ _. added_shows old mid new c.in_ok-last.last Q c.args.coll.now c.args.idkey.now c.args.body.now docs u h greatest same (w.done.1 docs)),
            record { done = refl; room = subst (λ (p : ℤ). (p +ℤ pos 1) <ℤ pos (2 ^ 63)) greatest fits; refused = tt; full = tt },
            others_after old mid new u (w.others docs (stands_still old mid docs u stands)),
          ),
    )

pub returns-clause-crash : goal.returns-clause-crash
returns-clause-crash g c =
    let Q : ℤ = to_z w64 (of_z w64 c.in-Some.place) in
    let sum = rw c.in-Some.is at c.checked_add.ensures in
    let same : Q ≡ (c.in_ok-last.last +ℤ pos 1) = omega (arith, ints, sum.0, sum.1) in
    crash_written (state g.S.Store c.args.self.now.conn) (state g.S.Store c.greatest.new.conn) (state g.S.Store c.add_committed.new.conn) (with_row c.args.coll.now c.args.idkey.now c.args.body.now)
    (λ docs. docs ++ record { place = Q; coll = c.args.coll.now; idkey = c.args.idkey.now; body = c.args.body.now } ∷ [])
    (λ clean. (c.in_ok-last.ensures.read clean).unchanged) c.greatest.ensures.crash c.add_committed.ensures.crash
    (λ clean docs h. ap (λ (p : ℤ). docs ++ record { place = p; coll = c.args.coll.now; idkey = c.args.idkey.now; body = c.args.body.now } ∷ []) (same ∙ ap (λ (p : ℤ). p +ℤ pos 1) (c.in_ok-last.ensures.place clean docs h)))

pub returns-clause-settled : goal.returns-clause-settled
returns-clause-settled g c clean first docs beside stands db may =
    let old = state g.S.Store c.args.self.now.conn in
    let mid = state g.S.Store c.greatest.new.conn in
    let new = state g.S.Store c.add_committed.new.conn in
    let Q : ℤ = to_z w64 (of_z w64 c.in-Some.place) in
    let sum = rw c.in-Some.is at c.checked_add.ensures in
    let same : Q ≡ (c.in_ok-last.last +ℤ pos 1) = omega (arith, ints, sum.0, sum.1) in
    let early : HasCleanDisk mid = omega (arith, clean, c.add_committed.ensures.crash.clean) in
    let u = (c.in_ok-last.ensures.read early).unchanged in
    let w = c.in_ok-add_committed.ensures.written clean u.0.is_open in
    let h = stands u.0.was_open in
    let shows = added_shows old mid new c.in_ok-last.last Q c.args.coll.now c.args.idkey.now c.args.body.now docs u h (c.in_ok-last.ensures.place early docs h) same (w.done.1 docs) in
    let others = others_after old mid new u (w.others docs (stands_still old mid docs u stands)) in
    left_rows first new _ db shows (shows_then first old new beside others shows.is_open) (g.met.S.Store.settled c.add_committed.new.conn.store db shows.is_open may)

pub returns-in_err-last-clause-moves : goal.returns-in_err-last-clause-moves
returns-in_err-last-clause-moves g c clean = (
  omega (arith, clean, c.greatest.ensures.crash.clean),
  λ docs stands. (
    docs,
    (λ still. let it = (c.in_err-last.ensures.read clean).refused still in it.1 docs (stands it.0)),
    appends_err 1 (with_row c.args.coll.now c.args.idkey.now c.args.body.now) docs c.from_residual.result c.in_err-last.field-0.0 c.from_residual.ensures.1,
    (c.in_err-last.ensures.read clean).others docs stands,
  ),
)
