use Rattle.std.proofs.Common.{◌≡◌, w64, to_z, of_z, refl, ◌∙◌, arith}
use Rattle.std.proofs.lemmas.Int.{ints}
use Rattle.sqlite.specs.Held.{state}
use Rattle.sqlite.specs.State.{HasCleanDisk}
use Rattle.store_table.specs.Change.{with_changes}
use Rattle.store_table.proofs.StatementLemmas.{unchanged_shows}
use Rattle.store_table.proofs.OthersLemmas.{shows_then, spared_then, still_others, others_after, refused_others}
use Rattle.store_table.proofs.TableLemmas.{below_greatest, crash_written, left_rows, changes_err}
use Rattle.store_table.proofs.table.Table.change_all.Goals as goal

pub change_all-requires : goal.change_all-requires
change_all-requires g c = record {
  last = λ clean docs shows.
      let same : to_z w64 (of_z w64 c.in_ok-last.last) ≡ c.in_ok-last.last = omega (arith, ints) in
      below_greatest (state g.S.Store c.args.self.now.conn) (state g.S.Store c.greatest.new.conn) (to_z w64 (of_z w64 c.in_ok-last.last)) (c.in_ok-last.ensures.read clean).unchanged (λ ds h. same ∙ c.in_ok-last.ensures.place clean ds h) docs shows;
}

pub returns-in_err-change_all-clause-moves : goal.returns-in_err-change_all-clause-moves
returns-in_err-change_all-clause-moves g c clean =
    let old = state g.S.Store c.args.self.now.conn in
    let mid = state g.S.Store c.greatest.new.conn in
    let new = state g.S.Store c.change_all.new.conn in
    let early : HasCleanDisk mid = omega (arith, clean, c.change_all.ensures.crash.clean) in
    let u = (c.in_ok-last.ensures.read early).unchanged in (
      omega (arith, early, c.greatest.ensures.crash.clean),
      λ docs stands.
          let before = unchanged_shows old mid docs (stands u.0.was_open) u in (
            docs,
            c.in_err-change_all.ensures.refused clean docs before,
            changes_err (with_changes c.args.changes.now) docs c.from_residual-in_err-change_all.result c.in_err-change_all.field-0.0 c.from_residual-in_err-change_all.ensures.1,
            others_after old mid new u (refused_others mid new docs (λ _. u.0.is_open) (c.in_err-change_all.ensures.kept clean) (λ _. before)),
          ),
    )

pub returns-in_err-change_all-clause-crash : goal.returns-in_err-change_all-clause-crash
returns-in_err-change_all-clause-crash g c =
    crash_written (state g.S.Store c.args.self.now.conn) (state g.S.Store c.greatest.new.conn) (state g.S.Store c.change_all.new.conn) (with_changes c.args.changes.now) (with_changes c.args.changes.now)
    (λ clean. (c.in_ok-last.ensures.read clean).unchanged) c.greatest.ensures.crash c.change_all.ensures.crash (λ clean docs h. refl)

pub returns-clause-crash : goal.returns-clause-crash
returns-clause-crash g c =
    crash_written (state g.S.Store c.args.self.now.conn) (state g.S.Store c.greatest.new.conn) (state g.S.Store c.change_all.new.conn) (with_changes c.args.changes.now) (with_changes c.args.changes.now)
    (λ clean. (c.in_ok-last.ensures.read clean).unchanged) c.greatest.ensures.crash c.change_all.ensures.crash (λ clean docs h. refl)

pub returns-clause-settled : goal.returns-clause-settled
returns-clause-settled g c clean first docs beside stands db may =
    let old = state g.S.Store c.args.self.now.conn in
    let mid = state g.S.Store c.greatest.new.conn in
    let new = state g.S.Store c.change_all.new.conn in
    let early : HasCleanDisk mid = omega (arith, clean, c.change_all.ensures.crash.clean) in
    let u = (c.in_ok-last.ensures.read early).unchanged in
    let h = stands u.0.was_open in
    let before = unchanged_shows old mid docs h u in
    let shows = c.in_ok-change_all.ensures.done clean docs before in
    let spared = spared_then first mid.now new.now (shows_then first old mid beside (still_others old mid u) u.0.is_open) (c.in_ok-change_all.ensures.spared clean docs before) in
    left_rows first new _ db shows spared (g.met.S.Store.settled c.change_all.new.conn.store db shows.is_open may)

pub returns-in_err-last-clause-moves : goal.returns-in_err-last-clause-moves
returns-in_err-last-clause-moves g c clean = (
  omega (arith, clean, c.greatest.ensures.crash.clean),
  λ docs stands. (
    docs,
    (λ still. let it = (c.in_err-last.ensures.read clean).refused still in it.1 docs (stands it.0)),
    changes_err (with_changes c.args.changes.now) docs c.from_residual.result c.in_err-last.field-0.0 c.from_residual.ensures.1,
    (c.in_err-last.ensures.read clean).others docs stands,
  ),
)
