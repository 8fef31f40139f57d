use Rattle.std.proofs.Common.{◌≡◌, ◌+ℤ◌, ◌++◌, List, length, ℤ, pos, w64, to_z, of_z, ap, subst, ◌∙◌, arith}
use Rattle.std.proofs.lemmas.Int.{ints}
use Rattle.sqlite.specs.Held.{state}
use Rattle.sqlite.specs.State.{HasCleanDisk}
use Rattle.store_table.specs.Rows.{TableRow, HasRows, docs_from}
use Rattle.store_table.specs.Moves.{with_rows}
use Rattle.store_table.proofs.StatementLemmas.{unchanged_shows}
use Rattle.store_table.proofs.OthersLemmas.{shows_then, spared_then, still_others}
use Rattle.store_table.proofs.TableLemmas.{below_greatest, crash_written, left_rows, appends_err}
use Rattle.store_table.proofs.table.Table.append_all.Goals as goal

pub add_all-requires-clause-last : goal.add_all-requires-clause-last
add_all-requires-clause-last g c clean docs shows =
    let same : to_z w64 (of_z w64 c.in_ok-last.last) ≡ c.in_ok-last.last = omega (arith, ints) in
    below_greatest (state g.S.Store c.args.self.now.conn) (state g.S.Store c.greatest.new.conn) (to_z w64 (of_z w64 c.in_ok-last.last)) (c.in_ok-last.ensures.read clean).unchanged (λ ds h. same ∙ c.in_ok-last.ensures.place clean ds h) docs shows

pub returns-in_err-add_all-clause-crash : goal.returns-in_err-add_all-clause-crash
returns-in_err-add_all-clause-crash g c =
    let same : to_z w64 (of_z w64 c.in_ok-last.last) ≡ c.in_ok-last.last = omega (arith, ints) in
    let rows = c.args.rows.now in
    crash_written (state g.S.Store c.args.self.now.conn) (state g.S.Store c.greatest.new.conn) (state g.S.Store c.add_all.new.conn) (with_rows c.args.coll.now rows) (λ docs. docs ++ docs_from (to_z w64 (of_z w64 c.in_ok-last.last) +ℤ pos 1) c.args.coll.now rows)
    (λ clean. (c.in_ok-last.ensures.read clean).unchanged) c.greatest.ensures.crash c.add_all.ensures.crash
    (λ clean docs h. ap (λ (p : ℤ). docs ++ docs_from (p +ℤ pos 1) c.args.coll.now rows) (same ∙ c.in_ok-last.ensures.place clean docs h))

pub returns-clause-crash : goal.returns-clause-crash
returns-clause-crash g c =
    let same : to_z w64 (of_z w64 c.in_ok-last.last) ≡ c.in_ok-last.last = omega (arith, ints) in
    let rows = c.args.rows.now in
    crash_written (state g.S.Store c.args.self.now.conn) (state g.S.Store c.greatest.new.conn) (state g.S.Store c.add_all.new.conn) (with_rows c.args.coll.now rows) (λ docs. docs ++ docs_from (to_z w64 (of_z w64 c.in_ok-last.last) +ℤ pos 1) c.args.coll.now rows)
    (λ clean. (c.in_ok-last.ensures.read clean).unchanged) c.greatest.ensures.crash c.add_all.ensures.crash
    (λ clean docs h. ap (λ (p : ℤ). docs ++ docs_from (p +ℤ pos 1) c.args.coll.now rows) (same ∙ c.in_ok-last.ensures.place clean docs h))

pub returns-clause-settled : goal.returns-clause-settled
returns-clause-settled g c clean first docs beside stands db may =
    let old = state g.S.Store c.args.self.now.conn in
    let mid = state g.S.Store c.greatest.new.conn in
    let new = state g.S.Store c.add_all.new.conn in
    let rows = c.args.rows.now in
    let same : to_z w64 (of_z w64 c.in_ok-last.last) ≡ c.in_ok-last.last = omega (arith, ints) in
    let early : HasCleanDisk mid = omega (arith, clean, c.add_all.ensures.crash.clean) in
    let u = (c.in_ok-last.ensures.read early).unchanged in
    let h = stands u.0.was_open in
    let before = unchanged_shows old mid docs h u in
    let shows = c.in_ok-add_all.ensures.added clean docs before in
    let spared = spared_then first mid.now new.now (shows_then first old mid beside (still_others old mid u) u.0.is_open) (c.in_ok-add_all.ensures.spared clean docs before) in
    subst (λ (ds : List TableRow). HasRows first db ds) (ap (λ (p : ℤ). docs ++ docs_from (p +ℤ pos 1) c.args.coll.now rows) (same ∙ c.in_ok-last.ensures.place early docs h))
    (left_rows first new _ db shows spared (g.met.S.Store.settled c.add_all.new.conn.store db shows.is_open may))

pub returns-in_err-last-clause-moves : goal.returns-in_err-last-clause-moves
returns-in_err-last-clause-moves g c clean = (
  omega (arith, clean, c.greatest.ensures.crash.clean),
  λ docs stands. (
    docs,
    (λ still. let it = (c.in_err-last.ensures.read clean).refused still in it.1 docs (stands it.0)),
    appends_err (length c.args.rows.now) (with_rows c.args.coll.now c.args.rows.now) docs c.from_residual.result c.in_err-last.field-0.0 c.from_residual.ensures.1,
    (c.in_err-last.ensures.read clean).others docs stands,
  ),
)
