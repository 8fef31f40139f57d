use Rattle.std.proofs.Common.{◌≡◌, ℤ, Ok, w64, to_z, of_z, subst, arith}
use Rattle.std.proofs.lemmas.Int.{ints}
use Rattle.sqlite.specs.Held.{state}
use Rattle.sqlite.specs.State.{Survives}
use Rattle.store_table.specs.Rows.{HasRows, with_body_at}
use Rattle.store_table.specs.Moves.{MayLeave}
use Rattle.store_table.proofs.TableLemmas.{left_written, changes_err}
use Rattle.store_table.proofs.table.Table.rewrite_at.Goals as goal

pub returns-in_err-rewrite_at-clause-crash : goal.returns-in_err-rewrite_at-clause-crash
returns-in_err-rewrite_at-clause-crash g c =
    let old = state g.S.Store c.args.self.now.conn in
    let new = state g.S.Store c.rewrite_at.new.conn in
    let same : to_z w64 (of_z w64 c.args.found.now.place) ≡ c.args.found.now.place = omega (arith, ints) in
    subst (λ (p : ℤ). Survives old new (MayLeave (with_body_at p c.args.body.now) old)) same c.rewrite_at.ensures.crash

pub returns-clause-crash : goal.returns-clause-crash
returns-clause-crash g c =
    let old = state g.S.Store c.args.self.now.conn in
    let new = state g.S.Store c.rewrite_at.new.conn in
    let same : to_z w64 (of_z w64 c.args.found.now.place) ≡ c.args.found.now.place = omega (arith, ints) in
    subst (λ (p : ℤ). Survives old new (MayLeave (with_body_at p c.args.body.now) old)) same c.rewrite_at.ensures.crash

pub returns-clause-settled : goal.returns-clause-settled
returns-clause-settled g c clean first docs beside stands db may =
    let old = state g.S.Store c.args.self.now.conn in
    let new = state g.S.Store c.rewrite_at.new.conn in
    let same : to_z w64 (of_z w64 c.args.found.now.place) ≡ c.args.found.now.place = omega (arith, ints) in
    let left = left_written first old new _ (Ok c.in_ok-rewrite_at.field-0) docs beside stands (c.in_ok-rewrite_at.ensures.written clean) in
    subst (λ (p : ℤ). HasRows first db (with_body_at p c.args.body.now docs)) same (left db (λ up. g.met.S.Store.settled c.rewrite_at.new.conn.store db up may))

pub returns-in_err-rewrite_at-clause-moves : goal.returns-in_err-rewrite_at-clause-moves
returns-in_err-rewrite_at-clause-moves g c clean = (
  omega (arith, clean, c.rewrite_at.ensures.crash.clean),
  λ docs stands. (
    docs,
    (λ still. let it = (c.in_err-rewrite_at.ensures.written clean).refused still in it.1 docs (stands it.0)),
    changes_err (with_body_at c.args.found.now.place c.args.body.now) docs c.from_residual.result c.in_err-rewrite_at.field-0.0 c.from_residual.ensures.1,
    (c.in_err-rewrite_at.ensures.written clean).others docs stands,
  ),
)
