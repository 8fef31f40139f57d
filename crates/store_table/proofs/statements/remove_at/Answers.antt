use Rattle.std.proofs.Common.{◌≡◌, [], ◌∷◌, w64, to_z, of_z, arith}
use Rattle.std.proofs.lemmas.Int.{to_z-of_z}
use Rattle.sqlite.specs.declared.types.Value.TheVariants.{Int}
use Rattle.sqlite.specs.Held.{state}
use Rattle.sqlite.specs.State.{HasCleanDisk, Executes, CommitsBy}
use Rattle.store_table.specs.Rows.{without_place}
use Rattle.store_table.proofs.ChangeLemmas.{removes, remove_commits}
use Rattle.store_table.proofs.WrittenLemmas.{not_prepared, not_prepared_others, written_by, written_err, crash_before, crash_after}
use Rattle.store_table.proofs.TextLemmas.{delete_text}
use Rattle.store_table.proofs.statements.remove_at.Goals as goal

pub returns-clause-written : goal.returns-clause-written
returns-clause-written g c clean =
    let old = state g.S.Store c.args.conn.now in
    let mid = state g.S.Store c.prepare.new.self in
    let new = state g.S.Store c.execute.new.conn in
    let same : to_z w64 (of_z w64 c.args.place) ≡ c.args.place = to_z-of_z w64 c.args.place c.ranges.place in
    let early : HasCleanDisk mid = omega (arith, clean, c.execute.ensures.survives.clean) in
    let made = c.in_ok-statement.ensures.ok early in
    let ran : Executes delete_text (Int c.args.place ∷ []) mid new c.execute.result = rw (made.0, same) at (c.execute.ensures.runs clean) in
    written_by delete_text (Int c.args.place ∷ []) old new mid (without_place c.args.place) made.1 c.execute.result ran (λ docs shows. removes c.args.place mid new docs shows c.execute.result ran)

pub returns-clause-crash : goal.returns-clause-crash
returns-clause-crash g c =
    let old = state g.S.Store c.args.conn.now in
    let mid = state g.S.Store c.prepare.new.self in
    let new = state g.S.Store c.execute.new.conn in
    let same : to_z w64 (of_z w64 c.args.place) ≡ c.args.place = to_z-of_z w64 c.args.place c.ranges.place in
    crash_after old mid new _ (without_place c.args.place) (λ clean. (c.in_ok-statement.ensures.ok clean).1) c.prepare.ensures.survives c.execute.ensures.survives
    (λ early docs shows db commits.
    let made = c.in_ok-statement.ensures.ok early in
    let it : CommitsBy delete_text (Int c.args.place ∷ []) mid db = rw (made.0, same) at commits in
    remove_commits c.args.place mid new docs shows db it)

pub returns-in_err-statement-clause-written : goal.returns-in_err-statement-clause-written
returns-in_err-statement-clause-written g c clean =
    let old = state g.S.Store c.args.conn.now in
    let new = state g.S.Store c.prepare.new.self in
    written_err old new (without_place c.args.place) c.from_residual.result c.from_residual.ensures.0 (not_prepared _ [] old new _ (c.in_err-statement.ensures.err clean [])) (not_prepared_others _ [] old new _ (c.in_err-statement.ensures.err clean []))

pub returns-in_err-statement-clause-crash : goal.returns-in_err-statement-clause-crash
returns-in_err-statement-clause-crash g c =
    let old = state g.S.Store c.args.conn.now in
    let new = state g.S.Store c.prepare.new.self in
    crash_before old new (without_place c.args.place) c.prepare.ensures.survives
