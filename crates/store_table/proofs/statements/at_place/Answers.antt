use Rattle.std.proofs.Common.{w64, to_z, of_z, ◌≡◌}
use Rattle.std.proofs.lemmas.Int.{to_z-of_z}
use Rattle.std.proofs.lemmas.Result.{IfOk-weaker}
use Rattle.sqlite.specs.Held.{state}
use Rattle.store_table.proofs.AnyLemmas.{is_read, leaves_nothing}
use Rattle.store_table.proofs.ReadLemmas.{rows_at}
use Rattle.store_table.proofs.TextLemmas.{at_text, at_asks}
use Rattle.store_table.proofs.statements.at_place.Goals as goal

pub returns-clause-rows : goal.returns-clause-rows
returns-clause-rows g c clean docs shows =
    let same : to_z w64 (of_z w64 c.args.place) ≡ c.args.place = to_z-of_z w64 c.args.place c.ranges.place in
    IfOk-weaker c.query_all.result _ _ (λ rows h. rows_at c.args.place (state g.S.Store c.args.conn.now) (state g.S.Store c.query_all.new.self) docs rows.items shows h) (rw same at (c.query_all.ensures.ok clean))

pub returns-clause-read : goal.returns-clause-read
returns-clause-read g c clean = is_read at_text at_asks _ (state g.S.Store c.args.conn.now) (state g.S.Store c.query_all.new.self) (λ rows. rows.items) c.query_all.result (c.query_all.ensures.ok clean) (c.query_all.ensures.err clean)

pub returns-clause-crash : goal.returns-clause-crash
returns-clause-crash g c = leaves_nothing at_text at_asks _ (state g.S.Store c.args.conn.now) (state g.S.Store c.query_all.new.self) c.query_all.ensures.survives
