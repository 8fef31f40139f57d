use Rattle.std.proofs.lemmas.Result.{IfOk-weaker}
use Rattle.sqlite.specs.Held.{state}
use Rattle.store_table.proofs.AnyLemmas.{is_read, leaves_nothing}
use Rattle.store_table.proofs.ReadLemmas.{named_places}
use Rattle.store_table.proofs.TextLemmas.{places_text, places_asks}
use Rattle.store_table.proofs.statements.places.Goals as goal

pub returns-clause-rows : goal.returns-clause-rows
returns-clause-rows g c clean docs shows =
    IfOk-weaker c.query_all.result _ _ (λ rows h. named_places c.args.coll.now c.args.idkey.now (state g.S.Store c.args.conn.now) (state g.S.Store c.query_all.new.self) docs rows.items shows h) (rw c.as_bytes.ensures.value at (c.query_all.ensures.ok clean))

pub returns-clause-read : goal.returns-clause-read
returns-clause-read g c clean = is_read places_text places_asks _ (state g.S.Store c.args.conn.now) (state g.S.Store c.query_all.new.self) (λ rows. rows.items) c.query_all.result (c.query_all.ensures.ok clean) (c.query_all.ensures.err clean)

pub returns-clause-crash : goal.returns-clause-crash
returns-clause-crash g c = leaves_nothing places_text places_asks _ (state g.S.Store c.args.conn.now) (state g.S.Store c.query_all.new.self) c.query_all.ensures.survives
