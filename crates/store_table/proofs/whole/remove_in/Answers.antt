use Rattle.std.proofs.Common.{◌≡◌, [], w64, to_z, of_z}
use Rattle.std.proofs.lemmas.Int.{to_z-of_z}
use Rattle.sqlite.specs.Held.{state}
use Rattle.store_table.proofs.InsertLemmas.{put_refused}
use Rattle.store_table.proofs.KeyLemmas.{still_committed, still_inside}
use Rattle.store_table.proofs.TextLemmas.{delete_text}
use Rattle.store_table.proofs.WholeLemmas.{remove_done, remove_spared}
use Rattle.store_table.specs.Rows.{TableRow}
use Rattle.store_table.proofs.whole.remove_in.Goals as goal

pub returns-clause-done : goal.returns-clause-done
returns-clause-done g c clean first docs inside =
    let same : to_z w64 (of_z w64 c.args.place) ≡ c.args.place = to_z-of_z w64 c.args.place c.ranges.place in
    remove_done c.args.place (state g.S.Store c.args.tx.now.conn.now) (state g.S.Store c.execute.new.self.conn.now) first docs inside c.execute.result (rw same at (c.execute.ensures.runs clean inside.mode))

pub returns-clause-spared : goal.returns-clause-spared
returns-clause-spared g c clean first docs inside =
    let same : to_z w64 (of_z w64 c.args.place) ≡ c.args.place = to_z-of_z w64 c.args.place c.ranges.place in
    remove_spared c.args.place (state g.S.Store c.args.tx.now.conn.now) (state g.S.Store c.execute.new.self.conn.now) first docs inside c.execute.result (rw same at (c.execute.ensures.runs clean inside.mode))

pub returns-clause-refused : goal.returns-clause-refused
returns-clause-refused g c clean first docs inside =
    let d : TableRow = record { place = c.args.place; coll = []; idkey = []; body = [] } in
    put_refused d (state g.S.Store c.args.tx.now.conn.now) (state g.S.Store c.execute.new.self.conn.now) first docs inside delete_text _ c.execute.result (c.execute.ensures.runs clean inside.mode)

pub returns-clause-inside : goal.returns-clause-inside
returns-clause-inside g c clean inside = still_inside delete_text _ (state g.S.Store c.args.tx.now.conn.now) (state g.S.Store c.execute.new.self.conn.now) c.execute.result (c.execute.ensures.runs clean inside)

pub returns-clause-committed : goal.returns-clause-committed
returns-clause-committed g c clean inside = still_committed delete_text _ (state g.S.Store c.args.tx.now.conn.now) (state g.S.Store c.execute.new.self.conn.now) c.execute.result (c.execute.ensures.runs clean inside)
