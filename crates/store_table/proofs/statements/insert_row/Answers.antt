use Rattle.std.proofs.Common.{◌≡◌, w64, to_z, of_z}
use Rattle.std.proofs.lemmas.Int.{to_z-of_z}
use Rattle.sqlite.specs.Held.{state}
use Rattle.sqlite.specs.State.{HasCleanDisk, Executes}
use Rattle.sqlite.proofs.StateLemmas.{unchanged}
use Rattle.store_table.specs.Rows.{TableRow}
use Rattle.store_table.proofs.InsertLemmas.{add_ok, add_crash, given}
use Rattle.store_table.proofs.WrittenLemmas.{written_by}
use Rattle.store_table.proofs.TextLemmas.{insert_text}
use Rattle.store_table.proofs.statements.insert_row.Goals as goal

pub returns-clause-written : goal.returns-clause-written
returns-clause-written g c clean was =
    let d : TableRow = record { place = c.args.place; coll = c.args.coll.now; idkey = c.args.idkey.now; body = c.args.body.now } in
    let old = state g.S.Store c.args.conn.now in
    let new = state g.S.Store c.execute.new.self in
    let same : to_z w64 (of_z w64 c.args.place) ≡ c.args.place = to_z-of_z w64 c.args.place c.ranges.place in
    let ran : HasCleanDisk new → Executes insert_text (given d) old new c.execute.result = rw (c.as_bytes.ensures.value, same) at c.execute.ensures.runs in
    written_by insert_text (given d) old new old _ (unchanged old was) c.execute.result (ran clean) (λ docs shows. add_ok d old new c.execute.result c.execute.ensures.survives.clean c.requires.last ran clean docs shows)

pub returns-clause-crash : goal.returns-clause-crash
returns-clause-crash g c =
    let d : TableRow = record { place = c.args.place; coll = c.args.coll.now; idkey = c.args.idkey.now; body = c.args.body.now } in
    let same : to_z w64 (of_z w64 c.args.place) ≡ c.args.place = to_z-of_z w64 c.args.place c.ranges.place in
    add_crash d (state g.S.Store c.args.conn.now) (state g.S.Store c.execute.new.self) c.execute.result c.execute.ensures.survives.clean c.requires.last (rw (c.as_bytes.ensures.value, same) at c.execute.ensures.survives)
