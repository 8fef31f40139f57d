use Rattle.std.proofs.Common.{◌≡◌, List, [], map, IsOk}
use Rattle.sqlite.specs.Order.{Row}
use Rattle.sqlite.specs.State.{HasCleanDisk, IsUnchanged, Survives}
use Rattle.sqlite.specs.Held.{state}
use Rattle.sqlite.specs.Given.{HasGiven}
use Rattle.store_table.specs.Cells.{doc_of}
use Rattle.store_table.specs.Open.{all_text}
use Rattle.store_table.specs.Judged.{JudgesRow}
use Rattle.store_table.proofs.check.survey_into.Given as goal

abbrev pub invariant-rows : goal.invariant-rows
invariant-rows g l =
    let old = state g.S.Store l.fn.conn in
    let now = state g.S.Store l.rows.conn.now in
    record {
      same : l.rows.conn.ghost_name ≡ l.initial.rows.conn.ghost_name;
      survives : Survives old now (λ _. ⊥);
      given : HasCleanDisk now → (given : List Row) × HasGiven g.S.Store all_text [] l.rows.conn.now given × IsUnchanged old now × JudgesRow (g.J.TestsRows.accepts l.check) l.seen.keys l.last given l.verdict
          × (g.G.GathersRows.is_made_of l.check [] l.fn.gathered → IsOk l.verdict → g.G.GathersRows.is_made_of l.check (map doc_of given) l.gathered);
    }
