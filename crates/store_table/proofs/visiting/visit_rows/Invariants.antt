use Rattle.std.proofs.Common.{◌≡◌, List, [], false}
use Rattle.sqlite.specs.Order.{Row}
use Rattle.sqlite.specs.Values.{bound}
use Rattle.sqlite.specs.State.{HasCleanDisk, IsUnchanged, Survives}
use Rattle.sqlite.specs.Held.{state}
use Rattle.sqlite.specs.Given.{HasGiven}
use Rattle.store_table.proofs.visiting.visit_rows.Given as goal

abbrev pub invariant-rows : goal.invariant-rows
invariant-rows g l =
    let old = state g.S.Store l.fn.conn in
    let now = state g.S.Store l.rows.conn.now in
    record {
      same : l.rows.conn.ghost_name ≡ l.initial.rows.conn.ghost_name;
      stopped : l.wants ≡ false → g.T.TakeRow.is_done l.visitor;
      taken : g.T.TakeRow.took l.fn.visitor l.fn.visitor [] → (rows : List Row) × g.T.TakeRow.took l.fn.visitor l.visitor rows;
      survives : Survives old now (λ _. ⊥);
      given : HasCleanDisk now → (given : List Row) × HasGiven g.S.Store l.sql (bound l.params) l.rows.conn.now given × IsUnchanged old now × (g.T.TakeRow.took l.fn.visitor l.fn.visitor [] → g.T.TakeRow.took l.fn.visitor l.visitor given);
    }
