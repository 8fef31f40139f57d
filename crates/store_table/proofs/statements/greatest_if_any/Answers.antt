use Rattle.std.proofs.Common.{[], ap, ◌∙◌, rules}
use Rattle.sqlite.specs.Held.{state}
use Rattle.store_table.specs.Cells.{int_in}
use Rattle.store_table.proofs.AnyLemmas.{row_same, no_rows, row_refused, row_others, shown_same, leaves_nothing}
use Rattle.store_table.proofs.LastLemmas.{greatest_text, greatest_asks, greatest_row, greatest_none}
use Rattle.store_table.proofs.statements.greatest_if_any.Goals as goal

pub returns-in-Ok-clause-place : goal.returns-in-Ok-clause-place
returns-in-Ok-clause-place g c clean docs shows =
    let it = greatest_row (state g.S.Store c.args.conn.now) (state g.S.Store c.query_row.new.self) docs shows c.in-Ok.row (c.in-Ok.ensures.row clean) in
    let read = c.place_in.ensures ∙ ap int_in it.1 in
    (it.0, search rules)

pub returns-in-Ok-clause-read : goal.returns-in-Ok-clause-read
returns-in-Ok-clause-read g c clean =
    record { unchanged = row_same greatest_text greatest_asks [] (state g.S.Store c.args.conn.now) (state g.S.Store c.query_row.new.self) c.in-Ok.row (c.in-Ok.ensures.row clean); refused = tt; others = tt }

pub returns-in-Ok-clause-crash : goal.returns-in-Ok-clause-crash
returns-in-Ok-clause-crash g c = leaves_nothing greatest_text greatest_asks [] _ _ c.query_row.ensures.survives

pub returns-in-Err-QueryReturnedNoRows-clause-place : goal.returns-in-Err-QueryReturnedNoRows-clause-place
returns-in-Err-QueryReturnedNoRows-clause-place g c clean docs shows =
    let old = state g.S.Store c.args.conn.now in
    let new = state g.S.Store c.query_row.new.self in
    greatest_none old new docs shows (no_rows greatest_text greatest_asks [] old new (rw c.in-Err-QueryReturnedNoRows.field-0-is at (c.in-Err-QueryReturnedNoRows.ensures.row clean)))

pub returns-in-Err-QueryReturnedNoRows-clause-read : goal.returns-in-Err-QueryReturnedNoRows-clause-read
returns-in-Err-QueryReturnedNoRows-clause-read g c clean =
    let old = state g.S.Store c.args.conn.now in
    let new = state g.S.Store c.query_row.new.self in
    record { unchanged = shown_same greatest_text greatest_asks [] old new [] (no_rows greatest_text greatest_asks [] old new (rw c.in-Err-QueryReturnedNoRows.field-0-is at (c.in-Err-QueryReturnedNoRows.ensures.row clean))); refused = tt; others = tt }

pub returns-in-Err-QueryReturnedNoRows-clause-crash : goal.returns-in-Err-QueryReturnedNoRows-clause-crash
returns-in-Err-QueryReturnedNoRows-clause-crash g c = leaves_nothing greatest_text greatest_asks [] _ _ c.query_row.ensures.survives

pub returns-in-Err-clause-read : goal.returns-in-Err-clause-read
returns-in-Err-clause-read g c clean =
    let old = state g.S.Store c.args.conn.now in
    let new = state g.S.Store c.query_row.new.self in
    let row = c.in-Err.ensures.row clean in
    record { unchanged = tt; refused = row_refused greatest_text greatest_asks [] old new c.in-Err.error row; others = row_others greatest_text greatest_asks [] old new c.in-Err.error row }

pub returns-in-Err-clause-crash : goal.returns-in-Err-clause-crash
returns-in-Err-clause-crash g c = leaves_nothing greatest_text greatest_asks [] _ _ c.query_row.ensures.survives
