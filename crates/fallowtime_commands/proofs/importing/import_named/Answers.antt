use Rattle.std.proofs.Common.{◌∙◌}
use Rattle.bson_store.specs.Calls.{store_state}
use Rattle.fallowtime_commands.proofs.EnterLemmas.{imported_leaves, imported_moves}
use Rattle.fallowtime_commands.proofs.importing.import_named.Goals as goal

pub returns-in-Ok-clause-moves : goal.returns-in-Ok-clause-moves
returns-in-Ok-clause-moves g c =
    imported_moves c.args.stays c.args.name.now c.args.stream.now (store_state g.S.Store c.args.store.now) (store_state g.S.Store c.make-done.new.store) c.in-Ok.edits.items c.len.result c.make-done.result c.requires
    (c.len.ensures ∙ c.in-Ok.edits.ok.0) c.in-Ok.ensures (rw c.as_slice.ensures.value at c.make-done.ensures.moves)

pub returns-in-Ok-clause-crash : goal.returns-in-Ok-clause-crash
returns-in-Ok-clause-crash g c =
    imported_leaves c.args.stays c.args.name.now c.args.stream.now (store_state g.S.Store c.args.store.now) (store_state g.S.Store c.make-done.new.store) c.in-Ok.edits.items c.make-done.result c.in-Ok.ensures (rw c.as_slice.ensures.value at c.make-done.ensures.crash)
