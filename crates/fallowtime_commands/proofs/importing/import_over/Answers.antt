use Rattle.std.proofs.Common.{Err, inl, subst}
use Rattle.std.specs.Prelude.{IsTrue}
use Rattle.bson_store.specs.Calls.{store_state}
use Rattle.fallowtime_commands.specs.Performing.{reply_of}
use Rattle.fallowtime_commands.proofs.EnterLemmas.{unimported_leaves, unimported_moves}
use Rattle.fallowtime_commands.proofs.importing.import_over.Goals as goal

pub returns-else-is_name-clause-moves : goal.returns-else-is_name-clause-moves
returns-else-is_name-clause-moves g c =
    unimported_moves c.args.stays c.args.name.now c.args.stream.now (store_state g.S.Store c.args.store.now) c.from.result (inl (λ good. (let yes = c.is_name.ensures.1 good in let no = c.if-is_name.false in absurd cc), c.from.ensures))

pub returns-else-is_name-clause-crash : goal.returns-else-is_name-clause-crash
returns-else-is_name-clause-crash g c = unimported_leaves c.args.stays c.args.name.now c.args.stream.now (store_state g.S.Store c.args.store.now) (reply_of (Err c.from.result)) tt
