use Rattle.std.proofs.Common.{refl, Ok}
use Rattle.bson_store.proofs.CrashLemmas.{survives_itself}
use Rattle.bson_store.specs.Calls.{store_state}
use Rattle.fallowtime_commands.specs.Performing.{reply_of}
use Rattle.fallowtime_commands.specs.declared.answer.Answer.TheVariants.{NotUpserted}
use Rattle.fallowtime_commands.proofs.UpsertLemmas.{as_inserted, opened, refused_rests}
use Rattle.fallowtime_commands.proofs.upserting.when_none.Goals as goal

pub returns-in-Insert-clause-moves : goal.returns-in-Insert-clause-moves
returns-in-Insert-clause-moves g c = rw (c.in-Insert.is, c.upserted.ensures.reply) c.insert.ensures.moves

pub returns-in-Insert-clause-crash : goal.returns-in-Insert-clause-crash
returns-in-Insert-clause-crash g c = rw (c.in-Insert.is, c.upserted.ensures.reply) c.insert.ensures.crash

pub returns-in-Insert-clause-open : goal.returns-in-Insert-clause-open
returns-in-Insert-clause-open g c = λ was.
    opened (store_state g.S.Store c.args.store.now) (store_state g.S.Store c.insert.new.store) c.in-Insert.id c.insert.result c.upserted.result c.upserted.ensures.reply c.upserted.ensures.shape c.insert.ensures.open

pub returns-in-Insert-clause-shape : goal.returns-in-Insert-clause-shape
returns-in-Insert-clause-shape g c = rw c.in-Insert.is (as_inserted c.in-Insert.id c.in-Insert.document c.upserted.result c.upserted.ensures.shape)

pub returns-in-Refuse-clause-moves : goal.returns-in-Refuse-clause-moves
returns-in-Refuse-clause-moves g c = rw c.in-Refuse.is (refused_rests c.args.name.now (store_state g.S.Store c.args.store.now) c.in-Refuse.error (reply_of (Ok (NotUpserted c.in-Refuse.error))))

pub returns-in-Refuse-clause-crash : goal.returns-in-Refuse-clause-crash
returns-in-Refuse-clause-crash g c = rw c.in-Refuse.is (tt, survives_itself (store_state g.S.Store c.args.store.now))

pub returns-in-Refuse-clause-open : goal.returns-in-Refuse-clause-open
returns-in-Refuse-clause-open g c = λ was clean docs stands. (was, was)

pub returns-in-Refuse-clause-shape : goal.returns-in-Refuse-clause-shape
returns-in-Refuse-clause-shape g c = rw c.in-Refuse.is refl
