use Rattle.std.proofs.Common.{subst}
use Rattle.bson_store.specs.Calls.{store_state}
use Rattle.fallowtime_commands.specs.Acts.{DoesOne}
use Rattle.fallowtime_commands.specs.Turns.{AnswersLine}
use Rattle.cli_convert.specs.declared.made.IdMaker.{IdMaker}
use Rattle.fallowtime_commands.proofs.session.serving.reply_in_time.Goals as goal

pub returns : goal.returns
returns g c =
    let (answer, sends, does) = c.reply.ensures in (
      c.millis.result,
      answer,
      sends,
      λ text keeps.
          subst (λ (m : IdMaker). DoesOne (AnswersLine m c.reply.new.maker text answer) (store_state g.S.Store c.args.store.now) (store_state g.S.Store c.reply.new.store)) c.set_time.ensures (does text keeps),
    )
