use Rattle.std.proofs.Common.{◌≡◌, ◌∙◌, [], None, refl, rules, subst, sym, true≢false}
use Rattle.bson_store.specs.Calls.{store_state}
use Rattle.cli_convert.specs.declared.line.Kept.TheVariants.{Memory}
use Rattle.fallowtime_commands.specs.Answers.{line_of, memory}
use Rattle.fallowtime_commands.specs.Sessions.{Sends}
use Rattle.fallowtime_commands.proofs.ReplyLemmas.{line_answered, memory_line, skipped, unkept_line}
use Rattle.fallowtime_commands.proofs.session.serving.reply.Goals as goal

pub returns-then-eq : goal.returns-then-eq
returns-then-eq g c = (
  line_of None memory,
  subst (λ bytes. Sends c.send.result bytes (g.O.Sink.tally c.args.output.now) (g.O.Sink.tally c.send.new.output)) memory_line c.send.ensures,
  λ text keeps.
      let is : c.args.line.now.kept ≡ Memory = search rules in
      unkept_line (store_state g.S.Store c.args.store.now) c.args.maker.now c.args.line.now text is keeps,
)

pub returns-then-is_empty : goal.returns-then-is_empty
returns-then-is_empty g c = (
  [],
  (refl, search rules),
  λ text keeps.
      let both = c.is_empty.ensures.0 c.if-is_empty.true in
      skipped (store_state g.S.Store c.args.store.now) c.args.maker.now c.args.line.now text both.0 both.1 keeps,
)

pub returns-in-Ok : goal.returns-in-Ok
returns-in-Ok g c = (
  c.in-Ok.answer.items,
  subst (λ bytes. Sends c.send-in-Ok.result bytes (g.O.Sink.tally c.args.output.now) (g.O.Sink.tally c.send-in-Ok.new.output)) c.as_slice.ensures.value c.send-in-Ok.ensures,
  λ text keeps.
      line_answered (store_state g.S.Store c.args.store.now) (store_state g.S.Store c.answer_of.new.store) c.args.maker.now c.answer_of.new.maker c.args.line.now text c.in-Ok.answer.items
      (λ both. true≢false (sym (c.is_empty.ensures.1 both) ∙ c.if-is_empty.false)) (λ is. search rules) keeps (c.in-Ok.ensures text keeps),
)

pub returns-in-Err : goal.returns-in-Err
returns-in-Err g c = (
  line_of None memory,
  subst (λ bytes. Sends c.send-in-Err.result bytes (g.O.Sink.tally c.args.output.now) (g.O.Sink.tally c.send-in-Err.new.output)) memory_line c.send-in-Err.ensures,
  λ text keeps.
      line_answered (store_state g.S.Store c.args.store.now) (store_state g.S.Store c.answer_of.new.store) c.args.maker.now c.answer_of.new.maker c.args.line.now text (line_of None memory)
      (λ both. true≢false (sym (c.is_empty.ensures.1 both) ∙ c.if-is_empty.false)) (λ is. search rules) keeps (c.in-Err.ensures text keeps),
)
