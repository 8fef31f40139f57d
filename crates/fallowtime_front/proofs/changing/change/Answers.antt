use Rattle.bson_model.specs.View.{content, view}
use Rattle.store_model.specs.State.{in_bytes}
use Rattle.store_model.specs.State as model
use Rattle.bson_store.specs.Calls.{Does}
use Rattle.fallowtime_commands.specs.Setting.{Sets}
use Rattle.fallowtime_commands.specs.Storing.{Puts, Stores}
use Rattle.fallowtime_commands.specs.declared.answer.Answer.TheVariants as answer
use Rattle.fallowtime_front.proofs.WayLemmas.{answered_done, answered_flag}
use Rattle.fallowtime_front.proofs.changing.change.Goals as goal

pub returns-in_ok-insert-in-Insert-clause-turns : goal.returns-in_ok-insert-in-Insert-clause-turns
returns-in_ok-insert-in-Insert-clause-turns g c = rw c.in-Insert.is (answered_done c.args.writer.now c.insert.new.writer (answer.Id c.in-Insert.id) (λ refused. refused) c.in_ok-insert-in-Insert.field-0 c.inserted.result (λ r. Stores c.args.name.now (model.insert in_bytes) (content c.in-Insert.given) r) c.inserted.ensures.reply c.inserted.ensures.shape c.in_ok-insert-in-Insert.ensures.turns)

pub returns-in_ok-insert-in-Insert-clause-crash : goal.returns-in_ok-insert-in-Insert-clause-crash
returns-in_ok-insert-in-Insert-clause-crash g c = rw (c.in-Insert.is, c.inserted.ensures.reply) c.in_ok-insert-in-Insert.ensures.crash

pub returns-in_ok-put-in-Put-clause-turns : goal.returns-in_ok-put-in-Put-clause-turns
returns-in_ok-put-in-Put-clause-turns g c = rw c.in-Put.is (answered_done c.args.writer.now c.put.new.writer answer.Nothing (λ refused. refused) c.in_ok-put-in-Put.field-0 c.nothing.result (λ r. Puts c.args.name.now (content c.in-Put.given) r) c.nothing.ensures.reply c.nothing.ensures.shape c.in_ok-put-in-Put.ensures.turns)

pub returns-in_ok-put-in-Put-clause-crash : goal.returns-in_ok-put-in-Put-clause-crash
returns-in_ok-put-in-Put-clause-crash g c = rw (c.in-Put.is, c.nothing.ensures.reply) c.in_ok-put-in-Put.ensures.crash

pub returns-in_ok-replace-in-Replace-clause-turns : goal.returns-in_ok-replace-in-Replace-clause-turns
returns-in_ok-replace-in-Replace-clause-turns g c = rw c.in-Replace.is (answered_done c.args.writer.now c.replace.new.writer answer.Nothing (λ refused. refused) c.in_ok-replace-in-Replace.field-0 c.nothing-in-Replace.result (λ r. Stores c.args.name.now (model.replace in_bytes) (content c.in-Replace.given) r) c.nothing-in-Replace.ensures.reply c.nothing-in-Replace.ensures.shape c.in_ok-replace-in-Replace.ensures.turns)

pub returns-in_ok-replace-in-Replace-clause-crash : goal.returns-in_ok-replace-in-Replace-clause-crash
returns-in_ok-replace-in-Replace-clause-crash g c = rw (c.in-Replace.is, c.nothing-in-Replace.ensures.reply) c.in_ok-replace-in-Replace.ensures.crash

pub returns-in_ok-set-in-Set-clause-turns : goal.returns-in_ok-set-in-Set-clause-turns
returns-in_ok-set-in-Set-clause-turns g c = rw c.in-Set.is (answered_done c.args.writer.now c.set.new.writer answer.Nothing (λ refused. refused) c.in_ok-set-in-Set.field-0 c.nothing-in-Set.result (λ r. Sets c.args.name.now (view c.in-Set.id) c.in-Set.key.now (view c.in-Set.value) r) c.nothing-in-Set.ensures.reply c.nothing-in-Set.ensures.shape c.in_ok-set-in-Set.ensures.turns)

pub returns-in_ok-set-in-Set-clause-crash : goal.returns-in_ok-set-in-Set-clause-crash
returns-in_ok-set-in-Set-clause-crash g c = rw (c.in-Set.is, c.nothing-in-Set.ensures.reply) c.in_ok-set-in-Set.ensures.crash

pub returns-in_ok-unset_free-in-Unset-clause-turns : goal.returns-in_ok-unset_free-in-Unset-clause-turns
returns-in_ok-unset_free-in-Unset-clause-turns g c = rw c.in-Unset.is (answered_flag c.args.writer.now c.unset_free.new.writer c.in_ok-unset_free-in-Unset.field-0 c.flag.result (λ r. Does (model.on c.args.name.now (model.unset (view c.in-Unset.id) c.in-Unset.key.now)) r) c.flag.ensures.reply c.flag.ensures.shape c.in_ok-unset_free-in-Unset.ensures.turns)

pub returns-in_ok-unset_free-in-Unset-clause-crash : goal.returns-in_ok-unset_free-in-Unset-clause-crash
returns-in_ok-unset_free-in-Unset-clause-crash g c = rw (c.in-Unset.is, c.flag.ensures.reply) c.in_ok-unset_free-in-Unset.ensures.crash

pub returns-in_ok-remove-in-Remove-clause-turns : goal.returns-in_ok-remove-in-Remove-clause-turns
returns-in_ok-remove-in-Remove-clause-turns g c = rw c.in-Remove.is (answered_done c.args.writer.now c.remove.new.writer answer.Nothing (λ refused. refused) c.in_ok-remove-in-Remove.field-0 c.nothing-in-Remove.result (λ r. Does (model.on c.args.name.now (model.remove (view c.in-Remove.id))) r) c.nothing-in-Remove.ensures.reply c.nothing-in-Remove.ensures.shape c.in_ok-remove-in-Remove.ensures.turns)

pub returns-in_ok-remove-in-Remove-clause-crash : goal.returns-in_ok-remove-in-Remove-clause-crash
returns-in_ok-remove-in-Remove-clause-crash g c = rw (c.in-Remove.is, c.nothing-in-Remove.ensures.reply) c.in_ok-remove-in-Remove.ensures.crash
