use Rattle.std.proofs.Common.{subst, IfOk}
use Rattle.bson_model.specs.declared.extjson.ser.Mode.TheVariants.{Relaxed}
use Rattle.fallowtime_words.specs.declared.command.Command.TheVariants as command
use Rattle.fallowtime_statements.specs.Lines.{IsLine}
use Rattle.fallowtime_statements.proofs.lines.count_by.Goals as goal

pub returns : goal.returns
returns c = subst (λ vs. IfOk c.statement_by.result (IsLine Relaxed command.Count vs)) c.in_ok-values.ensures c.statement_by.ensures
