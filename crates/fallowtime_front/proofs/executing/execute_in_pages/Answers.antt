use Rattle.std.proofs.Common.{subst, sym}
use Rattle.fallowtime_commands.specs.Printing.{IsInsertText}
use Rattle.fallowtime_commands.proofs.OutcomeLemmas.{outcome_text}
use Rattle.fallowtime_front.proofs.executing.execute_in_pages.Goals as goal

pub print_outcome-requires-clause-text : goal.print_outcome-requires-clause-text
print_outcome-requires-clause-text g c =
    outcome_text c.args.form c.as_str.result.now c.args.request.now c.in_ok-outcome.outcome (subst (IsInsertText c.args.form c.args.request.now) (sym c.as_str.ensures.value) c.in-Ok.ensures) c.in_ok-outcome.ensures.shape
