use Rattle.std.proofs.Common.{ap, refl, subst, sym, Err}
use Rattle.bson_store.specs.Calls.{store_state}
use Rattle.store_model.specs.Refusal.{refusal}
use Rattle.fallowtime_commands.specs.Printing.{IsInsertText}
use Rattle.fallowtime_commands.specs.declared.refusal.Refusal.{Refusal}
use Rattle.fallowtime_commands.proofs.EarlyLemmas.{leaves, stays}
use Rattle.fallowtime_commands.proofs.OutcomeLemmas.{outcome_text}
use Rattle.fallowtime_commands.proofs.executing.execute.Goals as goal

pub returns-in-Err : goal.returns-in-Err
returns-in-Err g c =
    let s = store_state g.S.Store c.args.store.now in
    let q = c.args.request.now in
    record {
      outcome = Err (refusal c.in-Err.kind);
      told = ((c.from.result, refl, ap (λ (r : Refusal). r.error) c.from.ensures), refl);
      moves = stays c.args.name.now s c.in-Err.kind q c.in-Err.ensures;
      crash = leaves c.args.name.now s c.in-Err.kind q c.in-Err.ensures;
      stays = λ clean docs stands. tt;
    }

pub print_outcome-requires-clause-text : goal.print_outcome-requires-clause-text
print_outcome-requires-clause-text g c = outcome_text c.args.form c.as_str.result.now c.args.request.now c.perform-outcome.result (subst (IsInsertText c.args.form c.args.request.now) (sym c.as_str.ensures.value) c.in-Ok.ensures) c.perform-outcome.ensures.shape

pub returns : goal.returns
returns g c = record {
  outcome = c.perform-outcome.result;
  told = c.print_outcome.ensures;
  moves = c.perform-outcome.ensures.moves;
  crash = c.perform-outcome.ensures.crash;
  stays = c.perform-outcome.ensures.open;
}
