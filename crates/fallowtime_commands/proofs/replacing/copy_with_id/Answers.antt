use Rattle.std.proofs.lemmas.Result.{IfOk-weaker}
use Rattle.bson_model.specs.View.{content, view}
use Rattle.fallowtime_commands.proofs.ReplaceLemmas.{copied}
use Rattle.fallowtime_commands.proofs.replacing.copy_with_id.Goals as goal

pub returns : goal.returns
returns c = IfOk-weaker c.identified_by.result _ _ (λ m made. copied (view c.args.id) c.args.document.now c.in_ok-copy.copy (content m) c.in_ok-copy.ensures made) c.identified_by.ensures
