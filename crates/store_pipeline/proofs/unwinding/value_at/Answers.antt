use Rattle.std.proofs.Common.{ap, sym, ◌∙◌}
use Rattle.bson_model.proofs.EqualLemmas.{look_up-members_of}
use Rattle.bson_model.specs.View.{pairs_of}
use Rattle.store_update.specs.Plan.{path_of}
use Rattle.store_update.specs.Update.{found}
use Rattle.store_pipeline.specs.Unwound.{found_in}
use Rattle.store_pipeline.proofs.unwinding.value_at.Goals as goal

pub returns-in-Ok : goal.returns-in-Ok
returns-in-Ok c = ap found_in c.in-Ok.ensures ∙ ap (λ o. found_in (found (path_of c.args.rest.now) o)) (c.get.ensures ∙ sym (look_up-members_of c.args.key.now (pairs_of c.args.document.now)))

pub returns-in-Err : goal.returns-in-Err
returns-in-Err c = ap found_in c.in-Err.ensures ∙ ap (λ o. found_in (found (path_of c.args.rest.now) o)) (c.get.ensures ∙ sym (look_up-members_of c.args.key.now (pairs_of c.args.document.now)))
