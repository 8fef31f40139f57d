use Rattle.std.proofs.Common.{◌≡◌, ◌⊎◌, Ok, Err, option_map, sym, subst, ◌∙◌}
use Rattle.std.proofs.lemmas.Result.{err_from_is_err_and}
use Rattle.bson_base.specs.Value.{look_up}
use Rattle.bson_model.specs.View.{view, content, pairs_of}
use Rattle.bson_model.proofs.EqualLemmas.{look_up-members_of}
use Rattle.store_update.specs.Answer.{lent, viewed_document}
use Rattle.store_update.specs.Plan.{change_of}
use Rattle.store_update.specs.Update.{made, settled}
use Rattle.store_update.specs.declared.error.UpdateError.TheVariants.{Memory}
use Rattle.store_update.proofs.UpdateLemmas.{tells_err, tells_next}
use Rattle.store_update.proofs.alter.settle.Goals as goal

pub returns-in_err-value : goal.returns-in_err-value
returns-in_err-value c =
    let p = err_from_is_err_and c.from_residual.result c.from_residual.ensures.1 in
    let k = c.args.key.now in
    let ms = content c.args.document in
    let e = c.in_err-value.field-0.0 in
    let same = c.get.ensures ∙ sym (look_up-members_of k (pairs_of c.args.document)) in
    rw (p.1, p.2) (tells_err (made (change_of c.args.operation.now) (look_up k ms)) (λ new. Ok (settled k new ms)) e (subst (λ o. (made (change_of c.args.operation.now) o ≡ Err e) ⊎ (e ≡ Memory)) same c.in_err-value.ensures))

pub returns : goal.returns
returns c =
    let k = c.args.key.now in
    let ms = content c.args.document in
    let same = c.get.ensures ∙ sym (look_up-members_of k (pairs_of c.args.document)) in
    tells_next (made (change_of c.args.operation.now) (look_up k ms)) (λ new. Ok (settled k new ms)) (option_map view c.in_ok-value.value) (viewed_document c.settled_with.result)
    (subst (λ o. made (change_of c.args.operation.now) o ≡ Ok (option_map view c.in_ok-value.value)) same c.in_ok-value.ensures) c.settled_with.ensures
