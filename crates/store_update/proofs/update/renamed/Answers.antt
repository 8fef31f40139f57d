use Rattle.std.proofs.Common.{◌≡◌, Ok, Err, inl, sym, subst, ◌∙◌}
use Rattle.std.proofs.lemmas.Result.{err_from_is_err_and}
use Rattle.bson_model.specs.View.{content, pairs_of}
use Rattle.bson_model.proofs.EqualLemmas.{look_up-members_of}
use Rattle.store_update.specs.Answer.{lent, viewed_document}
use Rattle.store_update.specs.Plan.{path_of}
use Rattle.store_update.specs.Update.{Tells, found, moved}
use Rattle.store_update.proofs.UpdateLemmas.{found_moved, not_found}
use Rattle.store_update.proofs.update.renamed.Goals as goal

pub returns-in_err-found : goal.returns-in_err-found
returns-in_err-found c =
    let p = err_from_is_err_and c.from_residual.result c.from_residual.ensures.1 in
    let k = c.as_str.result.now in
    let e = c.in_err-found.field-0.0 in
    let same = c.get.ensures ∙ sym (look_up-members_of k (pairs_of c.args.document)) in
    rw (p.1, p.2) (inl (not_found c.args.path.now c.in-Some.rest.now c.in-Some.key.now (path_of c.args.to.now) k (content c.args.document) c.are_of_id.result c.in-Some.ensures.cases.0 c.as_str.ensures.value c.are_of_id.ensures e c.if-are_of_id.false (subst (λ o. Err e ≡ found (path_of c.in-Some.rest.now) o) same c.in_err-found.ensures)))

pub returns : goal.returns
returns c =
    let k = c.as_str.result.now in
    let o = lent c.in_ok-found.field-0 in
    let same = c.get.ensures ∙ sym (look_up-members_of k (pairs_of c.args.document)) in
    found_moved c.args.path.now c.in-Some.rest.now c.in-Some.key.now (path_of c.args.to.now) k (content c.args.document) c.are_of_id.result c.in-Some.ensures.cases.0 c.as_str.ensures.value c.are_of_id.ensures o (viewed_document c.moved.result) c.if-are_of_id.false
    (subst (λ x. Ok o ≡ found (path_of c.in-Some.rest.now) x) same c.in_ok-found.ensures) (subst (λ x. Tells (moved (path_of c.args.path.now) (path_of c.args.to.now) x (content c.args.document)) (viewed_document c.moved.result)) c.in_ok-value.ensures c.moved.ensures)
