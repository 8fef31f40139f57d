use Rattle.std.proofs.Common.{◌≡◌, ◌⊎◌, ◌==◌, List, String, Global, length, true, false, Ok, Err, sym, ap, subst, ◌∙◌}
use Rattle.std.proofs.lemmas.Result.{err_from_is_err_and}
use Rattle.bson_base.specs.Value.{look_up}
use Rattle.bson_model.specs.View.{content, pairs_of}
use Rattle.bson_model.proofs.EqualLemmas.{look_up-members_of}
use Rattle.store_update.specs.Answer.{viewed_document}
use Rattle.store_update.specs.Plan.{change_of}
use Rattle.store_update.specs.Update.{inside, made}
use Rattle.store_update.specs.declared.error.UpdateError.TheVariants.{Memory}
use Rattle.store_update.proofs.UpdateLemmas.{all_deeper, not_deeper, not_inside}
use Rattle.store_update.proofs.alter.+altered.Goals as goal

pub returns-in_err-inner : goal.returns-in_err-inner
returns-in_err-inner n c =
    let p = err_from_is_err_and c.from_residual.result c.from_residual.ensures.1 in
    let k = c.as_str-2.result.now in
    let e = c.in_err-inner.field-0.0 in
    let same = c.get.ensures ∙ sym (look_up-members_of k (pairs_of c.args.document)) in
    rw (p.1, p.2) (not_inside (made (change_of c.args.operation.now)) c.args.path.now c.in-Some.rest.now c.in-Some.key.now k (content c.args.document) c.in-Some.ensures.cases.0 (λ none. let x : true ≡ false = sym (c.is_empty.ensures ∙ ap (λ (xs : List (String Global)). length xs == 0) none) ∙ c.if-is_empty.false in absurd (cc)) c.as_str-2.ensures.value e (subst (λ o. (inside o ≡ Err e) ⊎ (e ≡ Memory)) same c.in_err-inner.ensures))

pub returns-in_err-inner-2 : goal.returns-in_err-inner-2
returns-in_err-inner-2 n c =
    let p = err_from_is_err_and c.from_residual-in_err-inner-2.result c.from_residual-in_err-inner-2.ensures.1 in
    let k = c.as_str-2.result.now in
    let e = c.in_err-inner-2.field-0.0 in
    let same = c.get.ensures ∙ sym (look_up-members_of k (pairs_of c.args.document)) in
    rw (p.1, p.2) (not_deeper (made (change_of c.args.operation.now)) c.args.path.now c.in-Some.rest.now c.in-Some.key.now k (content c.args.document) c.in-Some.ensures.cases.0 (λ none. let x : true ≡ false = sym (c.is_empty.ensures ∙ ap (λ (xs : List (String Global)). length xs == 0) none) ∙ c.if-is_empty.false in absurd (cc)) c.as_str-2.ensures.value (content c.in_ok-inner.inner) e (subst (λ o. inside o ≡ Ok (content c.in_ok-inner.inner)) same c.in_ok-inner.ensures) c.in_err-inner-2.ensures)

pub returns : goal.returns
returns n c =
    let k = c.as_str-2.result.now in
    let same = c.get.ensures ∙ sym (look_up-members_of k (pairs_of c.args.document)) in
    all_deeper (made (change_of c.args.operation.now)) c.args.path.now c.in-Some.rest.now c.in-Some.key.now k (content c.args.document) c.in-Some.ensures.cases.0 (λ none. let x : true ≡ false = sym (c.is_empty.ensures ∙ ap (λ (xs : List (String Global)). length xs == 0) none) ∙ c.if-is_empty.false in absurd (cc)) c.as_str-2.ensures.value (content c.in_ok-inner.inner) (content c.in_ok-inner-2.inner) (viewed_document c.settle_inside.result)
    (subst (λ o. inside o ≡ Ok (content c.in_ok-inner.inner)) same c.in_ok-inner.ensures) c.in_ok-inner-2.ensures (rw (c.as_str-3.ensures.value ∙ sym c.as_str-2.ensures.value) at c.settle_inside.ensures)
