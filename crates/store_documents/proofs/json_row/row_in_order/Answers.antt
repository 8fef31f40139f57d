use Rattle.std.specs.declared.borrow.CowSlice.TheVariants as slice
use Rattle.std.proofs.Common.{Err, arith, refl, sym, ap, ◌∙◌}
use Rattle.std.proofs.lemmas.Result.{err_from_is_err_and}
use Rattle.bson_model.specs.View.{view, pairs_of, members_of}
use Rattle.bson_model.proofs.EqualLemmas.{look_up-members_of}
use Rattle.store_model.specs.State.{id_key}
use Rattle.store_documents.proofs.OrderLemmas.{no_key, ordered, unidentified, unordered}
use Rattle.store_documents.proofs.json_row.row_in_order.Goals as goal

pub returns-in_default : goal.returns-in_default
returns-in_default c =
    let ps = pairs_of c.args.document.now in
    unidentified (members_of ps) (omega (arith, c.if-depth_of_document-gt-LEVEL_LIMIT.false, c.depth_of_document.ensures)) c.unidentified.result (look_up-members_of id_key ps ∙ sym c.in_default.ensures) c.unidentified.ensures

pub returns-in_err-body : goal.returns-in_err-body
returns-in_err-body c =
    let ps = pairs_of c.args.document.now in
    let p = err_from_is_err_and c.from_residual.result c.from_residual.ensures.1 in
    rw (p.1, p.2) (unordered (members_of ps) (omega (arith, c.if-depth_of_document-gt-LEVEL_LIMIT.false, c.depth_of_document.ensures)) (view c.in-Some.id.now) c.in_err-body.field-0.0 (look_up-members_of id_key ps ∙ sym c.in-Some.ensures) c.in_err-body.ensures)

pub returns-in-Ok : goal.returns-in-Ok
returns-in-Ok c =
    let ps = pairs_of c.args.document.now in
    ordered (members_of ps) (omega (arith, c.if-depth_of_document-gt-LEVEL_LIMIT.false, c.depth_of_document.ensures)) (view c.in-Some.id.now) c.in_ok-body.body.items (look_up-members_of id_key ps ∙ sym c.in-Some.ensures) c.in_ok-body.ensures
    (record { key = c.in-Ok.key; body = slice.Owned c.in_ok-body.body }) c.in-Ok.ensures.ok refl

pub returns-in-Err : goal.returns-in-Err
returns-in-Err c =
    let ps = pairs_of c.args.document.now in
    no_key (members_of ps) (omega (arith, c.if-depth_of_document-gt-LEVEL_LIMIT.false, c.depth_of_document.ensures)) (view c.in-Some.id.now) c.in_ok-body.body.items (look_up-members_of id_key ps ∙ sym c.in-Some.ensures) c.in_ok-body.ensures
    c.in-Err.error c.key_refusal.result c.key_refusal.ensures c.in-Err.ensures.sound (λ x. c.in-Err.ensures.not_plain (ap Err x)) (λ x. c.in-Err.ensures.too_long (ap Err x))
