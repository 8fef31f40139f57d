use Rattle.std.proofs.Common.{Err, sym, ap, ◌∙◌}
use Rattle.std.proofs.lemmas.Result.{err_from_is_err_and}
use Rattle.bson_model.specs.View.{view, pairs_of, members_of}
use Rattle.bson_model.proofs.EqualLemmas.{look_up-members_of}
use Rattle.store_model.specs.State.{id_key}
use Rattle.store_documents.proofs.BodyLemmas.{no_id, no_key, no_refusal, own_key, unwritten}
use Rattle.store_documents.proofs.write.row_of_document.Goals as goal

pub returns-in_default : goal.returns-in_default
returns-in_default c = λ read.
    let ps = pairs_of c.args.document.now in
    no_id (members_of ps) (look_up-members_of id_key ps ∙ sym c.in_default.ensures)

pub returns-in_err-body : goal.returns-in_err-body
returns-in_err-body c = λ read.
    let ps = pairs_of c.args.document.now in
    let p = err_from_is_err_and c.from_residual.result c.from_residual.ensures.1 in
    rw (p.1, p.2) (unwritten (members_of ps) (view c.in-Some.id.now) c.in_err-body.field-0.0 read (look_up-members_of id_key ps ∙ sym c.in-Some.ensures) c.in_err-body.ensures)

pub returns-in-Ok : goal.returns-in-Ok
returns-in-Ok c = λ read.
    let ps = pairs_of c.args.document.now in
    let has = look_up-members_of id_key ps ∙ sym c.in-Some.ensures in (
      no_refusal (members_of ps) (view c.in-Some.id.now) has c.in_ok-body.ensures.2,
      own_key (members_of ps) (view c.in-Some.id.now) c.in-Ok.key.items has c.in-Ok.ensures.ok,
      c.in_ok-body.ensures.0,
    )

pub returns-in-Err : goal.returns-in-Err
returns-in-Err c = λ read.
    let ps = pairs_of c.args.document.now in
    let has = look_up-members_of id_key ps ∙ sym c.in-Some.ensures in
    no_key (members_of ps) (view c.in-Some.id.now) c.in-Err.error c.key_refusal.result read has c.in_ok-body.ensures.2 c.key_refusal.ensures (λ e. c.in-Err.ensures.not_plain (ap Err e)) (λ e. c.in-Err.ensures.too_long (ap Err e))
