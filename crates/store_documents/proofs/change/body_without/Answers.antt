use Rattle.std.proofs.Common.{sym, ap, ◌∙◌, subst}
use Rattle.std.proofs.lemmas.Result.{err_from_is_err_and}
use Rattle.bson_bytes.specs.Encode.{encode}
use Rattle.bson_model.specs.View.{pairs_of}
use Rattle.store_model.specs.Reading.{IsRead}
use Rattle.store_documents.specs.Bodies.{IsUnwritten}
use Rattle.store_documents.proofs.ChangeLemmas.{rest_is, there_is, written_without}
use Rattle.store_documents.proofs.KindLemmas.{of_unwritten}
use Rattle.store_documents.proofs.change.body_without.Goals as goal

pub returns-in_err-document-clause-unset : goal.returns-in_err-document-clause-unset
returns-in_err-document-clause-unset c = λ d kept is.
    let p = err_from_is_err_and c.from_residual.result c.from_residual.ensures.1 in
    rw (p.1, p.2) (c.in_err-document.ensures.read d kept is)

pub returns-in_err-body-clause-unset : goal.returns-in_err-body-clause-unset
returns-in_err-body-clause-unset c = λ d kept is.
    let p = err_from_is_err_and c.from_residual-in_err-body.result c.from_residual-in_err-body.ensures.1 in
    let ps = pairs_of c.in_ok-document.document in
    let same = c.in_ok-document.ensures.read d kept is in
    let rest = rest_is c.args.key.now d ps (pairs_of c.take_out-was_there.new.document) (subst IsRead (sym same) kept.read).sound.distinct c.take_out-was_there.ensures.rest same in
    let k = c.in_err-body.field-0.0 in
    rw (p.1, p.2) (written_without c.args.key.now d k kept (subst (λ e. IsUnwritten e k) rest c.in_err-body.ensures))

pub returns-clause-unset : goal.returns-clause-unset
returns-clause-unset c = λ d kept is.
    let ps = pairs_of c.in_ok-document.document in
    let same = c.in_ok-document.ensures.read d kept is in
    let rest = rest_is c.args.key.now d ps (pairs_of c.take_out-was_there.new.document) (subst IsRead (sym same) kept.read).sound.distinct c.take_out-was_there.ensures.rest same in
    (there_is c.args.key.now d ps c.take_out-was_there.result c.take_out-was_there.ensures.was_there same, c.in_ok-body.ensures.0 ∙ ap encode rest)

pub returns-in_err-body-clause-kind : goal.returns-in_err-body-clause-kind
returns-in_err-body-clause-kind c =
    let p = err_from_is_err_and c.from_residual-in_err-body.result c.from_residual-in_err-body.ensures.1 in
    rw (p.1, p.2) (of_unwritten _ c.in_err-body.field-0.0 c.in_err-body.ensures)
