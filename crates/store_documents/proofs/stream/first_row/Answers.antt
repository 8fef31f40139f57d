use Rattle.std.proofs.lemmas.Result.{err_from_is_err_and}
use Rattle.store_documents.proofs.ManyLemmas.{front_kept, front_refused}
use Rattle.store_documents.proofs.stream.first_row.Goals as goal

pub returns-in_err-row-clause-answer : goal.returns-in_err-row-clause-answer
returns-in_err-row-clause-answer c =
    let p = err_from_is_err_and c.from_residual-in_err-row.result c.from_residual-in_err-row.ensures.1 in
    rw (p.1, p.2) (front_refused c.args.bytes.now c.in_ok-document.document.now c.in_ok-document.rest.now c.in_err-row.field-0.0 c.in_ok-document.ensures.0 c.in_ok-document.ensures.1 c.in_err-row.ensures)

pub returns-clause-answer : goal.returns-clause-answer
returns-clause-answer c = front_kept c.args.bytes.now c.in_ok-document.document.now c.in_ok-document.rest c.in_ok-row.row c.in_ok-document.ensures.0 c.in_ok-document.ensures.1 c.in_ok-row.ensures
