use Rattle.std.proofs.lemmas.Result.{err_from_is_err_and}
use Rattle.bson_bytes.specs.Spells.{settle}
use Rattle.bson_model.specs.View.{members_of, pairs_of}
use Rattle.store_documents.proofs.StoredLemmas.{by_tree, meant, wants}
use Rattle.store_documents.proofs.stored.row_by_tree.Goals as goal
use Rattle.bson_bytes.proofs.MeaningLemmas.{are_bytes}

pub document_of-requires : goal.document_of-requires
document_of-requires c = (settle c.in_default.ensures.2.0, meant c.args.bytes.now c.in_default.ensures)

pub returns-in_err-document : goal.returns-in_err-document
returns-in_err-document c =
    let p = err_from_is_err_and c.from_residual.result c.from_residual.ensures.1 in
    rw (p.1, p.2) (wants c.args.bytes.now (are_bytes c.args.bytes.now c.type_inv.bytes) c.in_default.ensures c.in_err-document.field-0.0 c.in_err-document.ensures)

pub returns : goal.returns
returns c = by_tree c.args.bytes.now (members_of (pairs_of c.in_ok-document.document)) c.row_of_document.result (are_bytes c.args.bytes.now c.type_inv.bytes) c.in_default.ensures c.in_ok-document.ensures c.row_of_document.ensures
