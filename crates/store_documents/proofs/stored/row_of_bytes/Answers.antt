use Rattle.std.proofs.lemmas.Result.{err_from_is_err_and}
use Rattle.store_documents.proofs.StoredLemmas.{wants}
use Rattle.store_documents.proofs.stored.row_of_bytes.Goals as goal
use Rattle.bson_bytes.proofs.MeaningLemmas.{are_bytes}

pub returns-in_err-key : goal.returns-in_err-key
returns-in_err-key c =
    let p = err_from_is_err_and c.from_residual.result c.from_residual.ensures.1 in
    rw (p.1, p.2) (wants c.args.bytes.now (are_bytes c.args.bytes.now c.type_inv.bytes) c.in_err-key.ensures.1 c.in_err-key.field-0.0 c.in_err-key.ensures.0)
