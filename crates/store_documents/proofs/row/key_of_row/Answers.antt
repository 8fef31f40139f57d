use Rattle.std.proofs.lemmas.Result.{IfOk-weaker}
use Rattle.store_documents.proofs.RowLemmas.{not_answered, neither_told}
use Rattle.store_documents.proofs.row.key_of_row.Goals as goal

pub returns-in-Err : goal.returns-in-Err
returns-in-Err c =
    let n = c.args.collection.now in
    let k = c.args.key.now in
    let bytes = c.args.body.now in
    IfOk-weaker c.keyless.result _ _ (λ r h. neither_told n k bytes r h.0 (λ now. not_answered n now bytes c.in-Err.kind c.in-Err.ensures h.1)) c.keyless.ensures
