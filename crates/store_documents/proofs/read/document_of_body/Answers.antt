use Rattle.store_documents.proofs.RowLemmas.{kept_means, same_result}
use Rattle.store_documents.proofs.read.document_of_body.Goals as goal

pub returns-clause-read : goal.returns-clause-read
returns-clause-read c = λ d kept is. same_result d c.args.body.now c.document_if_any.result kept is (c.document_if_any.ensures.read d (kept_means d c.args.body.now kept is))
