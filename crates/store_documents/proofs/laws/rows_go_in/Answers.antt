use Rattle.store_documents.proofs.AppendLemmas.{appending_all}
use Rattle.store_documents.proofs.laws.rows_go_in.Goals as goal

pub returns : goal.returns
returns c = appending_all
