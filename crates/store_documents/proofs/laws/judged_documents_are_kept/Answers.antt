use Rattle.store_documents.proofs.AppendLemmas.{all_accepted}
use Rattle.store_documents.proofs.laws.judged_documents_are_kept.Goals as goal

pub returns : goal.returns
returns c = all_accepted 0
