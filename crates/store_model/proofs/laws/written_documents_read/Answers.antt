use Rattle.store_model.proofs.RestoreLemmas.{written_reads}
use Rattle.store_model.proofs.laws.written_documents_read.Goals as goal

pub returns : goal.returns
returns c d a k = written_reads d k a
