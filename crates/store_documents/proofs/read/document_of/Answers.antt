use Rattle.store_documents.proofs.read.document_of.Goals as goal

pub returns : goal.returns
returns c = c.document_if_any.ensures.read c.requires.0 c.requires.1
