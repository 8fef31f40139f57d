use Rattle.bson_raw.specs.View.{bytes_of}
use Rattle.bson_raw.proofs.FaultLemmas.{no_document}
use Rattle.bson_raw.proofs.document.RawDocument.to_document.Goals as goal

pub returns-clause-none : goal.returns-clause-none
returns-clause-none c = no_document c.one_first_frame.ensures (bytes_of c.args.self) c.elements.result.now c.document_of.result c.elements.ensures.value c.document_of.ensures
