use Rattle.bson_model.specs.View.{content}
use Rattle.bson_json_read.specs.Reading.{read_top}
use Rattle.bson_json_read.proofs.OnwardLemmas.{text_reads}
use Rattle.bson_json_read.proofs.reading.document_of_text.Goals as goal

pub returns : goal.returns
returns c = text_reads read_top (λ d. content d) c.args.text.now c.in_ok-value.value c.document_of.result c.in_ok-value.ensures c.document_of.ensures
