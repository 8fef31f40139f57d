use Rattle.bson_model.specs.View.{view}
use Rattle.bson_json_read.specs.Reading.{read}
use Rattle.bson_json_read.proofs.OnwardLemmas.{text_reads}
use Rattle.bson_json_read.proofs.reading.bson_of_text.Goals as goal

pub returns : goal.returns
returns c = text_reads read view c.args.text.now c.in_ok-value.value c.bson_of.result c.in_ok-value.ensures c.bson_of.ensures
