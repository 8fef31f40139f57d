use Rattle.bson_base.proofs.DateTextLemmas.{date_text-is}
use Rattle.bson_model.proofs.laws.written.date_texts.Goals as goal

pub returns : goal.returns
returns c = date_text-is
