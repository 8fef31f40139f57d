use Rattle.bson_json.proofs.UnbrokenLemmas.{text_unbroken}
use Rattle.bson_json.proofs.laws.texts_have_no_line_feed.Goals as goal

pub returns : goal.returns
returns c = text_unbroken
