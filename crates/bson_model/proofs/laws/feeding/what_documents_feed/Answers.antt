use Rattle.bson_model.specs.contracts.document.DocumentHash.TheImpl.Laws.{is}
use Rattle.bson_model.proofs.laws.feeding.what_documents_feed.Goals as goal

pub returns : goal.returns
returns c = λ x. is x x
