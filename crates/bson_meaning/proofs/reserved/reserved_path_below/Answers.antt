use Rattle.bson_model.specs.View.{content}
use Rattle.bson_meaning.proofs.ReservedPathLemmas.{told}
use Rattle.bson_meaning.proofs.reserved.reserved_path_below.Goals as goal

pub returns-clause-reserved : goal.returns-clause-reserved
returns-clause-reserved c = told (content c.args.document.now) c.path_below.result c.path_below.ensures
