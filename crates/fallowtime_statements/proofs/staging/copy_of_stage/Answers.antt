use Rattle.bson_model.proofs.ViewLemmas.{view-Document}
use Rattle.bson_model.specs.View.{content}
use Rattle.fallowtime_statements.proofs.staging.copy_of_stage.Goals as goal

pub returns : goal.returns
returns c = (content c.in_ok-copy.copy, c.in_ok-copy.ensures, view-Document c.in_ok-copy.copy)
