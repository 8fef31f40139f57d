use Rattle.std.proofs.Common.{sym, ap, ◌∙◌}
use Rattle.std.specs.Prelude.{is_some}
use Rattle.bson_model.specs.View.{view}
use Rattle.bson_model.proofs.ViewLemmas.{is_some-map}
use Rattle.store_documents.proofs.change.take_out.Goals as goal

pub returns-clause-was_there : goal.returns-clause-was_there
returns-clause-was_there c = c.is_some.ensures ∙ sym (is_some-map view c.remove.result) ∙ ap is_some c.remove.ensures.value
