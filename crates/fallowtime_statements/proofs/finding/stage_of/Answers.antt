use Rattle.std.proofs.Common.{ap, sym, ◌∙◌}
use Rattle.bson_model.specs.View.{view}
use Rattle.bson_model.proofs.ViewLemmas.{view-Document}
use Rattle.fallowtime_statements.specs.Finding.{stage_of}
use Rattle.fallowtime_statements.proofs.finding.stage_of.Goals as goal

pub returns-in-Document : goal.returns-in-Document
returns-in-Document c = c.only_member.ensures ∙ ap stage_of (sym (view-Document c.in-Document.document) ∙ ap view (sym c.in-Document.is))
