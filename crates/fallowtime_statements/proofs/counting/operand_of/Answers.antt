use Rattle.std.proofs.Common.{ap, sym, ◌∙◌}
use Rattle.bson_model.specs.View.{view}
use Rattle.bson_model.proofs.ViewLemmas.{view-Document}
use Rattle.fallowtime_statements.specs.Counting.{operand_of}
use Rattle.fallowtime_statements.proofs.counting.operand_of.Goals as goal

pub returns-in-Document : goal.returns-in-Document
returns-in-Document c = c.only.ensures ∙ ap (operand_of c.args.name.now) (sym (view-Document c.in-Document.document) ∙ ap view (sym c.in-Document.is))
