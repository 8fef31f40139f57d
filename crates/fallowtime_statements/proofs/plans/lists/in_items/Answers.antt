use Rattle.std.proofs.Common.{ap, ◌∙◌, Some}
use Rattle.bson_model.specs.View.{content, view}
use Rattle.bson_model.proofs.ViewLemmas.{view-Array}
use Rattle.fallowtime_statements.proofs.GivenLemmas.{given_array}
use Rattle.fallowtime_statements.proofs.plans.lists.in_items.Goals as goal

pub returns-in-Array : goal.returns-in-Array
returns-in-Array c =
    let v = c.in-Array.items in
    given_array c.args.key.now (content c.args.command.now) c.written_items.result v.items (c.requires ∙ ap Some (ap view c.in-Array.is ∙ view-Array v)) (rw c.as_slice.ensures.value at c.written_items.ensures)
