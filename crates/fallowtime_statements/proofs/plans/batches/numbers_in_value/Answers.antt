use Rattle.std.proofs.Common.{ap, ◌∙◌, Some}
use Rattle.bson_model.specs.View.{view}
use Rattle.bson_model.proofs.ViewLemmas.{view-Array}
use Rattle.fallowtime_statements.proofs.WriteLemmas.{numbers_there}
use Rattle.fallowtime_statements.proofs.plans.batches.numbers_in_value.Goals as goal

pub returns-in-Array : goal.returns-in-Array
returns-in-Array c =
    let v = c.in-Array.items in
    numbers_there c.numbers_of.result (Some (view c.args.value.now)) v.items (ap Some (ap view c.in-Array.is ∙ view-Array v)) (rw c.as_slice.ensures.value at c.numbers_of.ensures)
