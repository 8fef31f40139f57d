use Rattle.std.proofs.Common.{ap, map, ◌∙◌, Some}
use Rattle.bson_model.specs.View.{view}
use Rattle.bson_model.proofs.ViewLemmas.{view-Array}
use Rattle.fallowtime_statements.proofs.CountLemmas.{counts_in}
use Rattle.fallowtime_statements.proofs.counting.counting_in_value.Goals as goal

pub returns-in-Array : goal.returns-in-Array
returns-in-Array c =
    let v = c.in-Array.stages in
    counts_in c.counting_of.result (Some (view c.args.value.now)) (map view v.items) (ap Some (ap view c.in-Array.is ∙ view-Array v)) (rw c.as_slice.ensures.value at c.counting_of.ensures)
