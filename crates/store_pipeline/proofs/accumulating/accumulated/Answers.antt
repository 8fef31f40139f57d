use Rattle.std.proofs.Common.{◌∙◌, Ok, map, ap, subst}
use Rattle.bson_base.specs.Value.{Value}
use Rattle.bson_model.specs.View.{view}
use Rattle.store_update.specs.Answer.{viewed}
use Rattle.store_update.specs.Update.{Tells}
use Rattle.store_pipeline.proofs.SumLemmas.{last_lent}
use Rattle.store_pipeline.proofs.accumulating.accumulated.Goals as goal
use Rattle.store_pipeline.specs.Groups.{last_of}

pub returns-in-Last : goal.returns-in-Last
returns-in-Last c =
    let same = last_lent c.as_slice-in-Last.result.now c.last.result c.last.ensures.value ∙ ap (λ bs. last_of (map view bs)) c.as_slice-in-Last.ensures.value in
    rw c.in-Last.is (subst (λ (v : Value). Tells (Ok v) (viewed c.copied-in-Last.result)) same c.copied-in-Last.ensures)
