use Rattle.std.proofs.Common.{◌∙◌, Some, refl, ap}
use Rattle.std.specs.Prelude.{if◌then◌else◌}
use Rattle.store_model.specs.Filter.{under_places}
use Rattle.store_pipeline.proofs.SortedLedLemmas.{opened_array, opened_other, shown_as}
use Rattle.store_pipeline.proofs.sorted.values.at_end.Goals as goal
use Rattle.store_pipeline.specs.Order.{itself, opened}

pub returns-then-not-opens : goal.returns-then-not-opens
returns-then-not-opens c = λ v f o s. shown_as c.args.descending c.better.result o _ _ (ap (λ b. if b then opened v else itself v) c.if-not-opens.true) (c.better.ensures o s v f)

pub returns-in-Some : goal.returns-in-Some
returns-in-Some c = λ v f o s.
    let h = c.in-Some.ensures (Some v) (v, refl, f) in
    shown_as c.args.descending c.best_item.result o _ _ (ap (λ b. if b then opened v else itself v) c.if-not-opens.false ∙ opened_array v h.0 h.1) (c.best_item.ensures o s (under_places 0 h.0) h.2 h.3 h.4)

pub returns-in-None : goal.returns-in-None
returns-in-None c = λ v f o s. shown_as c.args.descending c.better-in-None.result o _ _ (ap (λ b. if b then opened v else itself v) c.if-not-opens.false ∙ opened_other v (c.in-None.ensures (Some v) (v, refl, f))) (c.better-in-None.ensures o s v f)
