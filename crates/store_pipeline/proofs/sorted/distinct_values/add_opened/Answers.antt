use Rattle.store_pipeline.proofs.WalkLemmas.{adds_as, at_end_array, at_end_other}
use Rattle.store_pipeline.proofs.sorted.distinct_values.add_opened.Goals as goal
use Rattle.store_model.specs.Filter.{under_places}

pub returns-in-Some : goal.returns-in-Some
returns-in-Some c = λ v f.
    let h = c.in-Some.ensures v f in
    adds_as c.add_items.result c.args.values.now.items c.add_items.new.values.items _ _ (at_end_array v h.0 h.1) (c.add_items.ensures (under_places 0 h.0) h.2 h.3 h.4)

pub returns-in-None : goal.returns-in-None
returns-in-None c = λ v f. adds_as c.add.result c.args.values.now.items c.add.new.values.items _ _ (at_end_other v (c.in-None.ensures v f)) (c.add.ensures v f)
