use Rattle.store_pipeline.proofs.WalkLemmas.{adds_one}
use Rattle.store_pipeline.proofs.sorted.distinct_values.add.Goals as goal

pub returns : goal.returns
returns c = λ v f. adds_one c.args.value v c.in-Ok.tree c.args.values.now.items c.push.new.self.items f c.in-Ok.ensures.tree c.in_ok-push.ensures.items
