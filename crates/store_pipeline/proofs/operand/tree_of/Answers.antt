use Rattle.std.proofs.Common.{[], ◌∷◌, refl}
use Rattle.store_pipeline.proofs.WalkLemmas.{adds_one}
use Rattle.store_pipeline.proofs.LedLemmas.{tree_alone}
use Rattle.store_pipeline.proofs.operand.tree_of.Goals as goal

pub returns : goal.returns
returns c = λ v f. tree_alone c.in-Ok.tree v (adds_one c.args.value v c.in-Ok.tree [] (c.in-Ok.tree ∷ []) f c.in-Ok.ensures.tree refl)
