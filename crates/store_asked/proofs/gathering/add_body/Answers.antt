use Rattle.std.proofs.Common.{[], ◌∷◌, ◌++◌, sym, subst}
use Rattle.store_pipeline.proofs.PlaceLemmas.{zip_more}
use Rattle.store_pipeline.specs.Bodies.{AreBodies, IsBody}
use Rattle.store_asked.proofs.gathering.add_body.Goals as goal

pub returns : goal.returns
returns c ds are d is =
    subst (λ l. AreBodies l (ds ++ d ∷ [])) (sym c.in_ok-push.ensures.items)
    (zip_more (λ b e. IsBody b.items e) c.args.bodies.now.items ds c.in_ok-copy.copy d are (subst (λ x. IsBody x d) (sym c.in_ok-copy.ensures.items) is))
