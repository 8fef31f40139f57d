use Rattle.std.proofs.Common.{refl}
use Rattle.store_pipeline.proofs.BodyLemmas.{body_there, empty_there}
use Rattle.store_pipeline.proofs.sorted.sorting.body_at.Goals as goal

pub returns-then-place-bodies : goal.returns-then-place-bodies
returns-then-place-bodies c = λ ds are. body_there c.args.bodies.now ds c.args.place c.index-bodies-place.result c.as_slice.result.now are c.if-place-bodies.true c.index-bodies-place.is c.as_slice.ensures.value

pub returns-else-place-bodies : goal.returns-else-place-bodies
returns-else-place-bodies c = λ ds are. empty_there c.args.bodies.now ds c.args.place _ are c.if-place-bodies.false refl
