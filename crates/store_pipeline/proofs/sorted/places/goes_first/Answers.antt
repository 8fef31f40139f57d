use Rattle.std.proofs.Common.{refl}
use Rattle.store_pipeline.proofs.SearchLemmas.{first_inside, first_told}
use Rattle.store_pipeline.proofs.sorted.places.goes_first.Goals as goal
use Rattle.store_pipeline.specs.Bodies.{keys_of}

pub returns : goal.returns
returns c = λ es are d is t.
    first_told (keys_of c.args.keys.now) c.args.bodies.now c.args.body.now _ c.index-bodies-0.result c.as_slice.result.now c.is_before.result (first_inside c.is_empty.result _ c.is_empty.ensures c.if-is_empty.false)
    c.index-bodies-0.is c.as_slice.ensures.value c.is_before.ensures refl t es are d is
