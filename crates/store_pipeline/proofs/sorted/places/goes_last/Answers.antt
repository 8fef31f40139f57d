use Rattle.std.proofs.Common.{refl}
use Rattle.store_pipeline.proofs.SearchLemmas.{last_inside, last_told, refused}
use Rattle.store_pipeline.proofs.sorted.places.goes_last.Goals as goal
use Rattle.store_pipeline.specs.Bodies.{keys_of}

pub returns : goal.returns
returns c = λ es are d is t.
    last_told (keys_of c.args.keys.now) c.args.bodies.now c.args.body.now _ c.index-bodies-bodies.result c.as_slice-last.result.now c.is_before.result (last_inside c.is_empty.result _ c.is_empty.ensures c.if-is_empty.false)
    c.index-bodies-bodies.is c.as_slice-last.ensures.value c.is_before.ensures refl (refused c.is_before.result t) es are d is
