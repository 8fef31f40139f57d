use Rattle.std.proofs.Common.{arith}
use Rattle.store_pipeline.proofs.SortLemmas.{full_of, no_keys}
use Rattle.store_pipeline.proofs.sorted.first.TopN.is_done.Goals as goal
use Rattle.store_pipeline.specs.Bodies.{keys_of}

pub returns : goal.returns
returns c on ds more h =
    let self = c.args.self.now in
    full_of (keys_of self.keys.now) self.limit ds more self.bodies.items (no_keys self.keys.now c.is_empty.result c.is_empty.ensures on) (omega (arith, c.if-held-self.false, c.len-held.ensures, self.bodies.ok.0)) h
