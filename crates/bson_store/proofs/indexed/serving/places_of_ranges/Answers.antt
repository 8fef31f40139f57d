use Rattle.std.proofs.Common.{◌<◌, length, arith}
use Rattle.bson_store.specs.Fronts.{LiesIn, LiesInAll}
use Rattle.bson_store.proofs.ServingLemmas.{by_either, by_part, head_range}
use Rattle.bson_store.proofs.indexed.serving.places_of_ranges.Goals as goal

pub loop-range-preserved : goal.loop-range-preserved
loop-range-preserved c =
    let i = c.loop-range.range-index in
    let rs = c.args.ranges.now in
    let r = c.range-item.result in
    let low : i < length rs = omega (arith, c.loop-range-test.true, c.loop-range.auto.range-index-end) in
    let part = by_part c.args.index.now (LiesIn r) (LiesInAll rs) c.in_ok-places.places (λ d all. (head_range rs i r d low c.range-item.is (c.loop-range.invariant.narrow d all)).0) c.in_ok-places.ensures in
    record {
      served = by_either c.args.index.now (LiesInAll rs) c.loop-range.least c.in_ok-places.places c.fewer-least.result c.fewer-least.ensures c.loop-range.invariant.served part;
      narrow = λ d all. (head_range rs i r d low c.range-item.is (c.loop-range.invariant.narrow d all)).1;
    }
