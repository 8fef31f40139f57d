use Rattle.std.proofs.Common.{◌<◌, ◌+◌, length, drop, ap, arith}
use Rattle.store_question.specs.Filters.{filter_of}
use Rattle.bson_store.specs.Serving.{IsSelected}
use Rattle.bson_store.proofs.ServingLemmas.{at_head, best_on, left_on}
use Rattle.bson_store.proofs.indexed.indexes.Indexes.places_of_filter.Goals as goal

pub loop-index-preserved : goal.loop-index-preserved
loop-index-preserved c =
    let ixs = c.args.self.now in
    let xs = ixs.list.items in
    let coll = c.args.coll.now in
    let i = c.loop-index.index-index in
    let ix = c.index-item.result in
    let inv = c.loop-index.invariant in
    let is = rw c.as_slice-index-items.ensures.value at c.index-item.is in
    let low : i < length xs = (let n = ap length c.as_slice-index-items.ensures.value in omega (arith, n, c.loop-index-test.true, c.loop-index.auto.index-index-end)) in
    let head = at_head xs i ix low is in
    record {
      best = best_on ixs coll (IsSelected (filter_of c.args.filter.now)) ix (drop (i + 1) xs) (drop i xs) c.loop-index.best c.in_ok-best.best head inv.left c.in_ok-best.ensures inv.best;
      left = left_on ixs coll ix (drop (i + 1) xs) (drop i xs) head inv.left;
    }
