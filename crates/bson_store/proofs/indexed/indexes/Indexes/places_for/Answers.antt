use Rattle.std.proofs.Common.{◌<◌, ◌+◌, length, drop, ap, arith}
use Rattle.bson_store.specs.Fronts.{Passes}
use Rattle.bson_store.proofs.ServingLemmas.{at_head, best_on, by_ranges, first_best, left_on}
use Rattle.bson_store.proofs.indexed.indexes.Indexes.places_for.Goals as goal

pub loop-index-init : goal.loop-index-init
loop-index-init c = record {
  best = first_best c.args.self.now c.args.coll.now c.args.front.now c.in_ok-best.best c.in_ok-best.ensures.ascending c.in_ok-best.ensures.all;
  left = λ p b h. h;
}

pub loop-index-preserved : goal.loop-index-preserved
loop-index-preserved c =
    let ixs = c.args.self.now in
    let xs = ixs.list.items in
    let coll = c.args.coll.now in
    let i = c.loop-index.index-index in
    let ix = c.index-item.result in
    let inv = c.loop-index.invariant in
    let is = rw c.as_slice-index-items.ensures.value at c.index-item.is in
    let low : i < length xs = (let n = ap length c.as_slice-index-items.ensures.value in omega (arith, n, c.loop-index-test.true, c.loop-index.auto.index-index-end)) in
    let head = at_head xs i ix low is in
    record {
      best = best_on ixs coll (Passes c.args.front.now) ix (drop (i + 1) xs) (drop i xs) c.loop-index.best c.in_ok-best-2.best head inv.left (by_ranges ix coll c.args.front.now c.loop-index.best c.in_ok-best-2.best c.in_ok-best-2.ensures) inv.best;
      left = left_on ixs coll ix (drop (i + 1) xs) (drop i xs) head inv.left;
    }
