use Rattle.std.proofs.Common.{◌≡◌, ◌<◌, length, true, arith, rules}
use Rattle.bson_store.proofs.AmongLemmas.{among_first}
use Rattle.bson_store.proofs.indexed.rising.once_each.Goals as goal

pub loop-place-preserved : goal.loop-place-preserved
loop-place-preserved c =
    let i = c.loop-place.place-index in
    let xs = c.args.places.now in
    let low : i < length xs = omega (arith, c.loop-place-test.true, c.loop-place.auto.place-index-end) in
    let put : c.in_ok-put_behind.field-0 ≡ true = (let f = c.if-not-branch.false in search rules) in
    record {
      ascending = c.in_ok-put_behind.ensures.ascending c.loop-place.invariant.ascending;
      all = λ p h. among_first p _ xs c.put_behind.new.out.items i low (search rules) (λ q t. c.in_ok-put_behind.ensures.kept q (c.loop-place.invariant.all q t)) (c.in_ok-put_behind.ensures.there put) h;
    }
