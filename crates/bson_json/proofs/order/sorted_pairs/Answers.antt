use Rattle.std.proofs.Common.{◌≡◌, drop, subst}
use Rattle.std.specs.Cmp.Lexicographic.{slice_cmp}
use Rattle.std.specs.List.{IsAllAdjacentAnswer}
use Rattle.std.specs.Ordering.{is_lt, nat_cmp}
use Rattle.bson_raw.specs.View.{bytes_of}
use Rattle.bson_json.proofs.OrderedLemmas.{in_order, key_twice}
use Rattle.bson_json.proofs.order.sorted_pairs.Goals as goal

pub returns-clause-order : goal.returns-clause-order
returns-clause-order c =
    let new = c.sort.new.pairs.items in
    let seen = subst (λ xs. IsAllAdjacentAnswer (λ x y b. b ≡ is_lt (slice_cmp nat_cmp x.0.now y.0.now)) xs c.ascends.result) c.as_slice.ensures.value c.ascends.ensures in
    in_order c.args.keys (drop 4 (bytes_of c.args.document)) c.in_ok-pairs.pairs.items new c.in_ok-pairs.ensures.shown c.sort.ensures.permutation
    (subst (λ t. IsAllAdjacentAnswer (λ x y b. b ≡ is_lt (slice_cmp nat_cmp x.0.now y.0.now)) new t) c.if-not-ascends.false seen)

pub returns-then-not-ascends-clause-seen : goal.returns-then-not-ascends-clause-seen
returns-then-not-ascends-clause-seen c =
    let new = c.sort.new.pairs.items in
    let seen = subst (λ xs. IsAllAdjacentAnswer (λ x y b. b ≡ is_lt (slice_cmp nat_cmp x.0.now y.0.now)) xs c.ascends.result) c.as_slice.ensures.value c.ascends.ensures in
    key_twice c.args.keys (drop 4 (bytes_of c.args.document)) c.in_ok-pairs.pairs.items new c.in_ok-pairs.ensures.shown c.sort.ensures.permutation c.sort.ensures.sorted
    (subst (λ t. IsAllAdjacentAnswer (λ x y b. b ≡ is_lt (slice_cmp nat_cmp x.0.now y.0.now)) new t) c.if-not-ascends.true seen)
