use Rattle.std.proofs.Common.{rules, ◌≡◌, ◌∷◌, ◌++◌, ℤ, ℕ, [], ◌∙◌, w64, ap, pos, negsuc, filter, ◌-◌, ◌^◌}
use Rattle.std.proofs.lemmas.Int.{to_z-of_z}
use Rattle.std.specs.BTreeMap.Range.{range_contains}
use Rattle.std.specs.declared.ops.Bound.TheVariants.{Included}
use Rattle.bson_store.specs.Ranked.{beside}
use Rattle.bson_store.proofs.RankedLemmas.{bounded, found_between, one_more}
use Rattle.bson_store.proofs.indexed.ranks.Ranks.between.Goals as goal

pub loop-key-preserved : goal.loop-key-preserved
loop-key-preserved c =
    let split : c.loop-key.key-iterator ≡ c.in-Some.key.now ∷ c.next.new.self = (let s = c.in-Some.ensures.steps in search rules) in
    let put : c.push.new.self.items ≡ c.loop-key.places.items ++ c.in-Some.key.now.2 ∷ [] = (let s = c.in_ok-push.ensures.items in search rules) in
    one_more c.loop-key.places.items c.push.new.self.items _ c.in-Some.key.now c.loop-key.key-iterator c.next.new.self split put c.loop-key.invariant

pub returns : goal.returns
returns c q p low high there =
    let is : c.into_iter-key-iterator.result ≡ filter (range_contains (λ (x y : ℕ × ℤ × ℤ). beside x.0 x.1 x.2 y) (Included (c.args.rank, c.args.low, negsuc (2 ^ 63 - 1))) (Included (c.args.rank, c.args.high, pos (2 ^ 63 - 1)))) c.args.self.now.keys.keys = (c.into_iter-key-iterator.ensures.into_iter_gives ∙ bounded c.args.self.now c.args.rank _ c.args.low _ c.args.high c.new.result.start c.new.result.end c.range-key-items.result (ap (λ (k : ℕ × ℤ × ℤ). k.0) c.new.ensures.start) (ap (λ (k : ℕ × ℤ × ℤ). k.1) c.new.ensures.start) (ap (λ (k : ℕ × ℤ × ℤ). k.2) c.new.ensures.start) (ap (λ (k : ℕ × ℤ × ℤ). k.0) c.new.ensures.end) (ap (λ (k : ℕ × ℤ × ℤ). k.1) c.new.ensures.end) (ap (λ (k : ℕ × ℤ × ℤ). k.2) c.new.ensures.end) (to_z-of_z w64 c.args.low c.ranges.low) (to_z-of_z w64 c.args.high c.ranges.high) (c.range-key-items.ensures.between c.new.ensures.exhausted)) in
    found_between c.args.rank c.args.low c.args.high q p low high there.1 c.args.self.now c.into_iter-key-iterator.result c.loop-key.key-iterator c.loop-key.places.items is c.in-None.ensures.steps.0 c.loop-key.invariant there
