-- Settling a tree adds no levels.
use Rattle.std.proofs.Common.{ℕ, max, ◌≤◌, List, unwrap_or, arith}
use Rattle.bson_base.specs.Value.{Value, scalar, array, document, scoped_code, Items, no_items, item, Members, no_members, member, look_up, levels, items_levels, members_levels}
use Rattle.bson_bytes.specs.Spells.{settle_value, settle_items, settle}
use Rattle.bson_base.proofs.MemberLemmas.{without_levels, found_levels}
use Rattle.bson_bytes.proofs.DistinctLemmas.{chosen}

found_low : (k : List ℕ) (ms : Members) (u : Value) → levels (unwrap_or (look_up k ms) u) ≤ max (levels u) (members_levels ms)
found_low k ms u = chosen {P = λ w. levels w ≤ max (levels u) (members_levels ms)} (look_up k ms) u (omega arith) (λ w e. let low = found_levels k ms w e in omega (arith, low))

mutual
  pub settled_value_low : (v : Value) → levels (settle_value v) ≤ levels v
  settled_value_low (scalar s) = omega arith
  settled_value_low (array vs) = omega (arith, settled_items_low vs)
  settled_value_low (document ms) = omega (arith, settled_low ms)
  settled_value_low (scoped_code t ms) = omega (arith, settled_low ms)

  settled_items_low : (vs : Items) → items_levels (settle_items vs) ≤ items_levels vs
  settled_items_low no_items = omega arith
  settled_items_low (item v vs) = omega (arith, settled_value_low v, settled_items_low vs)

  pub settled_low : (ms : Members) → members_levels (settle ms) ≤ members_levels ms
  settled_low no_members = omega arith
  settled_low (member k v ms) = omega (arith, settled_value_low v, settled_low ms, found_low k (settle ms) (settle_value v), without_levels k (settle ms))
