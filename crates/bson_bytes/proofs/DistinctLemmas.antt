-- In a settled tree keys are distinct, and what holds of all its parts holds of each.
use Rattle.std.proofs.Common.{◌≡◌, Option, Some, None, unwrap_or, refl}
use Rattle.bson_base.specs.Value.{Value, scalar, array, document, scoped_code, Items, no_items, item, Members, no_members, member, look_up, HasDistinctKeys, ItemsHaveDistinctKeys, MembersHaveDistinctKeys}
use Rattle.bson_bytes.specs.Spells.{settle_value, settle_items, settle}
use Rattle.bson_base.proofs.MemberLemmas.{gone, without_distinct, distinct_at}

pub chosen : {P : Value → Type 0} (o : Option Value) (v : Value) → P v → ((w : Value) → o ≡ Some w → P w) → P (unwrap_or o v)
chosen None v here found = here
chosen (Some w) v here found = found w refl

mutual
  pub distinct_value : (v : Value) → HasDistinctKeys (settle_value v)
  distinct_value (scalar s) = tt
  distinct_value (array vs) = distinct_items vs
  distinct_value (document ms) = distinct ms
  distinct_value (scoped_code t ms) = distinct ms

  distinct_items : (vs : Items) → ItemsHaveDistinctKeys (settle_items vs)
  distinct_items no_items = tt
  distinct_items (item v vs) = (distinct_value v, distinct_items vs)

  pub distinct : (ms : Members) → MembersHaveDistinctKeys (settle ms)
  distinct no_members = tt
  distinct (member k v ms) =
      let rest = distinct ms in
      (gone k (settle ms), chosen {P = HasDistinctKeys} (look_up k (settle ms)) (settle_value v) (distinct_value v) (λ w e. distinct_at (settle ms) k w rest e), without_distinct k (settle ms) rest)
