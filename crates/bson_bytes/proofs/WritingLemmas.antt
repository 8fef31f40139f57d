-- What a loop over parts has written, and what is left.
use Rattle.std.proofs.Common.{◌≡◌, ℕ, ◌≤◌, List, ◌++◌}
use Rattle.bson_base.specs.Kinds.{HasNo00, IsPlainScalar}
use Rattle.bson_base.specs.Value.{Items, Members, EachItem, EachMember}
use Rattle.bson_bytes.specs.Encode.{members_bytes, members_size, items_bytes, items_size}
use Rattle.bson_bytes.specs.Writing.{StartsWith}

-- the members before the rest are plain, and were written after `begun`
pub record MembersTo (whole rest : Members) (begun out : List ℕ) : Type 0 where
  pub written : out ++ members_bytes rest ≡ begun ++ members_bytes whole
  pub forth : EachMember HasNo00 IsPlainScalar rest → EachMember HasNo00 IsPlainScalar whole
  pub back : EachMember HasNo00 IsPlainScalar whole → EachMember HasNo00 IsPlainScalar rest
  pub smaller : members_size rest ≤ members_size whole
  pub behind : StartsWith out begun

-- the same of items, the first of the rest at the place i
pub record ItemsTo (whole : Items) (i : ℕ) (rest : Items) (begun out : List ℕ) : Type 0 where
  pub written : out ++ items_bytes i rest ≡ begun ++ items_bytes 0 whole
  pub forth : EachItem HasNo00 IsPlainScalar rest → EachItem HasNo00 IsPlainScalar whole
  pub back : EachItem HasNo00 IsPlainScalar whole → EachItem HasNo00 IsPlainScalar rest
  pub smaller : items_size i rest ≤ items_size 0 whole
  pub behind : StartsWith out begun
