-- Equality of trees: documents as maps at every depth, and scalars as they are.
use Rattle.std.specs.Prelude.{◌≡◌, ℕ, List, IsSomeAnd}
use Rattle.bson_base.specs.Value.{Value, scalar, array, document, scoped_code, Items, no_items, item, Members, no_members, member, has_key, look_up}

-- two documents have the same keys
abbrev pub SameKeys : Members → Members → Type 0
SameKeys ms ns = (k : List ℕ) → has_key k ms ≡ has_key k ns

abbrev mutual
  pub Equal : Value → Value → Type 0
  Equal (scalar s) (scalar t) = s ≡ t
  Equal (array vs) (array ws) = EqualItems vs ws
  Equal (document ms) (document ns) = SameKeys ms ns × EqualUnder ms ns
  Equal (scoped_code t ms) (scoped_code u ns) = (t ≡ u) × SameKeys ms ns × EqualUnder ms ns
  Equal _ _ = ⊥

  -- place by place
  pub EqualItems : Items → Items → Type 0
  EqualItems no_items no_items = Unit {0}
  EqualItems (item v vs) (item w ws) = Equal v w × EqualItems vs ws
  EqualItems _ _ = ⊥

  -- each member has an equal value under its key
  pub EqualUnder : Members → Members → Type 0
  EqualUnder no_members ns = Unit {0}
  EqualUnder (member k v ms) ns = IsSomeAnd (look_up k ns) (Equal v) × EqualUnder ms ns
