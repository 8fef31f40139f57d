-- What the parts of the comparison return.
use Rattle.std.specs.Prelude.{◌≡◌, true}
use Rattle.bson_base.specs.Value.{Value, scalar, Members, no_members, member, has_key}

-- each key of the first is in the second
abbrev pub HasKeysOf : Members → Members → Type 0
HasKeysOf no_members ns = Unit {0}
HasKeysOf (member k v ms) ns = (has_key k ns ≡ true) × HasKeysOf ms ns

-- a value with no value inside
abbrev pub IsScalar : Value → Type 0
IsScalar (scalar s) = Unit {0}
IsScalar _ = ⊥
