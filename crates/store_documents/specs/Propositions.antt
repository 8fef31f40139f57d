-- What has one proof at most.
use Rattle.std.specs.Prelude.{ℕ, List, [], ◌∷◌}
use Rattle.std.specs.Coded.{×_prop, Unit-prop, le_prop}
use Rattle.bson_base.specs.Kinds.{HasNo00}
use Rattle.store_model.specs.State.{IsName}

no_00_is_one : (bs : List ℕ) → IsProp (HasNo00 bs)
no_00_is_one [] = Unit-prop
no_00_is_one (b ∷ bs) = ×_prop le_prop (no_00_is_one bs)

pub name_is_one : (n : List ℕ) → IsProp (IsName n)
name_is_one n = ×_prop le_prop (no_00_is_one n)
