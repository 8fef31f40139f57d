-- What has one proof at most.
use Rattle.std.specs.Prelude.{◌<ℤ◌, ℤ, List, [], ◌∷◌}
use Rattle.std.specs.Coded.{×_prop, Unit-prop}
use Rattle.std.specs.List.{AllByRecursion-prop}
use Rattle.std.proofs.Props.{props}
use Rattle.bson_store.specs.Lists.{Ascends}

below_is_one : (p q : ℤ) → IsProp (p <ℤ q)
below_is_one p q = hlevel props

pub ascends_is_one : (ps : List ℤ) → IsProp (Ascends ps)
ascends_is_one [] = Unit-prop
ascends_is_one (p ∷ ps) = ×_prop (AllByRecursion-prop (λ q. p <ℤ q) (below_is_one p) ps) (ascends_is_one ps)
