-- Lists of places.
use Rattle.std.specs.Prelude.{◌<ℤ◌, ℤ, List, [], ◌∷◌, Bool}
use Rattle.std.specs.List.{AllByRecursion, list_any}
use Rattle.std.specs.Ordering.{int_eq}

abbrev pub is_among : ℤ → List ℤ → Bool
is_among p = list_any (λ q. int_eq q p)

abbrev pub Ascends : List ℤ → Type 0
Ascends [] = Unit {0}
Ascends (p ∷ ps) = AllByRecursion (λ q. p <ℤ q) ps × Ascends ps
