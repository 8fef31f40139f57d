-- The members of an object that are made of pairs, one by one.
use Rattle.std.specs.Prelude.{◌≡◌, ℕ, List, [], ◌∷◌, Option, Some, option_map, option_and_then}
use Rattle.std.specs.Borrow.{Bor}
use Rattle.std.specs.List.{AllZip}
use Rattle.serde_json.specs.Data.{Data, Members, no_members, member}

-- beside each other, pairs have the same keys, and values of which this holds
abbrev pub ShowPairs : {T V : Type 0} → (T → V → Type 0) → List (Bor (List ℕ) × T) → List (List ℕ × V) → Type 0
ShowPairs R rs ps = AllZip (λ r p. (p.0 ≡ r.0.now) × R r.1 p.1) rs ps

-- the members that f makes of pairs, in their order
abbrev pub pair_forms : {V : Type 0} → (V → Option Data) → List (List ℕ × V) → Option Members
pair_forms f [] = Some no_members
pair_forms f (p ∷ ps) = option_and_then (λ j. option_map (member p.0 j) (pair_forms f ps)) (f p.1)
