-- What says nothing of the values of a group.
use Rattle.std.proofs.Common.{◌≡◌, ℕ, Bool, true, false, List, inl, inr, codes, ◌∙◌}
use Rattle.std.specs.Str.{bytes_eq}
use Rattle.std.proofs.lemmas.Slice.Eq.{bytes_eq-Decides}
use Rattle.json.specs.Json.{Json}
use Rattle.store_pipeline.specs.declared.stage.Accumulator.{Accumulator}
use Rattle.store_pipeline.specs.declared.stage.Operand.{Operand}
use Rattle.fallowtime_requests.specs.Reading.{StopsStages}
use Rattle.fallowtime_requests.specs.Staging.{IsAccumulated, IsOperand}
use Rattle.fallowtime_requests.specs.declared.stop.Stop.{Stop}

-- what stops for one reason stops for what follows from it
pub so_stops : (F G : Type 0) (s : Stop) → (F → G) → StopsStages F s → StopsStages G s
so_stops F G s so (inl memory) = inl memory
so_stops F G s so (inr (fault, is)) = inr (so fault, is)

-- a text that was compared with another one, and isn't it
pub differs : (t u : List ℕ) (b : Bool) → b ≡ bytes_eq t u → b ≡ false → t ≡ u → ⊥
differs t u b is not same =
    let yes : b ≡ true = is ∙ (bytes_eq-Decides t u).1 same in
    absurd cc

-- a key whose value is no operand
pub no_accumulated : (t : List ℕ) (j : Json) → (t ≡ codes "$count" → ⊥) → ((o : Operand) → IsOperand j o → ⊥) → (a : Accumulator) (o : Operand) → IsAccumulated t j a o → ⊥
no_accumulated t j other none a o (inl h) = other h.0
no_accumulated t j other none a o (inr (named, said)) = none o said
