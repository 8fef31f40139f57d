-- Results seen through a function, and a next step from a result.
use Rattle.std.specs.Prelude.{Result, Ok, Err}

-- the result with `view` applied to its value
abbrev pub result_map : {X Y E : Type 0} → (X → Y) → Result X E → Result Y E
result_map view (Ok x) = Ok (view x)
result_map view (Err e) = Err e

-- the next step from the value, if there is one
infixl 10 ◌>>=◌
abbrev pub ◌>>=◌ : {X Y E : Type 0} → Result X E → (X → Result Y E) → Result Y E
(Ok x) >>= f = f x
(Err e) >>= f = Err e
