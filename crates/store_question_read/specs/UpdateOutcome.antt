-- What an error says of a fault, and when a result is the one that is given.
use Rattle.std.specs.Prelude.{◌≡◌, ℕ, ℤ, List, map, Some, None, Result, Ok, Err, Vec, IsSomeAnd, string_bytes}
use Rattle.std.specs.declared.alloc.Global.{Global}
use Rattle.json.specs.Json.{Json, document as tree_of}
use Rattle.json.specs.Strict.{HasUniqueKeys}
use Rattle.store_update.specs.Plan.{Plan, plan_of}
use Rattle.store_update.specs.declared.operation.Step.{Step}
use Rattle.store_question_read.specs.Read.{Fault, fault, no_fields, no_operator, no_update, update}
use Rattle.store_question_read.specs.declared.update_error.ReadError.{ReadError}
use Rattle.store_question_read.specs.declared.update_error.ReadError.TheVariants.{Json as NoJson, RepeatedKey, Update, Operator, Fields, At, Memory}

-- the error names the fault; out of memory stands for any fault
abbrev pub Names : ReadError → Fault → Type 0
Names Memory f = Unit {0}
Names Update f = f ≡ no_update
Names (Operator k) f = f ≡ no_operator (string_bytes k)
Names (Fields k) f = f ≡ no_fields (string_bytes k)
Names (At r k p) f = f ≡ fault r (string_bytes k) (string_bytes p)
Names (NoJson n) f = ⊥
Names RepeatedKey f = ⊥

abbrev pub Fails : {Y : Type 0} → ReadError → Result Y Fault → Type 0
Fails Memory r = Unit {0}
Fails Update r = r ≡ Err no_update
Fails (Operator k) r = r ≡ Err (no_operator (string_bytes k))
Fails (Fields k) r = r ≡ Err (no_fields (string_bytes k))
Fails (At x k p) r = r ≡ Err (fault x (string_bytes k) (string_bytes p))
Fails (NoJson n) r = ⊥
Fails RepeatedKey r = ⊥

-- the result, seen by `view`, is the one that is given, or its error names the given fault
abbrev pub Gives : {X Y : Type 0} → (X → Y) → Result X ReadError → Result Y Fault → Type 0
Gives view (Ok x) r = r ≡ Ok (view x)
Gives view (Err e) r = Fails e r

-- what the steps plan
abbrev pub plans_of : Vec Step Global → List Plan
plans_of steps = map plan_of steps.items

-- what a text is as an update
abbrev pub IsUpdate : ℤ → List ℕ → Result (Vec Step Global) ReadError → Type 0
IsUpdate now t (Ok steps) = (j : Json) × (tree_of t ≡ Some j) × HasUniqueKeys j × (update now j ≡ Ok (plans_of steps))
IsUpdate now t (Err Memory) = Unit {0}
IsUpdate now t (Err (NoJson n)) = tree_of t ≡ None
IsUpdate now t (Err RepeatedKey) = IsSomeAnd (tree_of t) (λ j. ¬ HasUniqueKeys j)
IsUpdate now t (Err e) = (j : Json) × (tree_of t ≡ Some j) × HasUniqueKeys j × Fails e (update now j)
