-- How many documents are told at once (MongoDB's manual, "find", "aggregate", "getMore", "killCursors").
use Rattle.std.specs.Prelude.{◌≡◌, ℤ, pos, ℕ, List, codes, Option, Some, None}
use Rattle.std.specs.List.{AllZip}
use Rattle.bson_base.specs.Value.{Value, array, document, look_up}
use Rattle.bson_model.specs.View.{items_of}
use Rattle.fallowtime_statements.specs.Lines.{IsWhole, most_of}

-- in a first batch: 101 if that isn't said
abbrev pub IsSize : Option Value → ℕ → Type 0
IsSize None n = n ≡ 101
IsSize (Some v) n = IsWhole (Some v) (pos n)

-- the same of the document `cursor` of `aggregate`
abbrev pub IsSizeIn : Option Value → ℕ → Type 0
IsSizeIn None n = n ≡ 101
IsSizeIn (Some (document ms)) n = IsSize (look_up (codes "batchSize") ms) n
IsSizeIn (Some v) n = ⊥

-- in a further one: as many as there are if none or 0 is said
abbrev pub IsFurther : Option Value → ℕ → Type 0
IsFurther size n = (z : ℤ) × IsWhole size z × (n ≡ most_of z)

-- numbers of finds
abbrev pub AreNumbers : Option Value → List ℤ → Type 0
AreNumbers given ids = (vs : List Value) × (given ≡ Some (array (items_of vs))) × AllZip (λ v z. IsWhole (Some v) z) vs ids
