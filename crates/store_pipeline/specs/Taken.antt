-- Values while they are taken of documents.
use Rattle.std.specs.Prelude.{◌≡◌, ℕ, List, [], map, Option, Some, None, option_map}
use Rattle.std.specs.List.{AllByRecursion, cons_option}
use Rattle.bson_base.specs.Value.{Value}
use Rattle.bson_model.specs.View.{view}
use Rattle.bson_model.specs.declared.bson.Bson.{Bson}
use Rattle.store_pipeline.specs.Faithful.{IsFaithful}
use Rattle.store_pipeline.specs.Operands.{under}

-- what an item of an array leads to, if it leads to any value
abbrev pub through : List ℕ → (Value → Option Value) → List ℕ → Value → List Value
through k on place v = cons_option (under k on v) []

abbrev pub AllFaithful : List Value → Type 0
AllFaithful vs = AllByRecursion IsFaithful vs

abbrev pub IfAnyIsFaithful : Option Value → Type 0
IfAnyIsFaithful None = Unit {0}
IfAnyIsFaithful (Some v) = IsFaithful v

-- it is the tree of this value, which comes back from its bytes
abbrev pub IsTree : Bson → Value → Type 0
IsTree b v = (view b ≡ v) × IsFaithful v

abbrev pub IsTreeIfAny : Option Bson → Option Value → Type 0
IsTreeIfAny b o = (option_map view b ≡ o) × IfAnyIsFaithful o

abbrev pub AreTrees : List Bson → List Value → Type 0
AreTrees bs vs = (map view bs ≡ vs) × AllFaithful vs
