-- The pipelines of `aggregate` by which drivers count (MongoDB's specification of CRUD for drivers, `countDocuments`).
use Rattle.std.specs.Prelude.{◌≡◌, ◌⊎◌, pos, ℕ, suc, ◌-◌, ◌^◌, ◌==◌, if◌then◌else◌, List, [], ◌∷◌, codes, Option, Some, None}
use Rattle.bson_base.specs.Value.{Value, Members, array, document, int32, look_up, member, no_members, null, scalar}
use Rattle.bson_model.specs.View.{items_of}
use Rattle.fallowtime_statements.specs.Lines.{IsGiven, IsWhole}

abbrev pub size : Members → ℕ
size no_members = 0
size (member k v ms) = suc (size ms)

-- the value under a key, if that is the only one
abbrev pub only : List ℕ → Members → Option Value
only key ms = if size ms == 1 then look_up key ms else None

-- the operand of a stage of this name
abbrev pub operand_of : List ℕ → Value → Option Value
operand_of name (document ms) = only name ms
operand_of name v = None

-- ---- stages

-- `{$match: Q}`
abbrev pub IsMatch : Value → Members → Type 0
IsMatch s q = (v : Value) × (operand_of (codes "$match") s ≡ Some v) × IsGiven (Some v) q

-- a whole number from 0
abbrev pub HasNumber : Value → ℕ → Type 0
HasNumber v n = IsWhole (Some v) (pos n)

-- `{$skip: N}`; none is 0
abbrev pub IsSkip : Option Value → ℕ → Type 0
IsSkip None n = n ≡ 0
IsSkip (Some s) n = (v : Value) × (operand_of (codes "$skip") s ≡ Some v) × HasNumber v n

-- `{$limit: N}`; without one there are as many as there are
abbrev pub IsLimit : Option Value → ℕ → Type 0
IsLimit None n = n ≡ 2 ^ 63 - 1
IsLimit (Some s) n = (v : Value) × (operand_of (codes "$limit") s ≡ Some v) × HasNumber v n

-- no path, so that all are one group
abbrev pub IsConstant : Value → Type 0
IsConstant (scalar null) = Unit {0}
IsConstant (scalar (int32 z)) = Unit {0}
IsConstant v = ⊥

-- `{$sum: 1}`
abbrev pub IsSum : Value → Type 0
IsSum v = operand_of (codes "$sum") v ≡ Some (scalar (int32 (pos 1)))

-- `{n: {$sum: 1}}`
abbrev pub CountsAll : Members → Type 0
CountsAll g = (n : Value) × (look_up (codes "n") g ≡ Some n) × IsSum n

-- `{_id: ID, n: {$sum: 1}}`
abbrev pub IsGroupOf : Members → Value → Type 0
IsGroupOf g id = (size g ≡ 2) × CountsAll g × (look_up (codes "_id") g ≡ Some id) × IsConstant id

abbrev pub IsGroupIn : Value → Value → Type 0
IsGroupIn (document g) id = IsGroupOf g id
IsGroupIn v id = ⊥

abbrev pub IsGroup : Value → Value → Type 0
IsGroup s id = (v : Value) × (operand_of (codes "$group") s ≡ Some v) × IsGroupIn v id

-- ---- pipelines

abbrev pub CountsBy : Value → Option Value → Option Value → Value → Members → ℕ → ℕ → Value → Type 0
CountsBy first s l group q skip most id = IsMatch first q × IsSkip s skip × IsLimit l most × IsGroup group id

abbrev pub IsCountingOf : Value → Value → Value → Members → ℕ → ℕ → Value → Type 0
IsCountingOf first s group q skip most id = CountsBy first (Some s) None group q skip most id ⊎ CountsBy first None (Some s) group q skip most id

-- `$match`, `$skip` if it is there, `$limit` if it is there, and `$group`
abbrev pub IsCounting : List Value → Members → ℕ → ℕ → Value → Type 0
IsCounting (m ∷ g ∷ []) q skip most id = CountsBy m None None g q skip most id
IsCounting (m ∷ s ∷ g ∷ []) q skip most id = IsCountingOf m s g q skip most id
IsCounting (m ∷ s ∷ l ∷ g ∷ []) q skip most id = CountsBy m (Some s) (Some l) g q skip most id
IsCounting vs q skip most id = ⊥

-- the stages of an array
abbrev pub CountsIn : Option Value → Members → ℕ → ℕ → Value → Type 0
CountsIn pipeline q skip most id = (vs : List Value) × (pipeline ≡ Some (array (items_of vs))) × IsCounting vs q skip most id
