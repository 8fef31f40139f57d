-- The pipelines of `aggregate` that are one `find` (MongoDB's manual, "Aggregation Stages").
use Rattle.std.specs.Prelude.{◌≡◌, ◌==◌, pos, ℕ, suc, nat_lt, if◌then◌else◌, false, List, [], ◌∷◌, codes, Option, Some, None}
use Rattle.std.specs.Option.{option_and_then, option_map}
use Rattle.std.specs.Str.{bytes_eq}
use Rattle.bson_base.specs.Value.{Value, Members, array, document, look_up, member, no_members}
use Rattle.bson_model.specs.View.{items_of, members_of}
use Rattle.bson_pairs.specs.Keyed.{Key, put}
use Rattle.fallowtime_statements.specs.Counting.{size}
use Rattle.fallowtime_statements.specs.Fields.{is_empty}
use Rattle.fallowtime_statements.specs.Lines.{IsWhole}

-- the first key, with its value
abbrev pub first_member : Members → Option (List ℕ × Value)
first_member no_members = None
first_member (member k v ms) = Some (k, v)

-- the only one
abbrev pub only_member : Members → Option (List ℕ × Value)
only_member ms = if size ms == 1 then first_member ms else None

-- a stage: its name and its operand
abbrev pub stage_of : Value → Option (List ℕ × Value)
stage_of (document ms) = only_member ms
stage_of v = None

-- the part of `find` that a stage of this name is, or where what is found goes
abbrev pub part_of : List ℕ → Option (List ℕ)
part_of name =
    if bytes_eq name (codes "$match") then Some (codes "filter")
    else if bytes_eq name (codes "$sort") then Some (codes "sort")
    else if bytes_eq name (codes "$skip") then Some (codes "skip")
    else if bytes_eq name (codes "$limit") then Some (codes "limit")
    else if bytes_eq name (codes "$project") then Some (codes "projection")
    else if bytes_eq name (codes "$out") then Some (codes "out")
    else None

abbrev pub behind_query : ℕ → Option ℕ
behind_query n = if n == 0 then Some 1 else if n == 2 then Some 3 else None

abbrev pub behind_order : ℕ → Option ℕ
behind_order n = if n == 0 then Some 2 else if n == 1 then Some 3 else None

-- up to a place, and no further
abbrev pub up_to : ℕ → ℕ → Option ℕ
up_to m n = if nat_lt n m then Some m else None

-- How far a pipeline is: 1 behind a query, 2 behind an order, 3 behind both, of which either may be the first, 4 behind a skip, 5 behind a
-- limit, 6 behind a projection, 7 at the end of what goes into a collection. So a stage stands where a `find` does its part, and none stands twice.
abbrev pub place_behind : ℕ → List ℕ → Option ℕ
place_behind n name =
    if bytes_eq name (codes "$match") then behind_query n
    else if bytes_eq name (codes "$sort") then behind_order n
    else if bytes_eq name (codes "$skip") then up_to 4 n
    else if bytes_eq name (codes "$limit") then up_to 5 n
    else if bytes_eq name (codes "$project") then up_to 6 n
    else if bytes_eq name (codes "$out") then up_to 7 n
    else None

abbrev pub place_in : ℕ → Value → Option ℕ
place_in n s = option_and_then (λ (x : List ℕ × Value). place_behind n x.0) (stage_of s)

abbrev pub with_part : List (Key × Value) → List ℕ × Value → Option (List (Key × Value))
with_part ps x = option_map (λ p. put p x.1 ps) (part_of x.0)

abbrev pub with_stage : List (Key × Value) → Value → Option (List (Key × Value))
with_stage ps s = option_and_then (with_part ps) (stage_of s)

-- the parts of the `find` that stages are, behind a place and the parts before it
abbrev pub finds_by : ℕ → List (Key × Value) → List Value → Option (List (Key × Value))
finds_by n ps [] = Some ps
finds_by n ps (s ∷ ss) = option_and_then (λ m. option_and_then (λ qs. finds_by m qs ss) (with_stage ps s)) (place_in n s)

-- it says something
abbrev pub IsUsed : Option Value → Type 0
IsUsed None = Unit {0}
IsUsed (Some v) = is_empty v ≡ false

-- it is from 1
abbrev pub IsFromOne : Option Value → Type 0
IsFromOne None = Unit {0}
IsFromOne (Some v) = (n : ℕ) × IsWhole (Some v) (pos (suc n))

-- an order and a projection of at least one key, and a limit of at least one document, as MongoDB has no others
abbrev pub AreUsed : Members → Type 0
AreUsed ms = IsUsed (look_up (codes "sort") ms) × IsUsed (look_up (codes "projection") ms) × IsFromOne (look_up (codes "limit") ms)

-- the pipeline is the `find` with these members
abbrev pub FindsIn : Option Value → Members → Type 0
FindsIn pipeline ms =
    (vs : List Value) × (ps : List (Key × Value)) × (pipeline ≡ Some (array (items_of vs))) × (finds_by 0 [] vs ≡ Some ps) × (ms ≡ members_of ps) × AreUsed ms
