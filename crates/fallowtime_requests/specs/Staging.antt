-- What a pipeline is as JSON: the question of its first stage, if that is a `$match`, and the stages behind it.
use Rattle.std.specs.Prelude.{◌≡◌, ◌≢◌, ◌⊎◌, ℕ, pos, Bool, true, false, not, ◌&&◌, ◌||◌, ◌==◌, if◌then◌else◌, List, [], ◌∷◌, ◌++◌, length, codes, String, string_bytes, Option, Some, None, Ok, MatchOption, Vec, option_and_then, option_map}
use Rattle.std.specs.List.{list_all}
use Rattle.std.specs.Str.{bytes_eq}
use Rattle.std.specs.declared.alloc.Global.{Global}
use Rattle.json.specs.Find.{get}
use Rattle.json.specs.Json.{Json, Items, no_items, item, Members, no_members, member}
use Rattle.json.specs.Json as json
use Rattle.bson_base.specs.Value.{Value, scalar, null, boolean, int32, int64, double, string}
use Rattle.bson_json_read.specs.Reading.{read}
use Rattle.store_pipeline.specs.declared.sorted.fields.Fields.{Fields}
use Rattle.store_question.specs.Filters.{path_of}
use Rattle.store_model.specs.Filter.{Path}
use Rattle.store_model.specs.State.{id_key}
use Rattle.store_pipeline.specs.declared.stage.Accumulated.{Accumulated}
use Rattle.store_pipeline.specs.declared.stage.Accumulator.{Accumulator}
use Rattle.store_pipeline.specs.declared.stage.Accumulator.TheVariants as accumulator
use Rattle.store_pipeline.specs.declared.stage.Grouping.{Grouping}
use Rattle.store_pipeline.specs.declared.stage.Operand.{Operand}
use Rattle.store_pipeline.specs.declared.stage.Operand.TheVariants as operand
use Rattle.store_pipeline.specs.declared.stage.Stage.{Stage}
use Rattle.store_pipeline.specs.declared.stage.Stage.TheVariants as stage
use Rattle.store_pipeline.specs.declared.stage.Unwinding.{Unwinding}
use Rattle.store_question.specs.Asked.{Asked, all_of, no_asked}
use Rattle.store_question.specs.declared.question.Question.{Question}
use Rattle.store_question_read.specs.Outcome.{Asks as StandsFor}
use Rattle.store_question_read.specs.Query.{begins_with_dollar, keys, query}
use Rattle.store_pipeline.specs.Bodies.{keys_of}
use Rattle.store_pipeline.specs.declared.sorted.keys.SortKey.{SortKey}
use Rattle.fallowtime_requests.specs.Fields.{FieldsAre}
use Rattle.fallowtime_requests.specs.Inputs.{Given, HasQuery, boolean_of}
use Rattle.fallowtime_requests.specs.Orders.{IsCount, keys_under}
use Rattle.fallowtime_requests.specs.declared.staging.StageName.{StageName}
use Rattle.fallowtime_requests.specs.declared.staging.StageName.TheVariants as name

-- ---- names and paths

abbrev pub is_filled : List ℕ → Bool
is_filled k = not (length k == 0)

-- neither a dot nor a 00
abbrev pub is_name_byte : ℕ → Bool
is_name_byte b = not (b == 46) && not (b == 0)

-- a field of a document that a stage makes: it isn't empty and begins with no `$`
abbrev pub is_field_name : List ℕ → Bool
is_field_name t = is_filled t && not (begins_with_dollar t) && list_all is_name_byte t

-- the keys between the dots, none of which is empty; a second `$` begins a variable, which is no path
abbrev pub keys_behind_dollar : List ℕ → Option Path
keys_behind_dollar t = if not (begins_with_dollar t) && list_all is_filled (keys t) then Some (keys t) else None

-- the path of a text that begins with a `$`
abbrev pub field_path : List ℕ → Option Path
field_path [] = None
field_path (b ∷ bs) = if b == 36 then keys_behind_dollar bs else None

-- ---- operands

-- what an operand is as a value; as a text with a `$` in front it is what is at a path
abbrev pub IsSaid : Value → Operand → Type 0
IsSaid v operand.Null = v ≡ scalar null
IsSaid v (operand.Boolean b) = v ≡ scalar (boolean b)
IsSaid v (operand.Int32 z) = v ≡ scalar (int32 z)
IsSaid v (operand.Int64 z) = v ≡ scalar (int64 z)
IsSaid v (operand.Double n) = v ≡ scalar (double n.0)
IsSaid v (operand.String t) = (v ≡ scalar (string (string_bytes t))) × (begins_with_dollar (string_bytes t) ≡ false)
IsSaid v (operand.Path p) = (t : List ℕ) × (v ≡ scalar (string t)) × (field_path t ≡ Some (path_of p.items))

abbrev pub IsOperand : Json → Operand → Type 0
IsOperand j o = (v : Value) × (read j ≡ Ok v) × IsSaid v o

-- ---- groups

abbrev pub accumulator_named : List ℕ → Option Accumulator
accumulator_named t =
    if bytes_eq t (codes "$sum") then Some accumulator.Sum
    else if bytes_eq t (codes "$avg") then Some accumulator.Average
    else if bytes_eq t (codes "$min") then Some accumulator.Least
    else if bytes_eq t (codes "$max") then Some accumulator.Greatest
    else if bytes_eq t (codes "$first") then Some accumulator.First
    else if bytes_eq t (codes "$last") then Some accumulator.Last
    else if bytes_eq t (codes "$push") then Some accumulator.Push
    else if bytes_eq t (codes "$addToSet") then Some accumulator.Include
    else None

abbrev pub is_empty_object : Json → Bool
is_empty_object (json.object no_members) = true
is_empty_object j = false

-- `{"$count":{}}` adds 1 for each document
abbrev pub IsAccumulated : List ℕ → Json → Accumulator → Operand → Type 0
IsAccumulated t j a o =
    ((t ≡ codes "$count") × (is_empty_object j ≡ true) × (a ≡ accumulator.Sum) × (o ≡ operand.Int32 (pos 1)))
    ⊎ ((accumulator_named t ≡ Some a) × IsOperand j o)

abbrev pub IsAccumulation : Json → Accumulator → Operand → Type 0
IsAccumulation (json.object (member t j no_members)) a o = IsAccumulated t j a o
IsAccumulation _ a o = ⊥

abbrev pub IsField : List ℕ → Json → Accumulated → Type 0
IsField t j f = (is_field_name t ≡ true) × (string_bytes f.name ≡ t) × IsAccumulation j f.accumulator f.operand

-- a member adds its field to others, and the `_id` adds none; or it says none
abbrev pub AddsField : List ℕ → Json → List Accumulated → List Accumulated → Type 0
AddsField t j old new = ((t ≡ id_key) × (new ≡ old)) ⊎ ((t ≢ id_key) × ((f : Accumulated) × IsField t j f × (new ≡ old ++ f ∷ [])))

abbrev pub SaysNoField : List ℕ → Json → Type 0
SaysNoField t j = (t ≢ id_key) × ((f : Accumulated) → IsField t j f → ⊥)

-- a field for each member except the `_id`, in their order
abbrev pub AreFields : Members → List Accumulated → Type 0
AreFields no_members fs = fs ≡ []
AreFields (member t j ms) fs =
    ((t ≡ id_key) × AreFields ms fs)
    ⊎ ((t ≢ id_key) × ((f : Accumulated) × (rest : List Accumulated) × (fs ≡ f ∷ rest) × IsField t j f × AreFields ms rest))

abbrev pub IsGrouping : Json → Grouping → Type 0
IsGrouping (json.object ms) g = (k : Json) × (get id_key (json.object ms) ≡ Some k) × IsOperand k g.key × AreFields ms g.fields.items
IsGrouping j g = ⊥

-- ---- arrays taken apart

-- a path, and whether a document without an item stays
pub record Unwound : Type 0 where
  pub path : Path
  pub keeps : Bool

abbrev pub unwound_of : Unwinding → Unwound
unwound_of u = record { path = path_of u.path.items; keeps = u.keeps }

abbrev pub unwound_at : Json → Bool → Option Unwound
unwound_at (json.string t) keeps = option_map (λ p. record { path = p; keeps = keeps }) (field_path t)
unwound_at j keeps = None

abbrev pub unwound_by : Option Json → Option Bool → Option Unwound
unwound_by path keeps = option_and_then (λ j. option_and_then (λ k. unwound_at j k) keeps) path

abbrev pub keeps_key : List ℕ
keeps_key = codes "preserveNullAndEmptyArrays"

abbrev pub are_unwind_keys : Members → Bool
are_unwind_keys no_members = true
are_unwind_keys (member t j ms) = (bytes_eq t (codes "path") || bytes_eq t keeps_key) && are_unwind_keys ms

-- without that key such a document doesn't stay
abbrev pub keeps_of : Option Json → Option Bool
keeps_of None = Some false
keeps_of (Some j) = boolean_of j

-- a path alone, or an object with it that has no other key than these
abbrev pub unwound_in : Json → Option Unwound
unwound_in (json.object ms) =
    if are_unwind_keys ms then unwound_by (get (codes "path") (json.object ms)) (keeps_of (get keeps_key (json.object ms))) else None
unwound_in j = unwound_at j false

-- ---- stages

abbrev pub stage_named : List ℕ → Option StageName
stage_named t =
    if bytes_eq t (codes "$match") then Some name.Match
    else if bytes_eq t (codes "$sort") then Some name.Sort
    else if bytes_eq t (codes "$skip") then Some name.Skip
    else if bytes_eq t (codes "$limit") then Some name.Limit
    else if bytes_eq t (codes "$project") then Some name.Project
    else if bytes_eq t (codes "$count") then Some name.Count
    else if bytes_eq t (codes "$unwind") then Some name.Unwind
    else if bytes_eq t (codes "$group") then Some name.Group
    else None

-- the question that a query is
abbrev pub IsQuestion : Json → Question → Type 0
IsQuestion j q = (a : Asked) × (query j ≡ Ok a) × StandsFor q a

-- the stage of a name that this says
abbrev pub IsNamed : StageName → Json → Stage → Type 0
IsNamed name.Match j s = (q : Question) × (s ≡ stage.Match q) × IsQuestion j q
IsNamed name.Sort j s = (ks : Vec SortKey Global) × (s ≡ stage.Sort ks) × (keys_under j ≡ Some (keys_of ks.items)) × (keys_under j ≢ Some [])
IsNamed name.Skip j s = (n : ℕ) × (s ≡ stage.Skip n) × IsCount j n
IsNamed name.Limit j s = (n : ℕ) × (s ≡ stage.Limit n) × IsCount j n × (n ≢ 0)
IsNamed name.Project j s = (f : Fields) × (s ≡ stage.Project f) × FieldsAre j (Some f)
IsNamed name.Count j s = (t : String Global) × (s ≡ stage.Count t) × (j ≡ json.string (string_bytes t)) × (is_field_name (string_bytes t) ≡ true)
IsNamed name.Unwind j s = (u : Unwinding) × (s ≡ stage.Unwind u) × (unwound_in j ≡ Some (unwound_of u))
IsNamed name.Group j s = (g : Grouping) × (s ≡ stage.Group g) × IsGrouping j g

-- an object of one member
abbrev pub IsStage : Json → Stage → Type 0
IsStage (json.object (member t j no_members)) s = (n : StageName) × (stage_named t ≡ Some n) × IsNamed n j s
IsStage _ s = ⊥

abbrev pub AreStages : Items → List Stage → Type 0
AreStages no_items ss = ss ≡ []
AreStages (item j js) ss = (s : Stage) × (rest : List Stage) × (ss ≡ s ∷ rest) × IsStage j s × AreStages js rest

-- ---- a pipeline

-- the query of a stage that is a `$match`
abbrev pub match_of : Json → Option Json
match_of (json.object (member t j no_members)) = if bytes_eq t (codes "$match") then Some j else None
match_of j = None

-- without a `$match` in front every document is asked for
abbrev pub AreAsked : Items → Question → List Stage → Type 0
AreAsked no_items q ss = StandsFor q (all_of no_asked) × (ss ≡ [])
AreAsked (item j js) q ss = MatchOption (match_of j) (StandsFor q (all_of no_asked) × AreStages (item j js) ss) (λ k. IsQuestion k q × AreStages js ss)

abbrev pub IsPipeline : Json → Question → List Stage → Type 0
IsPipeline (json.array js) q ss = AreAsked js q ss
IsPipeline j q ss = ⊥

abbrev pub HasPipeline : Given → Question → List Stage → Type 0
HasPipeline g q ss = (j : Json) × HasQuery g j × IsPipeline j q ss
