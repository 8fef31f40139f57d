-- What a query fixes of the documents that answer it: the values of its equality conditions, each under its path.
use Rattle.std.specs.Prelude.{ℕ, pos, List, [], ◌∷◌, ◌++◌, codes, if◌then◌else◌, Option, Some, None, option_map, is_some, Result, Ok, Err}
use Rattle.std.specs.Str.{bytes_eq}
use Rattle.json.specs.Find.{get}
use Rattle.json.specs.Json as json
use Rattle.json.specs.Json.{Json, object}
use Rattle.bson_base.specs.Answer.{◌>>=◌}
use Rattle.bson_base.specs.Value.{Value}
use Rattle.bson_model.specs.View.{view}
use Rattle.store_question_read.specs.Query.{begins_with_dollar, has_operators}
use Rattle.store_update.specs.Plan.{Plan}
use Rattle.store_question_read.specs.UpdateOutcome.{plans_of}
use Rattle.store_question_read.specs.Read.{Fault, fault, field, value}
use Rattle.store_question_read.specs.declared.update_error.Reason.TheVariants as why
use Rattle.store_question_read.specs.declared.seed.Seed.{Seed}
use Rattle.store_question_read.specs.declared.update_words.Changing.TheVariants.{Set}
use Rattle.store_question_read.specs.declared.update_words.Operator.TheVariants.{At}

-- the value of the `_id`, if there is one, and what is set at other paths
pub record Fixed : Type 0 where
  pub id : Option Value
  pub plans : List Plan

abbrev pub fixed_by : Seed → Fixed
fixed_by s = record { id = option_map view s.id; plans = plans_of s.steps }

abbrev pub nothing : Fixed
nothing = record { id = None; plans = [] }

abbrev pub eq : List ℕ
eq = codes "$eq"

-- ---- one condition: the path that the key k is has this value

-- an `_id` has one value
abbrev pub with_id : Fixed → List ℕ → Json → Result Fixed Fault
with_id f k j = if is_some f.id then Err (fault why.Conflict eq k) else (value eq k j >>= λ v. Ok (record { id = Some v; plans = f.plans }))

-- any other path is read as `$set` reads it: it meets none before it
abbrev pub with_plan : Fixed → List ℕ → Json → Result Fixed Fault
with_plan f k j = field (pos 0) f.plans (At Set) eq k j >>= λ plan. Ok (record { id = f.id; plans = f.plans ++ plan ∷ [] })

abbrev pub with_value : Fixed → List ℕ → Json → Result Fixed Fault
with_value f k j = if bytes_eq k (codes "_id") then with_id f k j else with_plan f k j

-- among operators `$eq` alone is an equality
abbrev pub with_operand : Fixed → List ℕ → Option Json → Result Fixed Fault
with_operand f k (Some j) = with_value f k j
with_operand f k None = Ok f

abbrev pub with_condition : Fixed → List ℕ → Json → Result Fixed Fault
with_condition f k j = if has_operators j then with_operand f k (get eq j) else with_value f k j

-- ---- a query

-- an entry, with what the queries of an array say: of those that join queries `$and` alone says what holds
abbrev pub with_entry : Fixed → List ℕ → Json → Result Fixed Fault → Result Fixed Fault
with_entry f k j joined = if bytes_eq k (codes "$and") then joined else if begins_with_dollar k then Ok f else with_condition f k j

abbrev mutual
  pub with_query : Fixed → Json → Result Fixed Fault
  with_query f (object js) = with_entries f js
  with_query f json.null = Ok f
  with_query f (json.boolean b) = Ok f
  with_query f (json.number t) = Ok f
  with_query f (json.string t) = Ok f
  with_query f (json.array js) = Ok f

  pub with_entries : Fixed → json.Members → Result Fixed Fault
  with_entries f json.no_members = Ok f
  with_entries f (json.member k j js) = with_entry f k j (with_each f j) >>= λ g. with_entries g js

  pub with_each : Fixed → Json → Result Fixed Fault
  with_each f (json.array js) = with_queries f js
  with_each f json.null = Ok f
  with_each f (json.boolean b) = Ok f
  with_each f (json.number t) = Ok f
  with_each f (json.string t) = Ok f
  with_each f (object js) = Ok f

  pub with_queries : Fixed → json.Items → Result Fixed Fault
  with_queries f json.no_items = Ok f
  with_queries f (json.item j js) = with_query f j >>= λ g. with_queries g js

-- what a query fixes
abbrev pub fixed : Json → Result Fixed Fault
fixed j = with_query nothing j
