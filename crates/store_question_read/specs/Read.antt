-- An update in MongoDB's language: what it plans to do, or the first fault in the order of its text.
use Rattle.std.specs.Prelude.{ℕ, zero, ℤ, pos, negsuc, nat_abs, int_lt, ◌==◌, ◌&&◌, ◌||◌, not, Bool, true, false, if◌then◌else◌, List, [], ◌∷◌, ◌++◌, codes, Option, Some, None, Result, Ok, Err}
use Rattle.std.specs.List.{list_all, list_any}
use Rattle.std.specs.Ordering.{int_eq}
use Rattle.std.specs.Str.{bytes_eq}
use Rattle.json.specs.Find.{get}
use Rattle.json.specs.Json as json
use Rattle.json.specs.Json.{Json, object, string}
use Rattle.bson_base.specs.Answer.{◌>>=◌}
use Rattle.bson_base.specs.Value.{Value, scalar, int32, int64, double, decimal, regex, date_time, document}
use Rattle.bson_json_read.specs.Reading.{read}
use Rattle.bson_json_read.specs.declared.error.Error.{Error}
use Rattle.store_question_read.specs.Query.{first_named, keys}
use Rattle.store_update.specs.Plan.{Change, sets, sets_on_insert, unsets, adds, multiplies, least_with, greatest_with, pushes, includes, excludes, pops, Path, Plan, changes, renames}
use Rattle.store_update.specs.Update.{is_of_id}
use Rattle.store_update.specs.declared.operation.End.{End}
use Rattle.store_update.specs.declared.operation.End.TheVariants.{First, Last}
use Rattle.store_update.specs.declared.operation.Place.{Place}
use Rattle.store_update.specs.declared.operation.Place.TheVariants.{FromFirst, FromLast}
use Rattle.store_question_read.specs.declared.update_error.Reason.{Reason}
use Rattle.store_question_read.specs.declared.update_error.Reason.TheVariants as why
use Rattle.store_question_read.specs.declared.update_words.Operator.{Operator}
use Rattle.store_question_read.specs.declared.update_words.Operator.TheVariants.{At, Rename}
use Rattle.store_question_read.specs.declared.update_words.Changing.{Changing}
use Rattle.store_question_read.specs.declared.update_words.Changing.TheVariants.{Set, SetOnInsert, Unset, Inc, Mul, Min, Max, CurrentDate, Push, AddToSet, Pull, PullAll, Pop}

pub data Fault : Type 0 where
  -- an update is an object
  no_update : Fault
  -- there is no operator of this name
  no_operator : List ℕ → Fault
  -- under this operator should be an object of paths
  no_fields : List ℕ → Fault
  -- why the operator isn't made at the path
  fault : Reason → List ℕ → List ℕ → Fault

unfoldable pub operator_of : List ℕ → Option Operator
operator_of k =
    first_named
    ((codes "$set", At Set) ∷ (codes "$setOnInsert", At SetOnInsert) ∷ (codes "$unset", At Unset) ∷ (codes "$inc", At Inc) ∷ (codes "$mul", At Mul)
    ∷ (codes "$min", At Min) ∷ (codes "$max", At Max) ∷ (codes "$currentDate", At CurrentDate) ∷ (codes "$push", At Push) ∷ (codes "$addToSet", At AddToSet)
    ∷ (codes "$pull", At Pull) ∷ (codes "$pullAll", At PullAll) ∷ (codes "$pop", At Pop) ∷ (codes "$rename", Rename) ∷ [])
    k

-- ---- paths

-- two paths of which one is the beginning of the other
abbrev pub meets : Path → Path → Bool
meets [] q = true
meets (k ∷ ks) [] = true
meets (k ∷ ks) (l ∷ ls) = bytes_eq k l && meets ks ls

-- the plan is for a path that meets this one
abbrev pub touches : Path → Plan → Bool
touches q (changes p c) = meets p q
touches q (renames p to) = meets p q || meets to q

-- a key that a path may have
abbrev pub is_key : List ℕ → Bool
is_key [] = false
is_key (c ∷ cs) = not (c == 36)

-- ---- values

abbrev pub is_number : Value → Bool
is_number (scalar (int32 z)) = true
is_number (scalar (int64 z)) = true
is_number (scalar (double n)) = true
is_number (scalar (decimal bs)) = true
is_number _ = false

abbrev pub integer_of : Value → Option ℤ
integer_of (scalar (int32 z)) = Some z
integer_of (scalar (int64 z)) = Some z
integer_of _ = None

-- `$pull` takes a document and a regular expression for a condition
abbrev pub is_condition : Value → Bool
is_condition (scalar (regex p o)) = true
is_condition (document ms) = true
is_condition _ = false

-- by true, or as the kind of what is put there
abbrev pub is_date_type : List ℕ → Json → Bool
is_date_type k (string t) = bytes_eq k (codes "$type") && bytes_eq t (codes "date")
is_date_type k _ = false

abbrev pub asks_date : json.Members → Bool
asks_date (json.member k j json.no_members) = is_date_type k j
asks_date _ = false

abbrev pub is_for_date : Json → Bool
is_for_date (json.boolean b) = b
is_for_date (object js) = asks_date js
is_for_date _ = false

-- a place from the front, or from the back if it is negative
abbrev pub place_of : ℤ → Place
place_of z = if int_lt z (pos zero) then FromLast (nat_abs z) else FromFirst (nat_abs z)

abbrev pub end_of : ℤ → Option End
end_of z = if int_eq z (pos 1) then Some Last else if int_eq z (negsuc zero) then Some First else None

-- a key among those that say how items come into an array: `$each`, and if b where they are put and which are kept
abbrev pub is_modifier : Bool → List ℕ → Bool
is_modifier b k = bytes_eq k (codes "$each") || (b && (bytes_eq k (codes "$position") || bytes_eq k (codes "$slice")))

abbrev pub are_modifiers : Bool → json.Members → Bool
are_modifiers b json.no_members = true
are_modifiers b (json.member k j js) = is_modifier b k && are_modifiers b js

abbrev pub has_modifiers : Bool → Json → Bool
has_modifiers b (object js) = are_modifiers b js
has_modifiers b _ = false

-- ---- under the operator k, at the path p

module _ (k p : List ℕ) where
  abbrev pub only_if : {A : Type 0} → Bool → Reason → A → Result A Fault
  only_if b r x = if b then Ok x else Err (fault r k p)

  abbrev pub some_or_fault : {A : Type 0} → Option A → Result A Fault
  some_or_fault (Some x) = Ok x
  some_or_fault None = Err (fault why.Operand k p)

  abbrev pub or_fault : Result Value Error → Result Value Fault
  or_fault (Ok v) = Ok v
  or_fault (Err e) = Err (fault why.Operand k p)

  -- the keys of the path, which isn't that of the `_id`, nor meets one before it
  abbrev pub path : List Plan → Result Path Fault
  path done =
      only_if (list_all is_key (keys p)) why.Path (keys p)
      >>= λ ks. only_if (not (is_of_id ks)) why.Id ks
      >>= λ ks. only_if (not (list_any (touches ks) done)) why.Conflict ks

  abbrev pub value : Json → Result Value Fault
  value j = or_fault (read j)

  abbrev pub each_value : json.Items → Result (List Value) Fault
  each_value json.no_items = Ok []
  each_value (json.item j js) = value j >>= λ v. each_value js >>= λ vs. Ok (v ∷ vs)

  abbrev pub values : Json → Result (List Value) Fault
  values (json.array js) = each_value js
  values _ = Err (fault why.Operand k p)

  abbrev pub number : Json → Result Value Fault
  number j = value j >>= λ v. only_if (is_number v) why.Operand v

  abbrev pub integer : Json → Result ℤ Fault
  integer j = value j >>= λ v. some_or_fault (integer_of v)

  -- the date that is handed in
  abbrev pub date : ℤ → Json → Result Value Fault
  date now j = only_if (is_for_date j) why.Operand (scalar (date_time now))

  -- where items are put: behind all others, if nothing is said
  abbrev pub place : Option Json → Result Place Fault
  place None = Ok (FromLast 0)
  place (Some j) = integer j >>= λ z. Ok (place_of z)

  -- which items are kept: all, if nothing is said
  abbrev pub slice : Option Json → Result (Option Place) Fault
  slice None = Ok None
  slice (Some j) = integer j >>= λ z. Ok (Some (place_of z))

  abbrev pub one_value : Json → Result (List Value) Fault
  one_value j = value j >>= λ v. Ok (v ∷ [])

  -- of an operand that has the key `$each`, and under it the last one
  abbrev pub each : Bool → Json → Json → Result (List Value) Fault
  each b j listed = if has_modifiers b j then values listed else Err (fault why.Operand k p)

  -- the first is what is under `$each`, if there is such a key
  abbrev pub push : Option Json → Json → Result Change Fault
  push None j = one_value j >>= λ vs. Ok (pushes vs (FromLast 0) None)
  push (Some listed) j = each true j listed >>= λ vs. place (get (codes "$position") j) >>= λ a. slice (get (codes "$slice") j) >>= λ s. Ok (pushes vs a s)

  abbrev pub include : Option Json → Json → Result Change Fault
  include None j = one_value j >>= λ vs. Ok (includes vs)
  include (Some listed) j = each false j listed >>= λ vs. Ok (includes vs)

  abbrev pub pull : Json → Result Change Fault
  pull j = value j >>= λ v. only_if (not (is_condition v)) why.Operand (excludes (v ∷ []))

  abbrev pub pop : Json → Result Change Fault
  pop j = integer j >>= λ z. some_or_fault (end_of z) >>= λ e. Ok (pops e)

  -- what the operator's operand says
  abbrev pub change : ℤ → Changing → Json → Result Change Fault
  change now Set j = value j >>= λ v. Ok (sets v)
  change now SetOnInsert j = value j >>= λ v. Ok (sets_on_insert v)
  change now Unset j = Ok unsets
  change now Inc j = number j >>= λ v. Ok (adds v)
  change now Mul j = number j >>= λ v. Ok (multiplies v)
  change now Min j = value j >>= λ v. Ok (least_with v)
  change now Max j = value j >>= λ v. Ok (greatest_with v)
  change now CurrentDate j = date now j >>= λ v. Ok (sets v)
  change now Push j = push (get (codes "$each") j) j
  change now AddToSet j = include (get (codes "$each") j) j
  change now Pull j = pull j
  change now PullAll j = values j >>= λ vs. Ok (excludes vs)
  change now Pop j = pop j

  -- `$rename` has the other path as a text
  abbrev pub target : Json → Result (List ℕ) Fault
  target (string t) = Ok t
  target _ = Err (fault why.Operand k p)

-- ---- one operator at one path, after the plans that are done

-- the value at a path goes to another one
abbrev pub renamed : List Plan → List ℕ → List ℕ → Path → Json → Result Plan Fault
renamed done k p ks j = target k p j >>= λ t. path k t done >>= λ to. only_if k t (not (meets ks to)) why.Conflict (renames ks to)

abbrev pub at_path : ℤ → List Plan → Operator → List ℕ → List ℕ → Json → Path → Result Plan Fault
at_path now done (At o) k p j ks = change k p now o j >>= λ c. Ok (changes ks c)
at_path now done Rename k p j ks = renamed done k p ks j

abbrev pub field : ℤ → List Plan → Operator → List ℕ → List ℕ → Json → Result Plan Fault
field now done o k p j = path k p done >>= λ ks. at_path now done o k p j ks

abbrev pub fields : ℤ → Operator → List ℕ → List Plan → json.Members → Result (List Plan) Fault
fields now o k done json.no_members = Ok done
fields now o k done (json.member p j js) = field now done o k p j >>= λ plan. fields now o k (done ++ plan ∷ []) js

abbrev pub entry : ℤ → List Plan → Option Operator → List ℕ → Json → Result (List Plan) Fault
entry now done None k j = Err (no_operator k)
entry now done (Some o) k (object js) = fields now o k done js
entry now done (Some o) k _ = Err (no_fields k)

abbrev pub entries : ℤ → List Plan → json.Members → Result (List Plan) Fault
entries now done json.no_members = Ok done
entries now done (json.member k j js) = entry now done (operator_of k) k j >>= λ plans. entries now plans js

-- what is planned; the number is the date that is handed in
abbrev pub update : ℤ → Json → Result (List Plan) Fault
update now (object js) = entries now [] js
update now _ = Err no_update
