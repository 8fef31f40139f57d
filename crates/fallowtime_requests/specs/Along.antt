-- What `set` and `unset` ask for where a path stands in the place of a key.
use Rattle.std.specs.Prelude.{◌≡◌, ◌≢◌, ◌==◌, ℕ, List, [], ◌∷◌, codes, Bool, true, false, not, Option, Some, None, Ok, Vec}
use Rattle.std.specs.List.{list_any}
use Rattle.std.specs.declared.alloc.Global.{Global}
use Rattle.json.specs.Json.{Json}
use Rattle.bson_model.specs.View.{view}
use Rattle.fallowtime_requests.specs.Inputs.{flag_of}
use Rattle.fallowtime_requests.specs.declared.request.Request.{Request}
use Rattle.fallowtime_requests.specs.declared.request.Request.TheVariants as request
use Rattle.fallowtime_requests.specs.declared.stop.Stop.{Stop}
use Rattle.fallowtime_requests.specs.declared.stop.Stop.TheVariants.{Words, Memory}
use Rattle.fallowtime_requests.specs.declared.unread.Unread.TheVariants as unread
use Rattle.store_update.specs.Plan.{Change, Path, Plan, changes, sets, unsets}
use Rattle.store_update.specs.declared.operation.Step.{Step}
use Rattle.store_question_read.specs.UpdateOutcome.{Fails, plans_of}
use Rattle.store_question_read.specs.Read.{path}
use Rattle.store_question_read.specs.declared.update_error.ReadError.{ReadError}
use Rattle.store_question_read.specs.declared.update_error.ReadError.TheVariants as reading

-- ---- a path

abbrev pub is_dot : ℕ → Bool
is_dot b = b == 46

-- it has several keys
abbrev pub has_dot : List ℕ → Bool
has_dot key = list_any is_dot key

-- these are the keys of an operator's path, which stands by itself
abbrev pub IsPathOf : List ℕ → List ℕ → Path → Type 0
IsPathOf operator text p = path operator text [] ≡ Ok p

-- no such path can be one of the operator, and that is reported; or it is out of memory
abbrev pub StopsPath : List ℕ → List ℕ → Stop → Type 0
StopsPath operator text Memory = Unit {0}
StopsPath operator text (Words u) = (e : ReadError) × (u ≡ unread.Update e) × (e ≢ reading.Memory) × Fails e (path operator text [])

-- one change at that path is all that is planned
abbrev pub IsPlanned : List ℕ → List ℕ → Change → List Plan → Type 0
IsPlanned operator text change plans = (p : Path) × IsPathOf operator text p × (plans ≡ changes p change ∷ [])

-- ---- a request

-- what P says, if so; else it stays
abbrev pub BecomesIf : Bool → Request → (Request → Type 0) → Request → Type 0
BecomesIf true was P r = P r
BecomesIf false was P r = r ≡ was

-- a value that is set or taken away at a path of several keys is an update of the document; any other request stays
abbrev pub Along : Request → Request → Type 0
Along (request.Set id key v) r =
    BecomesIf (has_dot key.now) (request.Set id key v) (λ s. (steps : Vec Step Global) × IsPlanned (codes "$set") key.now (sets (view v)) (plans_of steps) × (s ≡ request.Alter id steps false)) r
Along (request.Unset id key) r =
    BecomesIf (has_dot key.now) (request.Unset id key) (λ s. (steps : Vec Step Global) × IsPlanned (codes "$unset") key.now unsets (plans_of steps) × (s ≡ request.Alter id steps true)) r
Along was r = r ≡ was

-- or such a path can't be one
abbrev pub StopsAlong : Request → Stop → Type 0
StopsAlong (request.Set id key v) s = (has_dot key.now ≡ true) × StopsPath (codes "$set") key.now s
StopsAlong (request.Unset id key) s = (has_dot key.now ≡ true) × StopsPath (codes "$unset") key.now s
StopsAlong was s = ⊥

-- so it is, unless the key is one as it is
abbrev pub AlongUnless : Bool → Request → Request → Type 0
AlongUnless literal was r = BecomesIf (not literal) was (Along was) r

abbrev pub StopsUnless : Bool → Request → Stop → Type 0
StopsUnless literal was s = (literal ≡ false) × StopsAlong was s

-- ---- the options of a line

-- whether the key is one as it is, by an object of options, if there is one
abbrev pub literal_in : Option Json → Option Bool
literal_in None = Some false
literal_in (Some o) = flag_of (codes "key") o
